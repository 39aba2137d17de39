use Rattle.cmd_buffer.specs.Buffer.{taken_text as text_taken, cut}
use Rattle.console_session.specs.Commands.{command, by_text}
use Rattle.console_session.specs.Serving.{seen}
use Rattle.console_session.proofs.Following.{command_is}
use Rattle.console_session.proofs.Serving.{does_from}
use Rattle.console_session.proofs.Holding.{holds_buffer}
use Rattle.console_session.proofs.Taking.{cut_rest, taken_text}
use Rattle.console_session.proofs.console.Console.run_command.Goals as goal

pub returns-in-Some : goal.returns-in-Some
returns-in-Some g c =
    does_from g.M.Store g.F.Folder g.O.Sink c.args.self.now c.run_taken.new.self c.args.out.now _ _ command (by_text (text_taken c.take.new.text.items c.in-Some.taken)) c.take.new.self
    (command_is (seen g.M.Store g.F.Folder c.args.self.now) (text_taken c.take.new.text.items c.in-Some.taken) c.take.new.self c.requires.some c.in-Some.ensures.command c.in-Some.ensures.rest) c.run_taken.ensures

pub run_taken-requires-clause-holds : goal.run_taken-requires-clause-holds
run_taken-requires-clause-holds g c =
    let s = seen g.M.Store g.F.Folder c.args.self.now in
    holds_buffer s c.take.new.self c.requires.holds (cut_rest s.buffer (cut s.buffer).command c.take.new.self c.take.ensures.shortest c.requires.holds.text)

pub run_taken-requires-clause-text : goal.run_taken-requires-clause-text
run_taken-requires-clause-text g c =
    let s = seen g.M.Store g.F.Folder c.args.self.now in
    taken_text s.buffer c.take.new.self (text_taken c.take.new.text.items c.in-Some.taken) c.take.ensures.shortest c.requires.holds.text c.requires.some c.in-Some.ensures.command
