use Rattle.std.proofs.Common.{sym}
use Rattle.std.specs.Prelude.{is_ok}
use Rattle.console_session.specs.Frames.{line}
use Rattle.console_session.specs.Serving.{seen}
use Rattle.console_session.proofs.Lining.{line_fits, line_over, same_run, same_none}
use Rattle.console_session.proofs.console.Console.run_line.Goals as goal

pub returns-then-is_ok : goal.returns-then-is_ok
returns-then-is_ok g c =
    let s = seen g.M.Store g.F.Folder c.args.self.now in
    let added = c.add_line.ensures in
    let is = line_fits s c.args.typed.now c.add_line.new.self (is_ok c.add_line.result) added.full added.added (sym c.if-is_ok.ensures.value) in
    record {
      told = same_run (line c.args.typed.now s) _ _ _ _ _ is c.run_frame.ensures.told;
      path = c.run_frame.ensures.path;
      holds = c.run_frame.ensures.holds;
      causes = c.run_frame.ensures.causes;
      calls = λ none. c.run_frame.ensures.calls (same_none (line c.args.typed.now s) _ is none);
    }

pub returns-else-is_ok : goal.returns-else-is_ok
returns-else-is_ok g c =
    let s = seen g.M.Store g.F.Folder c.args.self.now in
    let added = c.add_line.ensures in
    let is = line_over s c.args.typed.now c.add_line.new.self (is_ok c.add_line.result) added.full added.added (sym c.if-is_ok.ensures.value) in
    record {
      told = same_run (line c.args.typed.now s) _ _ _ _ _ is c.run_overflow.ensures.told;
      path = c.run_overflow.ensures.path;
      holds = c.run_overflow.ensures.holds;
      causes = c.run_overflow.ensures.causes;
      calls = λ none. c.run_overflow.ensures.calls (same_none (line c.args.typed.now s) _ is none);
    }
