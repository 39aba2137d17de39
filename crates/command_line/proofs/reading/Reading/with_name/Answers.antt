use Rattle.command_line.proofs.Readings.{no_second, set_from_given, unset_from_given}
use Rattle.command_line.proofs.Takes.{takes_name}
use Rattle.command_line.proofs.reading.Reading.with_name.Goals as goal

pub returns-then-is_some : goal.returns-then-is_some
returns-then-is_some c = λ most words read.
    no_second words most c.args.self c.args.word.now c.args.quantity read c.requires.none c.requires.front c.requires.name
    (set_from_given c.args.quantity read.settings (cc (c.given.ensures, read.numbers c.args.quantity, c.is_some.ensures)))

pub returns : goal.returns
returns c = λ most words read.
    takes_name words most c.args.self c.args.word.now c.args.quantity read c.requires.none c.requires.front c.requires.name
    (unset_from_given c.args.quantity read.settings (cc (c.given.ensures, read.numbers c.args.quantity, c.is_some.ensures)))
