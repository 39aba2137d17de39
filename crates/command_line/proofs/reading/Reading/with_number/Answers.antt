use Rattle.command_line.proofs.Readings.{no_number}
use Rattle.command_line.proofs.Takes.{takes_number}
use Rattle.command_line.proofs.reading.Reading.with_number.Goals as goal

pub returns-in_err-number : goal.returns-in_err-number
returns-in_err-number c = λ most words read.
    rw c.from_residual.ensures (no_number words most c.args.self c.args.word.now c.args.quantity read c.requires c.in_err-number.ensures)

pub returns : goal.returns
returns c = λ most words read.
    rw c.with_set.ensures (takes_number words most c.args.self (record { quantity = c.args.quantity; word = c.args.word.now; number = c.in_ok-number.number }) read c.requires c.in_ok-number.ensures)
