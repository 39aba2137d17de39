use Rattle.std.proofs.Common.{drop}
use Rattle.reply_pieces.proofs.Putting.{PutsSoFar}
use Rattle.block_report.specs.Reports.{rows_of, row_lines, part_lines}
use Rattle.block_report.proofs.Part.put_rows.Given as goal

abbrev pub invariant-loop-number : goal.invariant-loop-number
invariant-loop-number g l =
    let m = g.M.Store.state l.store in
    PutsSoFar g.O.Sink (part_lines m l.self) (row_lines l.self (drop l.number (rows_of m l.self))) l.initial.out l.out
