use Rattle.std.proofs.Common.{◌+◌, drop, ap, arith}
use Rattle.std.proofs.lemmas.List.{drop_all}
use Rattle.std.proofs.lemmas.Result.{err_from_is_err_and}
use Rattle.reply_pieces.proofs.Putting.{part_put, part_cut, all_was_put}
use Rattle.block_report.specs.Reports.{rows_of, row_lines, part_lines}
use Rattle.block_report.proofs.Few.{few_rows}
use Rattle.reply_pieces.proofs.Lines.{past, next}
use Rattle.block_report.proofs.Part.put_rows.Goals as goal

pub returns-in_default : goal.returns-in_default
returns-in_default g c =
    let rows = rows_of (g.M.Store.state c.args.store.now) c.args.self in
    all_was_put g.O.Sink c.loop-number.invariant
    (ap (row_lines c.args.self) (drop_all c.loop-number.number rows (past rows c.loop-number.number c.in_default.ensures)))

pub returns-in_err-put_row : goal.returns-in_err-put_row
returns-in_err-put_row g c =
    let m = g.M.Store.state c.args.store.now in
    let p = err_from_is_err_and c.from_residual.result c.from_residual.ensures.1 in
    rw (p.1, p.2) (part_cut g.O.Sink (part_lines m c.args.self) _ _ c.loop-number.invariant
    (ap (row_lines c.args.self) (next (rows_of m c.args.self) c.loop-number.number c.in-Some.ensures)) c.in_err-put_row.ensures)

pub loop-number-preserved : goal.loop-number-preserved
loop-number-preserved g c =
    let m = g.M.Store.state c.args.store.now in
    part_put g.O.Sink (part_lines m c.args.self) _ (row_lines c.args.self (drop (c.loop-number.number + 1) (rows_of m c.args.self))) c.loop-number.invariant
    (ap (row_lines c.args.self) (next (rows_of m c.args.self) c.loop-number.number c.in-Some.ensures)) c.in_ok-put_row.ensures

pub returns : goal.returns
returns g c =
    let m = g.M.Store.state c.args.store.now in
    all_was_put g.O.Sink c.loop-number.invariant
    (ap (row_lines c.args.self) (drop_all c.loop-number.number (rows_of m c.args.self) (omega (arith, few_rows m c.args.self c.size-number-end.ensures.laid))))
