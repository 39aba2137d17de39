use Rattle.std.proofs.Common.{◌+◌, drop, ap, arith}
use Rattle.std.proofs.lemmas.List.{drop_more}
use Rattle.std.proofs.lemmas.Result.{err_from_is_err_and}
use Rattle.reply_pieces.proofs.Putting.{none_put, part_put, part_cut}
use Rattle.block_report.specs.Reports.{sections, sections_text, report_text}
use Rattle.block_report.proofs.report.Goals as goal

pub loop-section-init : goal.loop-section-init
unfolding report_text
loop-section-init g c = none_put g.O.Sink (report_text (g.M.Store.state c.args.store.now)) c.args.out.now

pub returns-in_err-put : goal.returns-in_err-put
returns-in_err-put g c =
    let m = g.M.Store.state c.args.store.now in
    let p = err_from_is_err_and c.from_residual.result c.from_residual.ensures.1 in
    rw (p.1, p.2) (part_cut g.O.Sink (report_text m) _ _ c.loop-section.invariant
    (ap (sections_text m) (drop_more sections c.loop-section.section-index _ (omega arith))) c.in_err-put.ensures)

pub loop-section-preserved : goal.loop-section-preserved
loop-section-preserved g c =
    let m = g.M.Store.state c.args.store.now in
    part_put g.O.Sink (report_text m) _ (sections_text m (drop (c.loop-section.section-index + 1) sections)) c.loop-section.invariant
    (ap (sections_text m) (drop_more sections c.loop-section.section-index _ (omega arith))) c.in_ok-put.ensures
