use Rattle.std.proofs.Common.{drop}
use Rattle.reply_pieces.proofs.Putting.{PutsSoFar}
use Rattle.block_report.specs.Reports.{sections, sections_text, report_text}
use Rattle.block_report.proofs.report.Given as goal

abbrev pub invariant-loop-section : goal.invariant-loop-section
invariant-loop-section g l =
    let m = g.M.Store.state l.store in
    PutsSoFar g.O.Sink (report_text m) (sections_text m (drop l.section-index sections)) l.initial.out l.out
