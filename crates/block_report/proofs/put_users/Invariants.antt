use Rattle.std.proofs.Common.{drop}
use Rattle.reply_pieces.proofs.Putting.{PutsSoFar}
use Rattle.block_report.specs.Reports.{user_lines}
use Rattle.block_report.proofs.put_users.Given as goal

abbrev pub invariant-loop-number : goal.invariant-loop-number
invariant-loop-number g l =
    let users = (g.M.Store.state l.store).cache.recency in
    PutsSoFar g.O.Sink (user_lines users) (user_lines (drop l.number users)) l.initial.out l.out
