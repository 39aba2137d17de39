use Rattle.std.proofs.Common.{◌+◌, drop, ap, arith}
use Rattle.std.proofs.lemmas.List.{drop_all}
use Rattle.std.proofs.lemmas.Result.{err_from_is_err_and}
use Rattle.reply_pieces.proofs.Putting.{part_put, part_cut, all_was_put}
use Rattle.block_report.specs.Reports.{user_lines}
use Rattle.block_report.proofs.Few.{few_users}
use Rattle.reply_pieces.proofs.Lines.{past, next}
use Rattle.block_report.proofs.put_users.Goals as goal

pub returns-in_default : goal.returns-in_default
returns-in_default g c =
    let users = (g.M.Store.state c.args.store.now).cache.recency in
    all_was_put g.O.Sink c.loop-number.invariant
    (ap user_lines (drop_all c.loop-number.number users (past users c.loop-number.number c.in_default.ensures.user)))

pub returns-in_err-put_user : goal.returns-in_err-put_user
returns-in_err-put_user g c =
    let users = (g.M.Store.state c.args.store.now).cache.recency in
    let p = err_from_is_err_and c.from_residual.result c.from_residual.ensures.1 in
    rw (p.1, p.2) (part_cut g.O.Sink (user_lines users) _ _ c.loop-number.invariant
    (ap user_lines (next users c.loop-number.number c.in-Some.ensures.user)) c.in_err-put_user.ensures)

pub loop-number-preserved : goal.loop-number-preserved
loop-number-preserved g c =
    let users = (g.M.Store.state c.args.store.now).cache.recency in
    part_put g.O.Sink (user_lines users) _ (user_lines (drop (c.loop-number.number + 1) users)) c.loop-number.invariant
    (ap user_lines (next users c.loop-number.number c.in-Some.ensures.user)) c.in_ok-put_user.ensures

pub returns : goal.returns
returns g c =
    let m = g.M.Store.state c.args.store.now in
    all_was_put g.O.Sink c.loop-number.invariant
    (ap user_lines (drop_all c.loop-number.number m.cache.recency (omega (arith, few_users m c.size-number-end.ensures.laid))))
