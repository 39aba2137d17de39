use Rattle.std.proofs.Common.{◌+◌, drop, ap, arith}
use Rattle.std.proofs.lemmas.List.{drop_all}
use Rattle.std.proofs.lemmas.Result.{err_from_is_err_and}
use Rattle.reply_pieces.proofs.Lines.{past, next}
use Rattle.reply_pieces.proofs.Putting.{part_put, part_cut, all_was_put}
use Rattle.search_paths.specs.Path.{rows_of}
use Rattle.console_session.specs.Commands.{mount_lines}
use Rattle.console_session.proofs.replies.put_mount_lines.Goals as goal

pub returns-in_default : goal.returns-in_default
returns-in_default g c =
    let rows = rows_of c.args.paths.now in
    all_was_put g.O.Sink c.loop-number.invariant.put
    (ap mount_lines (drop_all c.loop-number.number rows (past rows c.loop-number.number c.in_default.ensures.row)))

pub returns-in_err-put_mount : goal.returns-in_err-put_mount
returns-in_err-put_mount g c =
    let rows = rows_of c.args.paths.now in
    let p = err_from_is_err_and c.from_residual.result c.from_residual.ensures.1 in
    rw (p.1, p.2) (part_cut g.O.Sink (mount_lines rows) _ _ c.loop-number.invariant.put
    (ap mount_lines (next rows c.loop-number.number c.in-Some.ensures.row)) c.in_err-put_mount.ensures)

pub loop-number-preserved : goal.loop-number-preserved
loop-number-preserved g c =
    let rows = rows_of c.args.paths.now in
    record {
      put = part_put g.O.Sink (mount_lines rows) _ (mount_lines (drop (c.loop-number.number + 1) rows)) c.loop-number.invariant.put
          (ap mount_lines (next rows c.loop-number.number c.in-Some.ensures.row)) c.in_ok-put_mount.ensures;
      few = λ some. c.in-Some.ensures.few;
    }

pub returns : goal.returns
returns g c =
    let rows = rows_of c.args.paths.now in
    all_was_put g.O.Sink c.loop-number.invariant.put
    (ap mount_lines (drop_all c.loop-number.number rows (omega (arith, c.loop-number.invariant.few (omega arith)))))
