use Rattle.std.proofs.Common.{◌<◌, ◌≤◌, ◌*◌, drop, length}
use Rattle.reply_pieces.proofs.Putting.{PutsSoFar}
use Rattle.search_paths.specs.Path.{rows_of}
use Rattle.console_session.specs.Commands.{mount_lines}
use Rattle.console_session.proofs.replies.put_mount_lines.Given as goal

abbrev pub invariant-loop-number : goal.invariant-loop-number
invariant-loop-number g l =
    let rows = rows_of l.paths in
    record {
      put : PutsSoFar g.O.Sink (mount_lines rows) (mount_lines (drop l.number rows)) l.initial.out l.out;
      few : 0 < l.number → length rows ≤ 33 * 65536;
    }
