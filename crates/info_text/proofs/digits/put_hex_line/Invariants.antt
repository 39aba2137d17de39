use Rattle.std.proofs.Common.{◌≡◌}
use Rattle.std.specs.Slice.Iter.{chunks_rest, chunks_size}
use Rattle.reply_pieces.proofs.Putting.{PutsSoFar}
use Rattle.info_text.specs.Dumps.{hex_line}
use Rattle.info_text.proofs.digits.put_hex_line.Given as goal

abbrev pub invariant-loop-bytes : goal.invariant-loop-bytes
invariant-loop-bytes g l =
    (goal.iterator-loop-bytes g).can_next l.bytes-iterator
    × (goal.iterator-loop-bytes g).is_finite l.bytes-iterator
    × (chunks_size l.bytes-iterator ≡ 32)
    × PutsSoFar g.O.Sink (hex_line l.line) (hex_line (chunks_rest l.bytes-iterator)) l.initial.out l.out
