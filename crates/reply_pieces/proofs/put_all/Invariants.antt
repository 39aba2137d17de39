use Rattle.std.proofs.Common.{drop}
use Rattle.reply_pieces.specs.Pieces.{text_of}
use Rattle.reply_pieces.proofs.Putting.{PutsSoFar}
use Rattle.reply_pieces.proofs.put_all.Given as goal

abbrev pub invariant-loop-piece : goal.invariant-loop-piece
invariant-loop-piece g l = PutsSoFar g.O.Sink (text_of l.pieces) (text_of (drop l.piece-index l.pieces)) l.initial.out l.out
