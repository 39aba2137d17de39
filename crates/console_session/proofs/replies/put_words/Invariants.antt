use Rattle.std.proofs.Common.{drop, length}
use Rattle.reply_pieces.proofs.Putting.{PutsSoFar}
use Rattle.console_session.specs.Commands.{spaced}
use Rattle.console_session.proofs.replies.put_words.Given as goal

abbrev pub invariant-words : goal.invariant-words
invariant-words g l = PutsSoFar g.O.Sink (spaced (drop 1 l.words)) (spaced l.left) l.initial.out l.out

abbrev pub decreases-words : goal.decreases-words
decreases-words g l = length l.left
