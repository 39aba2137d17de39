use Rattle.reply_pieces.proofs.Putting.{PutsSoFar}
use Rattle.bsp29_build.specs.Readers.{count_told}
use Rattle.info_text.specs.Brushes.{texture_row, textures_text}
use Rattle.info_text.proofs.RangeLaws.{texts_from}
use Rattle.info_text.proofs.brushes.put_textures.Given as goal

abbrev pub invariant-loop-number : goal.invariant-loop-number
invariant-loop-number g l =
    PutsSoFar g.O.Sink (textures_text l.image) (texts_from (texture_row l.image) (count_told l.image 2) l.number)
    l.initial.out l.out
