use Rattle.reply_pieces.proofs.Putting.{PutsSoFar}
use Rattle.info_text.specs.Pictures.{row_text, rows_text}
use Rattle.info_text.proofs.RangeLaws.{texts_from}
use Rattle.info_text.proofs.pictures.put_rows.Given as goal

abbrev pub invariant-loop-row : goal.invariant-loop-row
invariant-loop-row g l =
    PutsSoFar g.O.Sink (rows_text l.picture l.image) (texts_from (row_text l.picture l.image) l.picture.height l.row)
    l.initial.out l.out
