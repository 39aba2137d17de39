use Rattle.std.proofs.Common.{◌-◌}
use Rattle.reply_pieces.proofs.Putting.{PutsSoFar}
use Rattle.wad2_lumps.specs.Wads.{count_in}
use Rattle.info_text.specs.Wads.{row_text, rows_text}
use Rattle.info_text.proofs.RangeLaws.{texts_from}
use Rattle.info_text.proofs.wads.put_lumps.Given as goal

abbrev pub invariant-rows : goal.invariant-rows
invariant-rows g l =
    PutsSoFar g.O.Sink (rows_text l.image) (texts_from (row_text l.image) (count_in l.image) l.number)
    l.initial.out l.out

abbrev pub decreases-rows : goal.decreases-rows
decreases-rows g l = count_in l.image - l.number
