use Rattle.std.proofs.Common.{◌≡◌, ◌+◌, ◌*◌, ◌-◌, ◌/◌, length, ap, ◌∙◌, arith}
use Rattle.bsp29_build.specs.Parents.{blank_row}
use Rattle.bsp29_build.proofs.RowEdits.{row_among, written_more}
use Rattle.bsp29_build.proofs.ParentLaws.{length-blank_row}
use Rattle.bsp29_build.proofs.parents.put_rows.Goals as goal

pub loop-n-preserved : goal.loop-n-preserved
loop-n-preserved c =
    let n = c.loop-n.n in
    let size = c.args.size in
    let table = c.args.rows.now in
    let width : n * size + size - n * size ≡ size = omega arith in
    let is : c.put_row.new.out ≡ blank_row size table n = rw width at c.put_row.ensures in
    let len = length-blank_row size table n c.loop-n-test.true in
    let room =
    row_among (size + 4) (length table / size) (length c.loop-n.out) n (c.loop-n.auto.out ∙ c.requires.room)
    c.loop-n-test.true in
    written_more c.put_row.new.out c.loop-n.invariant is (ap length is ∙ len) (omega (arith, room))
