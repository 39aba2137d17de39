use Rattle.std.proofs.Common.{◌≡◌, ◌+◌, ◌-◌, ◌*◌, ◌++◌, length, take, ap, arith}
use Rattle.std.proofs.lemmas.List.{take_all}
use Rattle.std.proofs.lemmas.Slice.{take-put_mid}
use borrow.Rule.Slice.PartMut.{put_mid}
use Rattle.sprite_load.specs.Parts.{frame}
use Rattle.sprite_load.specs.Rows.{plus_row, add_row}
use Rattle.part_plan.proofs.Each.{fold_done}
use Rattle.sprite_load.proofs.FrameLaws.{frame_step, frame_stop}
use Rattle.sprite_load.proofs.RowLaws.{rows_written, rows_refused}
use Rattle.sprite_load.proofs.rows.put_frame_rows.Goals as goal

pub returns-in-Err : goal.returns-in-Err
returns-in-Err c =
    rows_refused _ c.loop-row.block c.in-Err.field-0 (frame_stop add_row (record { first = c.loop-row.first; text = take (12 * c.loop-row.row) c.loop-row.block }) c.args.count c.loop-row.row c.loop-row.rest.now c.in-Err.field-0 _ c.loop-row-test.true c.in-Err.ensures.value c.loop-row.invariant.same)

pub loop-row-preserved : goal.loop-row-preserved
loop-row-preserved c =
    let at = 12 * c.loop-row.row in
    let dst = c.loop-row.block in
    let part = c.put_frame_row.new.block in
    let m = c.in-Ok.read.0 in
    let len : length part ≡ 12 = ap length c.put_frame_row.ensures in
    let cut : take (12 * (c.loop-row.row + 1)) (put_mid at (at + 12 - at) dst part) ≡ take at dst ++ part = take-put_mid at (at + 12 - at) dst part (12 * (c.loop-row.row + 1)) (omega (arith, len)) (omega arith) in
    record {
      same = rw (cut, c.put_frame_row.ensures) (frame_step plus_row (record { first = c.loop-row.first; text = take at dst }) c.args.count c.loop-row.row c.loop-row.rest.now m c.in-Ok.read.1.now _ c.loop-row-test.true c.in-Ok.ensures.value c.loop-row.invariant.same);
      room = omega (arith, c.in-Ok.ensures.taken);
    }

pub returns : goal.returns
returns c =
    let dst = c.loop-row.block in
    let text = take (12 * c.loop-row.row) dst in
    let whole : text ≡ dst = take_all (12 * c.loop-row.row) dst (omega arith) in
    let done = fold_done frame add_row (record { first = c.loop-row.first; text = text }) c.args.count c.loop-row.row c.loop-row.rest.now _ c.loop-row-test.false c.loop-row.invariant.same in
    rw (← whole) (rows_written _ c.loop-row.first text c.loop-row.rest.now done)
