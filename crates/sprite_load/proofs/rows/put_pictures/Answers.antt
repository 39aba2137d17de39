use Rattle.std.proofs.Common.{◌≡◌, ◌+◌, ◌-◌, ◌*◌, ◌++◌, length, take, drop, ◌∙◌, arith}
use Rattle.std.proofs.lemmas.List.{take_all, length-take, length-drop}
use Rattle.std.proofs.lemmas.Slice.{take-put_mid}
use borrow.Rule.Slice.PartMut.{put_mid}
use Rattle.sprite_load.specs.Parts.{picture_in}
use Rattle.sprite_load.specs.Rows.{Places, add_picture, no_places}
use Rattle.part_plan.proofs.Each.{fold_done, fold_refused}
use Rattle.sprite_load.proofs.RowLaws.{places_written, places_more, places_stop}
use Rattle.sprite_load.proofs.rows.put_pictures.Goals as goal

pub returns-in-Err : goal.returns-in-Err
returns-in-Err c =
    let s : Places = record { intervals = drop (4 * c.loop-i.i) c.args.intervals.now; at = c.loop-i.pixels_at; text = take (24 * c.loop-i.i) c.loop-i.block } in
    fold_refused add_picture (no_places c.args.intervals.now c.args.from) _ _ c.in-Err.field-0 (places_stop c.args.row s c.args.count c.loop-i.i c.loop-i.rest.now c.in-Err.field-0 _ c.loop-i-test.true c.in-Err.ensures.value c.loop-i.invariant.same)

pub loop-i-preserved : goal.loop-i-preserved
loop-i-preserved c =
    let at = 24 * c.loop-i.i in
    let dst = c.loop-i.block in
    let part = c.put_picture_row.new.block in
    let p = c.in-Ok.read.0 in
    let len : length part ≡ 24 = c.put_picture_row.auto.block ∙ simp (length-take, length-drop) (omega arith) in
    let cut : take (24 * (c.loop-i.i + 1)) (put_mid at (at + 24 - at) dst part) ≡ take at dst ++ part = take-put_mid at (at + 24 - at) dst part (24 * (c.loop-i.i + 1)) (omega (arith, len)) (omega arith) in
    record {
      same = rw (cut, c.put_picture_row.ensures, c.interval_at-interval.ensures) (places_more c.args.row c.args.intervals.now c.loop-i.pixels_at (take at dst) c.args.count c.loop-i.i c.loop-i.rest.now (record { head = p.head.now; pixels = p.pixels.now }) c.in-Ok.read.1.now _ c.loop-i-test.true c.in-Ok.ensures.value c.loop-i.invariant.same);
      room = omega (arith, c.in-Ok.ensures.taken);
    }

pub returns : goal.returns
returns c =
    let dst = c.loop-i.block in
    let text = take (24 * c.loop-i.i) dst in
    let whole : text ≡ dst = take_all (24 * c.loop-i.i) dst (omega arith) in
    let s : Places = record { intervals = drop (4 * c.loop-i.i) c.args.intervals.now; at = c.loop-i.pixels_at; text = text } in
    let done = fold_done (picture_in c.args.row) add_picture s c.args.count c.loop-i.i c.loop-i.rest.now _ c.loop-i-test.false c.loop-i.invariant.same in
    rw (← whole) (places_written _ c.args.intervals.now c.args.from s c.loop-i.rest.now done)
