use Rattle.std.proofs.Common.{rules, ◌≡◌, ℕ, ◌+◌, ◌-◌, ◌≤◌, List, [], ◌++◌, length, take, Result, ap, subst, arith}
use Rattle.std.specs.Prelude.{IsOkAnd}
use Rattle.std.proofs.lemmas.List.{take_all}
use Rattle.std.proofs.lemmas.Slice.{take-put_mid}
use borrow.Rule.Slice.PartMut.{put_mid}
use Rattle.sprite_load.specs.declared.fault.SpriteFault.{SpriteFault}
use Rattle.sprite_load.specs.Sprites.{Picture}
use Rattle.sprite_load.specs.Parts.{picture_in}
use Rattle.sprite_load.specs.Rows.{add_text}
use Rattle.sprite_load.specs.Sizes.{add_pixels}
use Rattle.part_plan.proofs.Each.{fold_done, fold_refused}
use Rattle.sprite_load.proofs.FrameLaws.{picture_more}
use Rattle.sprite_load.proofs.PixelLaws.{text_written, grow_pixels, text_more, text_stop}
use Rattle.sprite_load.proofs.pixels.put_pixels.Goals as goal

pub returns-in-Err : goal.returns-in-Err
returns-in-Err c =
    fold_refused add_text [] _ _ c.in-Err.field-0 (text_stop c.args.row (take c.loop-i.at c.loop-i.block) c.args.count c.loop-i._i c.loop-i.rest.now c.in-Err.field-0 _ c.loop-i-test.true c.in-Err.ensures.value c.loop-i.invariant.same)

pub overflow_add-end : goal.overflow_add-end
overflow_add-end c =
    let p = c.in-Ok.read.0 in
    let next = picture_more c.args.row c.loop-i.at c.args.count c.loop-i._i c.loop-i.rest.now (record { head = p.head.now; pixels = p.pixels.now }) c.in-Ok.read.1.now _ c.loop-i-test.true c.in-Ok.ensures.value c.loop-i.invariant.sized in
    let room = grow_pixels (c.loop-i.at + length p.pixels.now) (length c.args.block.now) _ _ c.requires.counted next in
    omega (arith, room)

pub slice_bounds-copy_from_slice-end : goal.slice_bounds-copy_from_slice-end
slice_bounds-copy_from_slice-end c =
    let p = c.in-Ok.read.0 in
    let next = picture_more c.args.row c.loop-i.at c.args.count c.loop-i._i c.loop-i.rest.now (record { head = p.head.now; pixels = p.pixels.now }) c.in-Ok.read.1.now _ c.loop-i-test.true c.in-Ok.ensures.value c.loop-i.invariant.sized in
    let room = grow_pixels (c.loop-i.at + length p.pixels.now) (length c.args.block.now) _ _ c.requires.counted next in
    let there : c.loop-i.at + length p.pixels.now ≤ length c.loop-i.block = omega (arith, room) in
    search rules

pub loop-i-preserved : goal.loop-i-preserved
loop-i-preserved c =
    let p = c.in-Ok.read.0 in
    let at = c.loop-i.at in
    let dst = c.loop-i.block in
    let part = c.copy_from_slice.new.self in
    let q : Picture = record { head = p.head.now; pixels = p.pixels.now } in
    let next = picture_more c.args.row at c.args.count c.loop-i._i c.loop-i.rest.now q c.in-Ok.read.1.now _ c.loop-i-test.true c.in-Ok.ensures.value c.loop-i.invariant.sized in
    let room = grow_pixels (at + length p.pixels.now) (length c.args.block.now) _ _ c.requires.counted next in
    let len : length part ≡ length p.pixels.now = ap length c.copy_from_slice.ensures.after in
    let cut : take (at + length p.pixels.now) (put_mid at (at + length p.pixels.now - at) dst part) ≡ take at dst ++ part
    = take-put_mid at (at + length p.pixels.now - at) dst part (at + length p.pixels.now) (omega (arith, len)) (omega (arith, room)) in
    let more = text_more c.args.row (take at dst) c.args.count c.loop-i._i c.loop-i.rest.now q c.in-Ok.read.1.now _ c.loop-i-test.true c.in-Ok.ensures.value c.loop-i.invariant.same in
    record { sized = next; same = rw (cut, c.copy_from_slice.ensures.after) more }

pub returns : goal.returns
returns c =
    let at = c.loop-i.at in
    let dst = c.loop-i.block in
    let text = take at dst in
    let all = fold_done (picture_in c.args.row) add_pixels at c.args.count c.loop-i._i c.loop-i.rest.now _ c.loop-i-test.false c.loop-i.invariant.sized in
    let done-is : at ≡ length c.args.block.now = subst (λ (r : Result (ℕ × List ℕ) SpriteFault). IsOkAnd r (λ r. r.0 ≡ length c.args.block.now)) all c.requires.counted in
    let whole : text ≡ dst = take_all at dst (omega (arith, done-is)) in
    let end = fold_done (picture_in c.args.row) add_text text c.args.count c.loop-i._i c.loop-i.rest.now _ c.loop-i-test.false c.loop-i.invariant.same in
    rw (← whole) (text_written _ text c.loop-i.rest.now end)
