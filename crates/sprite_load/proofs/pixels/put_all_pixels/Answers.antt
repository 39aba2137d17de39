use Rattle.std.proofs.Common.{rules, ◌≡◌, ℕ, ◌+◌, ◌-◌, ◌≤◌, List, [], ◌++◌, length, take, drop, Result, sym, ap, subst, ◌∙◌, arith}
use Rattle.std.specs.Prelude.{IfOk, IsOkAnd}
use Rattle.std.proofs.lemmas.List.{take_all, length-take, length-drop}
use Rattle.std.proofs.lemmas.Slice.{take-put_mid}
use borrow.Rule.Slice.PartMut.{put_mid}
use Rattle.sprite_load.specs.declared.fault.SpriteFault.{SpriteFault}
use Rattle.sprite_load.specs.declared.sizes.Sizes.{Sizes}
use Rattle.sprite_load.specs.Sprites.{Picture, Head}
use Rattle.part_plan.specs.Plan.{folded, folding}
use Rattle.sprite_load.specs.declared.sizes.FrameSize.{FrameSize}
use Rattle.sprite_load.specs.Parts.{frame}
use Rattle.sprite_load.specs.Images.{picture_pixels}
use Rattle.sprite_load.specs.Rows.{add_texts}
use Rattle.sprite_load.specs.Sizes.{add_pixels, plus_size}
use Rattle.part_plan.proofs.Each.{fold_more, fold_done, fold_refused}
use Rattle.sprite_load.proofs.FrameLaws.{frame_more, frame_stop, frame_done, opened, frame_not_both}
use Rattle.sprite_load.proofs.LengthLaws.{grow}
use Rattle.sprite_load.proofs.PixelLaws.{texts_written}
use Rattle.sprite_load.proofs.pixels.put_all_pixels.Goals as goal

pub returns-in-Err : goal.returns-in-Err
returns-in-Err c =
    let s = take c.loop-row.done.pixels c.loop-row.block in
    fold_refused add_texts [] _ _ c.in-Err.field-0 (frame_stop add_texts s c.args.count c.loop-row.row c.loop-row.rest.now c.in-Err.field-0 _ c.loop-row-test.true c.in-Err.ensures.value c.loop-row.invariant.same)

pub returns-in-Err-read_head : goal.returns-in-Err-read_head
returns-in-Err-read_head c = frame_not_both c.loop-row.row c.loop-row.rest.now c.in-Ok.read.0 c.in-Ok.read.1.now c.in-Err-read_head.field-0 c.in-Ok.ensures.value c.in-Err-read_head.ensures.value

pub slice_bounds-put_pixels-end : goal.slice_bounds-put_pixels-end
slice_bounds-put_pixels-end c =
    let next = frame_more c.loop-row.done c.args.count c.loop-row.row c.loop-row.rest.now c.in-Ok.read.0 c.in-Ok.read.1.now _ c.loop-row-test.true c.in-Ok.ensures.value c.loop-row.invariant.sized in
    let room = grow (plus_size c.loop-row.done c.in-Ok.read.0) c.args.sizes _ _ c.requires.counted next in
    let there : c.loop-row.done.pixels + c.in-Ok.read.0.pixels ≤ length c.loop-row.block = omega (arith, room.1) in
    search rules

pub put_pixels-requires : goal.put_pixels-requires
put_pixels-requires c =
    let o = c.in-Ok-read_head.opening.0 in
    let h : Head = record { word = o.word.now; count = o.count.now; intervals = o.intervals.now } in
    let m = c.in-Ok.read.0 in
    let f = opened c.loop-row.row c.loop-row.rest.now h c.in-Ok-read_head.opening.1.now m c.in-Ok.read.1.now c.in-Ok-read_head.ensures.value c.in-Ok.ensures.value in
    let next = frame_more c.loop-row.done c.args.count c.loop-row.row c.loop-row.rest.now m c.in-Ok.read.1.now _ c.loop-row-test.true c.in-Ok.ensures.value c.loop-row.invariant.sized in
    let room = grow (plus_size c.loop-row.done m) c.args.sizes _ _ c.requires.counted next in
    let counted : folded add_pixels 0 f.pictures_are ≡ m.pixels = ap (λ (z : FrameSize). z.pixels) f.size in
    let n = length (take (c.loop-row.done.pixels + m.pixels - c.loop-row.done.pixels) (drop c.loop-row.done.pixels c.loop-row.block)) in
    let len : n ≡ m.pixels = simp (length-take, length-drop) (omega (arith, room.1)) in
    record { counted = subst (λ (r : Result (List Picture × List ℕ) SpriteFault). IsOkAnd (folding add_pixels 0 r) (λ r. r.0 ≡ n)) (sym f.read) (counted ∙ sym len) }

pub loop-row-preserved : goal.loop-row-preserved
loop-row-preserved c =
    let o = c.in-Ok-read_head.opening.0 in
    let h : Head = record { word = o.word.now; count = o.count.now; intervals = o.intervals.now } in
    let m = c.in-Ok.read.0 in
    let after = c.in-Ok.read.1.now in
    let done = c.loop-row.done in
    let dst = c.loop-row.block in
    let part = c.put_pixels.new.block in
    let at = done.pixels in
    let f = opened c.loop-row.row c.loop-row.rest.now h c.in-Ok-read_head.opening.1.now m after c.in-Ok-read_head.ensures.value c.in-Ok.ensures.value in
    let next = frame_more done c.args.count c.loop-row.row c.loop-row.rest.now m after _ c.loop-row-test.true c.in-Ok.ensures.value c.loop-row.invariant.sized in
    let room = grow (plus_size done m) c.args.sizes _ _ c.requires.counted next in
    let len : length part ≡ m.pixels = c.put_pixels.auto.block ∙ simp (length-take, length-drop) (omega (arith, room.1)) in
    let cut : take (at + m.pixels) (put_mid at (at + m.pixels - at) dst part) ≡ take at dst ++ part
    = take-put_mid at (at + m.pixels - at) dst part (at + m.pixels) (omega (arith, len)) (omega (arith, room.1)) in
    let wrote : part ≡ picture_pixels f.pictures_are
    = subst (λ (r : Result (List Picture × List ℕ) SpriteFault). IfOk r (λ a. part ≡ picture_pixels a.0)) f.read c.put_pixels.ensures in
    let more = fold_more frame add_texts (take at dst) c.args.count c.loop-row.row c.loop-row.rest.now (record { head = h; pictures = f.pictures_are }) after _ c.loop-row-test.true f.is c.loop-row.invariant.same in
    record {
      sized = next;
      same = rw (cut, wrote) more;
      room = omega (arith, c.in-Ok.ensures.taken);
    }

pub returns : goal.returns
returns c =
    let done = c.loop-row.done in
    let dst = c.loop-row.block in
    let text = take done.pixels dst in
    let all = frame_done done c.args.count c.loop-row.row c.loop-row.rest.now _ c.loop-row-test.false c.loop-row.invariant.sized in
    let done-is : done ≡ c.args.sizes = subst (λ (r : Result (Sizes × List ℕ) SpriteFault). IsOkAnd r (λ r. r.0 ≡ c.args.sizes)) all c.requires.counted in
    let whole : text ≡ dst = take_all done.pixels dst (omega (arith, ap (λ (z : Sizes). z.pixels) done-is)) in
    let end = fold_done frame add_texts text c.args.count c.loop-row.row c.loop-row.rest.now _ c.loop-row-test.false c.loop-row.invariant.same in
    rw (← whole) (texts_written _ text c.loop-row.rest.now end)
