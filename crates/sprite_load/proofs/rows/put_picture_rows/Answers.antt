use Rattle.std.proofs.Common.{rules, ◌≡◌, ℕ, ◌+◌, ◌-◌, ◌*◌, ◌≤◌, List, ◌++◌, length, take, Result, Ok, ap, subst, ◌∙◌, arith}
use Rattle.std.specs.Prelude.{IfOk, IsOkAnd}
use Rattle.std.proofs.lemmas.List.{take_all, length-take, length-drop}
use Rattle.std.proofs.lemmas.Slice.{take-put_mid}
use borrow.Rule.Slice.PartMut.{put_mid}
use Rattle.sprite_load.specs.declared.fault.SpriteFault.{SpriteFault}
use Rattle.sprite_load.specs.declared.sizes.Sizes.{Sizes}
use Rattle.sprite_load.specs.Sprites.{Picture, Head}
use Rattle.sprite_load.specs.Images.{timed, picture_rows}
use Rattle.sprite_load.specs.Parts.{frame}
use Rattle.sprite_load.specs.Rows.{Texts, add_pictures, no_texts}
use Rattle.sprite_load.specs.Sizes.{IsWhole, plus_size}
use Rattle.part_plan.proofs.Each.{fold_more, fold_done, fold_refused}
use Rattle.sprite_load.proofs.FrameLaws.{frame_more, frame_stop, frame_done, opened, frame_not_both}
use Rattle.sprite_load.proofs.LengthLaws.{grow, texts_written, texts_more}
use Rattle.sprite_load.proofs.rows.put_picture_rows.Goals as goal

pub returns-in-Err : goal.returns-in-Err
returns-in-Err c =
    let s : Texts = record { at = c.args.from + c.loop-row.done.pixels; text = take (24 * c.loop-row.done.pictures) c.loop-row.block } in
    fold_refused add_pictures (no_texts c.args.from) _ _ c.in-Err.field-0 (frame_stop add_pictures s c.args.count c.loop-row.row c.loop-row.rest.now c.in-Err.field-0 _ c.loop-row-test.true c.in-Err.ensures.value c.loop-row.invariant.same)

pub returns-in-Err-read_head : goal.returns-in-Err-read_head
returns-in-Err-read_head c = frame_not_both c.loop-row.row c.loop-row.rest.now c.in-Ok.read.0 c.in-Ok.read.1.now c.in-Err-read_head.field-0 c.in-Ok.ensures.value c.in-Err-read_head.ensures.value

pub slice_bounds-put_pictures-end : goal.slice_bounds-put_pictures-end
slice_bounds-put_pictures-end c =
    let next = frame_more c.loop-row.done c.args.count c.loop-row.row c.loop-row.rest.now c.in-Ok.read.0 c.in-Ok.read.1.now _ c.loop-row-test.true c.in-Ok.ensures.value c.loop-row.invariant.sized in
    let room = grow (plus_size c.loop-row.done c.in-Ok.read.0) c.args.sizes _ _ c.requires.counted next in
    let there : 24 * c.loop-row.done.pictures + 24 * c.in-Ok.read.0.count ≤ length c.loop-row.block = omega (arith, room.0) in
    search rules

pub put_pictures-requires-clause-whole : goal.put_pictures-requires-clause-whole
put_pictures-requires-clause-whole c =
    let o = c.in-Ok-read_head.opening.0 in
    let h : Head = record { word = o.word.now; count = o.count.now; intervals = o.intervals.now } in
    let f = opened c.loop-row.row c.loop-row.rest.now h c.in-Ok-read_head.opening.1.now c.in-Ok.read.0 c.in-Ok.read.1.now c.in-Ok-read_head.ensures.value c.in-Ok.ensures.value in
    subst (λ (n : ℕ). IsWhole o.intervals.now n) (c.in-Ok-read_head.ensures.number ∙ f.number) c.in-Ok-read_head.ensures.whole

pub loop-row-preserved : goal.loop-row-preserved
loop-row-preserved c =
    let o = c.in-Ok-read_head.opening.0 in
    let h : Head = record { word = o.word.now; count = o.count.now; intervals = o.intervals.now } in
    let m = c.in-Ok.read.0 in
    let after = c.in-Ok.read.1.now in
    let done = c.loop-row.done in
    let dst = c.loop-row.block in
    let part = c.put_pictures.new.block in
    let at = 24 * done.pictures in
    let f = opened c.loop-row.row c.loop-row.rest.now h c.in-Ok-read_head.opening.1.now m after c.in-Ok-read_head.ensures.value c.in-Ok.ensures.value in
    let next = frame_more done c.args.count c.loop-row.row c.loop-row.rest.now m after _ c.loop-row-test.true c.in-Ok.ensures.value c.loop-row.invariant.sized in
    let room = grow (plus_size done m) c.args.sizes _ _ c.requires.counted next in
    let len : length part ≡ 24 * m.count = c.put_pictures.auto.block ∙ simp (length-take, length-drop) (omega (arith, room.0)) in
    let cut : take (24 * (done.pictures + m.count)) (put_mid at (at + 24 * m.count - at) dst part) ≡ take at dst ++ part
    = take-put_mid at (at + 24 * m.count - at) dst part (24 * (done.pictures + m.count)) (omega (arith, len)) (omega (arith, room.0)) in
    let from = c.args.from + done.pixels in
    let wrote : IfOk {T = List Picture × List ℕ} {E = SpriteFault} (Ok (f.pictures_are, after)) (λ a. part ≡ picture_rows from (timed h.intervals a.0))
    = subst (λ (r : Result (List Picture × List ℕ) SpriteFault). IfOk r (λ a. part ≡ picture_rows from (timed h.intervals a.0))) f.read c.put_pictures.ensures in
    let s : Texts = record { at = from; text = take at dst } in
    let more = fold_more frame add_pictures s c.args.count c.loop-row.row c.loop-row.rest.now (record { head = h; pictures = f.pictures_are }) after _ c.loop-row-test.true f.is c.loop-row.invariant.same in
    record {
      sized = next;
      same = texts_more s h f.pictures_are m (c.args.from + (done.pixels + m.pixels)) _ _ _ f.size (omega arith) (cut ∙ ap (λ (t : List ℕ). take at dst ++ t) wrote) more;
      room = omega (arith, c.in-Ok.ensures.taken);
    }

pub returns : goal.returns
returns c =
    let done = c.loop-row.done in
    let dst = c.loop-row.block in
    let text = take (24 * done.pictures) dst in
    let all = frame_done done c.args.count c.loop-row.row c.loop-row.rest.now _ c.loop-row-test.false c.loop-row.invariant.sized in
    let done-is : done ≡ c.args.sizes = subst (λ (r : Result (Sizes × List ℕ) SpriteFault). IsOkAnd r (λ r. r.0 ≡ c.args.sizes)) all c.requires.counted in
    let whole : text ≡ dst = take_all (24 * done.pictures) dst (omega (arith, ap (λ (z : Sizes). z.pictures) done-is)) in
    let s : Texts = record { at = c.args.from + done.pixels; text = text } in
    let end = fold_done frame add_pictures s c.args.count c.loop-row.row c.loop-row.rest.now _ c.loop-row-test.false c.loop-row.invariant.same in
    rw (← whole) (texts_written _ c.args.from s c.loop-row.rest.now end)
