use Rattle.std.proofs.Common.{rules, ◌≡◌, ◌<◌, ◌≤◌, ◌+◌, ◌^◌, length, refl, arith}
use Rattle.std.proofs.lemmas.List.{length-take, length-drop}
use Rattle.bsp29_tables.proofs.SoundLaws.{sound_from_fine}
use Rattle.bsp29_build.proofs.SectionLaws.{all_left, less_left, sections_more, sections_done, none_left_from}
use Rattle.bsp29_build.proofs.images.put_sections.Goals as goal

pub loop-section-init : goal.loop-section-init
loop-section-init c = record { text = refl; left = all_left c.args.src.now }

pub overflow_cast-at : goal.overflow_cast-at
overflow_cast-at c =
    let l = c.loop-section in
    let small = (sound_from_fine c.args.src.now c.requires.fine).small in
    let below : 132 + l.at < 2 ^ 32 = omega (arith, small, l.invariant.left) in
    search rules

pub slice_bounds-put_section-end : goal.slice_bounds-put_section-end
slice_bounds-put_section-end c =
    let l = c.loop-section in
    let left = less_left c.args.src.now l.section-index c.loop-section-test.true in
    let enough : l.at + c.length.result ≤ length l.out =
    omega (arith, left, l.invariant.left, c.length.ensures.bytes, l.auto.out, c.requires.room) in
    search rules

pub put_section-requires-clause-small : goal.put_section-requires-clause-small
put_section-requires-clause-small c =
    let l = c.loop-section in
    let small = (sound_from_fine c.args.src.now c.requires.fine).small in
    let left = less_left c.args.src.now l.section-index c.loop-section-test.true in
    let whole : 132 + l.at + c.length.result < 2 ^ 31 =
    omega (arith, small, left, l.invariant.left, c.length.ensures.bytes) in
    simp (length-take, length-drop) (omega (arith, whole))

pub loop-section-preserved : goal.loop-section-preserved
loop-section-preserved c =
    let l = c.loop-section in
    let file = c.args.src.now in
    let left = less_left file l.section-index c.loop-section-test.true in
    let enough : l.at + c.length.result ≤ length l.out =
    omega (arith, left, l.invariant.left, c.length.ensures.bytes, l.auto.out, c.requires.room) in
    let place : 132 + (l.at + c.length.result) ≡ 132 + l.at + c.length.result = omega arith in
    record {
      text = rw place (sections_more file c.requires.fine l.out c.put_section.new.out _ (132 + l.at) l.section-index l.at _
          (l.at + c.length.result) c.length.result c.loop-section-test.true l.invariant.text c.put_section.ensures
          c.length.ensures.bytes refl (omega (arith, enough)));
      left = omega (arith, left, l.invariant.left, c.length.ensures.bytes);
    }

pub returns : goal.returns
returns c =
    let l = c.loop-section in
    let none = none_left_from c.args.src.now l.section-index c.loop-section-test.false in
    sections_done c.args.src.now l.out _ (132 + l.at) l.section-index l.at c.loop-section-test.false
    (omega (arith, none, l.invariant.left, l.auto.out, c.requires.room)) l.invariant.text
