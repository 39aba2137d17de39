use Rattle.std.proofs.Common.{rules, ◌<◌, ◌+◌, ◌^◌, ◌++◌, refl, ap, ◌∙◌, arith}
use Rattle.base_fields.specs.Fields.{u32_bytes}
use Rattle.bsp29_tables.proofs.SoundLaws.{sound_from_fine}
use Rattle.bsp29_build.proofs.SectionLaws.{all_left, less_left, header_more, header_done}
use Rattle.bsp29_build.proofs.images.put_header.Goals as goal

pub loop-section-init : goal.loop-section-init
loop-section-init c = record { text = refl; place = refl; left = all_left c.args.src.now }

pub overflow_cast-start-in-loop-section : goal.overflow_cast-start-in-loop-section
overflow_cast-start-in-loop-section c =
    let l = c.loop-section in
    let small = (sound_from_fine c.args.src.now c.requires.fine).small in
    let left = less_left c.args.src.now l.section-index c.loop-section-test.true in
    let below : c.length.result < 2 ^ 31 = omega (arith, small, left, l.invariant.left, c.length.ensures.bytes) in
    search rules

pub overflow_add-start : goal.overflow_add-start
overflow_add-start c =
    let l = c.loop-section in
    let small = (sound_from_fine c.args.src.now c.requires.fine).small in
    let left = less_left c.args.src.now l.section-index c.loop-section-test.true in
    let below : l.start + c.length.result < 2 ^ 31 =
    omega (arith, small, left, l.invariant.left, c.length.ensures.bytes) in
    search rules

pub loop-section-preserved : goal.loop-section-preserved
loop-section-preserved c =
    let l = c.loop-section in
    let file = c.args.src.now in
    let left = less_left file l.section-index c.loop-section-test.true in
    record {
      text = header_more file c.requires.fine l.pairs c.put_pair.new.pair _ l.start l.section-index l.at _ (l.at + 8) _
          c.loop-section-test.true l.invariant.text
          (c.put_pair.ensures ∙ ap (λ n. u32_bytes l.start ++ u32_bytes n) c.count.ensures) c.length.ensures.bytes refl
          (omega (arith, l.invariant.place, l.auto.pairs, c.requires.room, c.loop-section-test.true));
      place = omega (arith, l.invariant.place);
      left = omega (arith, left, l.invariant.left, c.length.ensures.bytes);
    }

pub returns : goal.returns
returns c =
    let l = c.loop-section in
    header_done c.args.src.now l.pairs _ l.start l.section-index l.at c.loop-section-test.false
    (omega (arith, l.invariant.place, l.auto.pairs, c.requires.room, c.loop-section-test.false)) l.invariant.text
