use Rattle.std.proofs.Common.{◌≡◌, ℕ, List, ◌+◌, ◌-◌, ◌*◌, ◌++◌, length, take, drop, sym, ap, ◌∙◌, arith}
use Rattle.std.proofs.lemmas.List.{take_all, length-take, length-drop}
use Rattle.std.proofs.lemmas.Slice.{take-put_mid}
use borrow.Rule.Slice.PartMut.{put_mid}
use Rattle.alias_load.proofs.PoseLaws.{one_less, vertices_more, vertices_done}
use Rattle.alias_load.proofs.section.put_vertices.Goals as goal

pub loop-preserved : goal.loop-preserved
loop-preserved c =
    let i = c.loop.counter in
    let at = c.loop.at in
    let long = c.args.item - 24 in
    let block = c.loop.block in
    let pose = c.split_at.result.0.now in
    let part = c.copy_from_slice.new.self in
    let less = one_less long c.args.number i c.loop-test.true in
    let len : length part ≡ long = c.copy_from_slice.auto.self ∙ simp (length-take, length-drop) (omega (arith, less, c.loop.invariant.room)) in
    let cut : take (at + long) (put_mid at (at + long - at) block part) ≡ take at block ++ part = take-put_mid at (at + long - at) block part (at + long) (omega (arith, len)) (omega (arith, c.loop.invariant.room)) in
    let wrote : part ≡ drop 24 (take c.args.item c.loop.rest.now) = c.copy_from_slice.ensures.after ∙ take_all (length pose - 24) (drop 24 pose) (omega (arith, length-drop 24 pose)) ∙ ap (λ (t : List ℕ). drop 24 t) c.split_at.ensures.front in
    record {
      text = rw (cut, wrote, c.split_at.ensures.back) (vertices_more (take at block) c.loop.rest.now _ c.args.item c.args.number i c.loop-test.true c.loop.invariant.text);
      room = omega (arith, less, c.loop.invariant.room);
      left = omega (arith, c.split_at.ensures.back_len, c.loop.invariant.left, one_less c.args.item c.args.number i c.loop-test.true);
    }

pub returns : goal.returns
returns c =
    let block = c.loop.block in
    let left : c.args.number - c.loop.counter ≡ 0 = omega (arith, c.loop-test.false) in
    let none : (c.args.item - 24) * (c.args.number - c.loop.counter) ≡ 0 = ap (λ (m : ℕ). (c.args.item - 24) * m) left ∙ omega arith in
    let whole : take c.loop.at block ≡ block = take_all c.loop.at block (omega (arith, none, c.loop.invariant.room)) in
    sym whole ∙ vertices_done (take c.loop.at block) c.loop.rest.now _ c.args.item c.args.number c.loop.counter c.loop-test.false c.loop.invariant.text
