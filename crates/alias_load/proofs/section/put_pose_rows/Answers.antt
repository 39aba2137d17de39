use Rattle.std.proofs.Common.{◌≡◌, ℕ, List, ◌+◌, ◌-◌, ◌*◌, ◌++◌, length, take, drop, sym, ap, ◌∙◌, arith}
use Rattle.std.proofs.lemmas.List.{take_all, length-take, length-drop}
use Rattle.std.proofs.lemmas.Slice.{take-put_mid}
use borrow.Rule.Slice.PartMut.{put_mid}
use Rattle.alias_load.proofs.PoseLaws.{one_less, row_more, rows_done}
use Rattle.alias_load.proofs.section.put_pose_rows.Goals as goal

pub loop-i-preserved : goal.loop-i-preserved
loop-i-preserved c =
    let i = c.loop-i.i in
    let at = 28 * i in
    let block = c.loop-i.block in
    let ints = c.args.intervals.now in
    let part = c.put_pose_row.new.block in
    let len : length part ≡ 28 = c.put_pose_row.auto.block ∙ simp (length-take, length-drop) (omega arith) in
    let cut : take (28 * (i + 1)) (put_mid at (at + 28 - at) block part) ≡ take at block ++ part = take-put_mid at (at + 28 - at) block part (28 * (i + 1)) (omega (arith, len)) (omega arith) in
    let wrote : part ≡ take 4 (drop (4 * i) c.args.intervals.now) ++ take 24 (take c.args.item c.loop-i.rest.now)
    = c.put_pose_row.ensures
    ∙ ap (λ (ts : List ℕ). take 4 ts ++ take 24 c.split_at.result.0.now) (take_all (length ints - 4 * i) (drop (4 * i) ints) (omega (arith, length-drop (4 * i) ints)))
    ∙ ap (λ (pose : List ℕ). take 4 (drop (4 * i) ints) ++ take 24 pose) c.split_at.ensures.front in
    record {
      text = rw (cut, wrote, c.split_at.ensures.back) (row_more (take at block) c.args.intervals.now c.loop-i.rest.now _ c.args.item c.args.number i c.loop-i-test.true c.loop-i.invariant.text);
      left = omega (arith, c.split_at.ensures.back_len, c.loop-i.invariant.left, one_less c.args.item c.args.number i c.loop-i-test.true);
    }

pub returns : goal.returns
returns c =
    let block = c.loop-i.block in
    let whole : take (28 * c.loop-i.i) block ≡ block = take_all (28 * c.loop-i.i) block (omega arith) in
    sym whole ∙ rows_done (take (28 * c.loop-i.i) block) c.args.intervals.now c.loop-i.rest.now _ c.args.item c.args.number c.loop-i.i c.loop-i-test.false c.loop-i.invariant.text
