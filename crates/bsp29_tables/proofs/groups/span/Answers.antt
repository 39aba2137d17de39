use Rattle.std.proofs.Common.{refl, ◌∙◌, arith}
use Rattle.bsp29_tables.specs.Cycles.{span}
use Rattle.bsp29_tables.proofs.FrameLaws.{span_more}
use Rattle.bsp29_tables.proofs.groups.span.Goals as goal
use Rattle.bsp29_tables.proofs.groups.span.Goals.{then-is_some, else-is_some}

pub loop-place-init : goal.loop-place-init
unfolding span
loop-place-init c = record { so_far = refl; within = omega arith }

pub loop-place-preserved : goal.loop-place-preserved
loop-place-preserved c =
    let place = c.loop-place.place in
    let more =
    span_more c.args.frames.now place c.loop-place.span c.loop-place-test.true c.loop-place.invariant.so_far in
    elim c.if-is_some.branch [
      | then-is_some w ↦ record {
        so_far = w.span-is ∙ (rw (← w.if-is_some.ensures) at more);
        within = omega (arith, w.span-is);
      }
      | else-is_some w ↦ record {
        so_far = w.span-is ∙ (rw (← w.if-is_some.ensures) at more);
        within = omega (arith, w.span-is, c.loop-place.invariant.within);
      }
    ]
