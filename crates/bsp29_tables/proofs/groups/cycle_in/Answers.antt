use Rattle.std.proofs.Common.{◌<◌, arith}
use Rattle.bsp29_tables.proofs.FrameLaws.{span_above, same_option}
use Rattle.bsp29_tables.proofs.groups.cycle_in.Goals as goal

pub nonzero_rem-result : goal.nonzero_rem-result
nonzero_rem-result c =
    let above = span_above c.args.frames.now c.from-place.result c.args.texture (same_option _ _ c.if-ne.ensures) in
    omega (arith, above, c.span-span.ensures.span)

pub bounds-frames-place-2 : goal.bounds-frames-place-2
bounds-frames-place-2 c =
    let above = span_above c.args.frames.now c.from-place.result c.args.texture (same_option _ _ c.if-ne.ensures) in
    let some : 0 < c.span-span.result = omega (arith, above, c.span-span.ensures.span) in
    omega (arith, c.span-span.ensures.within)
