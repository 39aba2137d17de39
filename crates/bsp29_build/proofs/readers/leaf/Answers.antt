use Rattle.std.proofs.Common.{rules, ◌+◌, ◌*◌, ◌≤◌, length, arith}
use Rattle.bsp29_build.proofs.ReaderLaws.{leaf_inside}
use Rattle.bsp29_build.proofs.readers.leaf.Goals as goal

pub slice_bounds-result-end : goal.slice_bounds-result-end
slice_bounds-result-end c =
    let inside = leaf_inside c.args.image.now c.args.number c.requires.image c.requires.below in
    let enough : c.offset.result + 32 * c.args.number + 32 ≤ length c.args.image.now =
    omega (arith, inside, c.offset.ensures.place) in
    search rules
