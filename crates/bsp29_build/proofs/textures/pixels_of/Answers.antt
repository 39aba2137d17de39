use Rattle.std.proofs.Common.{rules, ◌+◌, ◌≤◌, length, sym}
use Rattle.bsp29_build.proofs.TextureLaws.{no_pixels, pixels_there}
use Rattle.bsp29_build.proofs.textures.pixels_of.Goals as goal

pub returns-then-at-eq-MISSING-clause-length : goal.returns-then-at-eq-MISSING-clause-length
returns-then-at-eq-MISSING-clause-length c = sym (no_pixels c.args.lump.now c.args.at c.if-at-eq-MISSING.true)

pub slice_bounds-result-end-2 : goal.slice_bounds-result-end-2
slice_bounds-result-end-2 c =
    let enough : c.args.at + 40 + c.pixels_at.result ≤ length c.args.lump.now =
    rw c.pixels_at.ensures (pixels_there c.args.lump.now c.args.at c.requires c.if-at-eq-MISSING.false) in
    search rules
