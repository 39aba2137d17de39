use Rattle.std.proofs.Common.{◌≤◌, ◌<◌, length, ap, ◌∙◌, refl, arith}
use Rattle.std.specs.List.{sum_by}
use Rattle.std.proofs.lemmas.List.{take_all}
use Rattle.std.proofs.lemmas.List.Sums.{sum_by_more}
use Rattle.bsp29_tables.specs.Textures.{texture_offsets, pixels_at}
use Rattle.bsp29_tables.proofs.Cutting.{length-texture_offsets}
use Rattle.bsp29_tables.proofs.TextureLaws.{texture_inside}
use Rattle.bsp29_tables.proofs.textures.all_pixels.Goals as goal

pub pixels_at-requires : goal.pixels_at-requires
pixels_at-requires c =
    rw c.texture_offset.ensures (texture_inside c.args.lump.now c.loop-texture.texture c.requires.textures (omega arith))

pub loop-texture-preserved : goal.loop-texture-preserved
loop-texture-preserved c =
    let lump = c.args.lump.now in
    let below : c.loop-texture.texture < length (texture_offsets lump) = rw length-texture_offsets (omega arith) in
    record {
      sum = rw (
        sum_by_more (pixels_at lump) (texture_offsets lump) c.loop-texture.texture 0 below,
        ← c.texture_offset.ensures,
        ← c.pixels_at.ensures,
        ← c.loop-texture.invariant.sum,
        c.from-total.ensures,
      ) refl;
      small = omega (arith, c.loop-texture.invariant.small);
    }

pub returns-clause-sum : goal.returns-clause-sum
returns-clause-sum c =
    let lump = c.args.lump.now in
    let all : length (texture_offsets lump) ≤ c.loop-texture.texture = rw length-texture_offsets (omega arith) in
    c.loop-texture.invariant.sum
    ∙ ap (sum_by (pixels_at lump)) (take_all c.loop-texture.texture (texture_offsets lump) all)
