use Rattle.std.proofs.Common.{◌≡◌, ◌+◌, drop}
use Rattle.std.specs.List.{sum_by, flat_map}
use Rattle.bsp29_tables.specs.Textures.{texture_offsets, pixels_at, all_pixels}
use Rattle.bsp29_build.specs.Textures.{pixels_of, all_pixels_of}
use Rattle.bsp29_build.proofs.Writing.{with_left}
use Rattle.bsp29_build.proofs.textures.put_pixels.Given as goal

abbrev pub invariant-loop-texture : goal.invariant-loop-texture
invariant-loop-texture l = record {
  text : with_left l.out l.end (flat_map (pixels_of l.lump) (drop l.texture (texture_offsets l.lump)))
      ≡ all_pixels_of l.lump;
  sum : l.end + sum_by (pixels_at l.lump) (drop l.texture (texture_offsets l.lump)) ≡ all_pixels l.lump;
}
