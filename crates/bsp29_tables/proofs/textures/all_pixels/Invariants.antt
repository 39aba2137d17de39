use Rattle.std.proofs.Common.{◌≡◌, ◌*◌, ◌^◌, ◌≤◌, take}
use Rattle.std.specs.List.{sum_by}
use Rattle.bsp29_tables.specs.Textures.{texture_offsets, pixels_at}
use Rattle.bsp29_tables.proofs.textures.all_pixels.Given as goal

abbrev pub invariant-loop-texture : goal.invariant-loop-texture
invariant-loop-texture l = record {
  sum : l.total ≡ sum_by (pixels_at l.lump) (take l.texture (texture_offsets l.lump));
  small : l.total ≤ l.texture * 2 ^ 32;
}
