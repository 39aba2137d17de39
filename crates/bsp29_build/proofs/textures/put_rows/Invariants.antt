use Rattle.std.proofs.Common.{◌≡◌, ◌+◌, ◌*◌, drop}
use Rattle.std.specs.List.{sum_by}
use Rattle.bsp29_tables.specs.Textures.{texture_offsets, pixels_at, all_pixels}
use Rattle.bsp29_build.specs.Textures.{texture_rows}
use Rattle.bsp29_build.proofs.Writing.{with_left}
use Rattle.bsp29_build.proofs.textures.put_rows.Given as goal

abbrev pub invariant-loop-texture : goal.invariant-loop-texture
invariant-loop-texture l = record {
  text : with_left l.out (l.texture * 68) (texture_rows l.lump l.pixels l.texture (drop l.texture (texture_offsets l.lump)))
      ≡ texture_rows l.lump l.first 0 (texture_offsets l.lump);
  sum : l.pixels + sum_by (pixels_at l.lump) (drop l.texture (texture_offsets l.lump)) ≡ l.first + all_pixels l.lump;
}
