use Rattle.std.proofs.Common.{rules, ◌<◌, ◌≤◌, ◌+◌, length, sym, ap, ◌∙◌, arith}
use Rattle.bsp29_tables.specs.Textures.{texture_offsets}
use Rattle.bsp29_tables.proofs.Cutting.{length-texture_offsets}
use Rattle.bsp29_build.specs.Textures.{pixels_of}
use Rattle.bsp29_build.proofs.TextureLaws.{offset_there, sum_left, none_sum}
use Rattle.bsp29_build.proofs.Writing.{more_written, all_written}
use Rattle.bsp29_build.proofs.textures.put_pixels.Goals as goal

pub pixels_of-pixels-requires : goal.pixels_of-pixels-requires
pixels_of-pixels-requires c =
    rw c.texture_offset.ensures (offset_there c.args.lump.now c.loop-texture.texture c.requires.sound (omega arith))

pub slice_bounds-copy_from_slice-end : goal.slice_bounds-copy_from_slice-end
slice_bounds-copy_from_slice-end c =
    let left = sum_left c.args.lump.now c.loop-texture.texture (omega arith) in
    let long = rw c.texture_offset.ensures at c.pixels_of-pixels.ensures.length in
    let enough : c.loop-texture.end + length c.pixels_of-pixels.result.now ≤ length c.loop-texture.out =
    omega (arith, left, long, c.loop-texture.invariant.sum, c.loop-texture.auto.out, c.requires.room) in
    search rules

pub loop-texture-preserved : goal.loop-texture-preserved
loop-texture-preserved c =
    let l = c.loop-texture in
    let lump = c.args.lump.now in
    let left = sum_left lump l.texture (omega arith) in
    let long = rw c.texture_offset.ensures at c.pixels_of-pixels.ensures.length in
    let enough : l.end + length c.pixels_of-pixels.result.now ≤ length l.out =
    omega (arith, left, long, l.invariant.sum, l.auto.out, c.requires.room) in
    let below : l.texture < length (texture_offsets lump) = rw length-texture_offsets (omega arith) in
    record {
      text = more_written (pixels_of lump) (texture_offsets lump) 0 l.out c.copy_from_slice.new.self _ l.texture l.end _ _
          below l.invariant.text
          (c.copy_from_slice.ensures.after ∙ c.pixels_of-pixels.ensures.pixels ∙ ap (pixels_of lump) c.texture_offset.ensures)
          (ap (λ n. l.end + n) (ap length (sym c.copy_from_slice.ensures.after))) (omega (arith, enough));
      sum = omega (arith, left, long, l.invariant.sum);
    }

pub returns : goal.returns
returns c =
    let l = c.loop-texture in
    let lump = c.args.lump.now in
    let none = none_sum lump l.texture (omega arith) in
    all_written (pixels_of lump) (texture_offsets lump) l.out _ l.texture l.end (rw length-texture_offsets (omega arith))
    (omega (arith, none, l.invariant.sum, l.auto.out, c.requires.room)) l.invariant.text
