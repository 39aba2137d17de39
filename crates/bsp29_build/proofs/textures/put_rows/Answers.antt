use Rattle.std.proofs.Common.{rules, ◌≡◌, ◌<◌, ◌+◌, ◌*◌, ◌^◌, length, ◌∙◌, arith}
use Rattle.std.proofs.lemmas.List.{length-take, length-drop}
use Rattle.bsp29_build.proofs.TextureLaws.{offset_there, sum_left, row_written, rows_written}
use Rattle.bsp29_build.proofs.textures.put_rows.Goals as goal

pub put_row-requires-clause-inside : goal.put_row-requires-clause-inside
put_row-requires-clause-inside c =
    rw c.texture_offset-at.ensures (offset_there c.args.lump.now c.loop-texture.texture c.requires.sound (omega arith))

pub pixels_at-pixels-requires : goal.pixels_at-pixels-requires
pixels_at-pixels-requires c =
    rw c.texture_offset-at.ensures (offset_there c.args.lump.now c.loop-texture.texture c.requires.sound (omega arith))

pub overflow_add-pixels : goal.overflow_add-pixels
overflow_add-pixels c =
    let left = sum_left c.args.lump.now c.loop-texture.texture (omega arith) in
    let here = rw c.texture_offset-at.ensures at c.pixels_at-pixels.ensures in
    let small : c.loop-texture.pixels + c.pixels_at-pixels.result < 2 ^ 32 =
    omega (arith, left, here, c.loop-texture.invariant.sum, c.requires.small) in
    search rules

pub loop-texture-preserved : goal.loop-texture-preserved
loop-texture-preserved c =
    let l = c.loop-texture in
    let lump = c.args.lump.now in
    let left = sum_left lump l.texture (omega arith) in
    let here = rw c.texture_offset-at.ensures at c.pixels_at-pixels.ensures in
    let long : length c.put_row.new.row ≡ 68 =
    c.put_row.auto.row ∙ simp (length-take, length-drop) (omega (arith, l.auto.out, c.requires.room)) in
    let is = rw (c.texture_offset-at.ensures, c.unwrap_or-cycle.ensures, c.cycle.ensures, c.find-animations.ensures) at c.put_row.ensures in
    record {
      text = rw here (row_written lump l.out c.put_row.new.row _ l.pixels l.texture (l.texture * 68) _ ((l.texture + 1) * 68)
          (omega arith) l.invariant.text is (omega (arith, long)) (omega (arith, l.auto.out, c.requires.room)));
      sum = omega (arith, left, here, l.invariant.sum);
    }

pub returns : goal.returns
returns c =
    let l = c.loop-texture in
    rows_written c.args.lump.now l.out _ l.pixels l.texture (l.texture * 68) (omega arith)
    (omega (arith, l.auto.out, c.requires.room)) l.invariant.text
