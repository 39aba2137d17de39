use Rattle.std.proofs.Common.{◌+◌, arith}
use Rattle.std.proofs.lemmas.Result.{err_from_is_err_and}
use Rattle.reply_pieces.proofs.Putting.{part_put, part_cut, all_was_put}
use Rattle.bsp29_build.specs.Readers.{count_told}
use Rattle.info_text.specs.Brushes.{texture_row, textures_text}
use Rattle.info_text.proofs.RangeLaws.{texts_from, next_text, no_text}
use Rattle.info_text.proofs.brushes.put_textures.Goals as goal

pub returns-in_err-put_texture : goal.returns-in_err-put_texture
returns-in_err-put_texture g c =
    let image = c.args.image.now in
    let l = c.loop-number in
    let here = next_text (texture_row image) (count_told image 2) l.number (omega arith) in
    let p = err_from_is_err_and c.from_residual.result c.from_residual.ensures.1 in
    rw (p.1, p.2) (part_cut g.O.Sink (textures_text image) (texture_row image l.number)
    (texts_from (texture_row image) (count_told image 2) (l.number + 1)) l.invariant here
    (rw c.texture.ensures at c.in_err-put_texture.ensures))

pub loop-number-preserved : goal.loop-number-preserved
loop-number-preserved g c =
    let image = c.args.image.now in
    let l = c.loop-number in
    let here = next_text (texture_row image) (count_told image 2) l.number (omega arith) in
    part_put g.O.Sink (textures_text image) (texture_row image l.number)
    (texts_from (texture_row image) (count_told image 2) (l.number + 1)) l.invariant here
    (rw c.texture.ensures at c.in_ok-put_texture.ensures)

pub returns : goal.returns
returns g c =
    let image = c.args.image.now in
    let l = c.loop-number in
    all_was_put g.O.Sink l.invariant (no_text (texture_row image) (count_told image 2) l.number (omega arith))
