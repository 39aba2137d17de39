use Rattle.std.proofs.Common.{◌≡◌, ◌+◌, ◌-◌, ◌*◌, arith}
use Rattle.std.proofs.lemmas.Result.{err_from_is_err_and}
use Rattle.reply_pieces.proofs.Putting.{part_put, part_cut}
use Rattle.info_text.specs.Pictures.{row_text, rows_text}
use Rattle.info_text.proofs.RangeLaws.{texts_from, next_text}
use Rattle.info_text.proofs.pictures.put_rows.Goals as goal

pub returns-in_err-put_hex_line : goal.returns-in_err-put_hex_line
returns-in_err-put_hex_line g c =
    let picture = c.args.picture.now in
    let image = c.args.image.now in
    let here = next_text (row_text picture image) picture.height c.loop-row.row (omega arith) in
    let from = picture.offset + picture.width * c.loop-row.row in
    let size : from + picture.width - from ≡ picture.width = omega arith in
    let p = err_from_is_err_and c.from_residual.result c.from_residual.ensures.1 in
    rw (p.1, p.2) (part_cut g.O.Sink (rows_text picture image) (row_text picture image c.loop-row.row)
    (texts_from (row_text picture image) picture.height (c.loop-row.row + 1)) c.loop-row.invariant here
    (rw size at c.in_err-put_hex_line.ensures))

pub loop-row-preserved : goal.loop-row-preserved
loop-row-preserved g c =
    let picture = c.args.picture.now in
    let image = c.args.image.now in
    let here = next_text (row_text picture image) picture.height c.loop-row.row (omega arith) in
    let from = picture.offset + picture.width * c.loop-row.row in
    let size : from + picture.width - from ≡ picture.width = omega arith in
    part_put g.O.Sink (rows_text picture image) (row_text picture image c.loop-row.row)
    (texts_from (row_text picture image) picture.height (c.loop-row.row + 1)) c.loop-row.invariant here
    (rw size at c.in_ok-put_hex_line.ensures)
