use Rattle.std.proofs.Common.{◌+◌, ◌<◌, arith}
use Rattle.std.proofs.lemmas.Result.{err_from_is_err_and}
use Rattle.std.proofs.lemmas.List.Elements.{All-from_get_or}
use Rattle.base_fields.proofs.FieldLaws.{u32_in-lt}
use Rattle.reply_pieces.proofs.Putting.{part_put, part_cut, all_was_put}
use Rattle.wad2_lumps.specs.Wads.{count_in}
use Rattle.info_text.specs.Wads.{row_text, rows_text}
use Rattle.info_text.proofs.RangeLaws.{texts_from, next_text, no_text}
use Rattle.info_text.proofs.WadLaws.{row_is, none_is}
use Rattle.info_text.proofs.wads.put_lumps.Goals as goal

pub returns-in_err-put_lump : goal.returns-in_err-put_lump
returns-in_err-put_lump g c =
    let image = c.args.image.now in
    let row = row_is image c.rows.number c.in-Some.ensures in
    let here = next_text (row_text image) (count_in image) c.rows.number row.0 in
    let p = err_from_is_err_and c.from_residual.result c.from_residual.ensures.1 in
    rw (p.1, p.2) (part_cut g.O.Sink (rows_text image) (row_text image c.rows.number)
    (texts_from (row_text image) (count_in image) (c.rows.number + 1)) c.rows.invariant here
    (rw row.1 at c.in_err-put_lump.ensures))

pub overflow_add-number : goal.overflow_add-number
overflow_add-number g c =
    let image = c.args.image.now in
    let row = row_is image c.rows.number c.in-Some.ensures in
    let few = u32_in-lt image 4
    (All-from_get_or (λ byte. byte < 256) image 0 (λ k within. omega (arith, c.type_inv.image k))) in
    omega (arith, row.0, few)

pub rows-smaller : goal.rows-smaller
rows-smaller g c =
    let row = row_is c.args.image.now c.rows.number c.in-Some.ensures in
    omega (arith, row.0)

pub rows-preserved : goal.rows-preserved
rows-preserved g c =
    let image = c.args.image.now in
    let row = row_is image c.rows.number c.in-Some.ensures in
    let here = next_text (row_text image) (count_in image) c.rows.number row.0 in
    part_put g.O.Sink (rows_text image) (row_text image c.rows.number)
    (texts_from (row_text image) (count_in image) (c.rows.number + 1)) c.rows.invariant here
    (rw row.1 at c.in_ok-put_lump.ensures)

pub returns : goal.returns
returns g c =
    let image = c.args.image.now in
    all_was_put g.O.Sink c.rows.invariant
    (no_text (row_text image) (count_in image) c.rows.number (none_is image c.rows.number c.in_default.ensures))
