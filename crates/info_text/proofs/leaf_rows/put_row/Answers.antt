use Rattle.std.proofs.Common.{Ok, refl}
use Rattle.std.proofs.lemmas.Result.{err_from_is_err_and}
use Rattle.reply_pieces.proofs.Putting.{none_put, part_put, part_cut, rest_put}
use Rattle.info_text.specs.Dumps.{hex_line}
use Rattle.info_text.specs.LeafRows.{row_text, title}
use Rattle.info_text.proofs.leaf_rows.put_row.Goals as goal

pub returns-in_err-put_title : goal.returns-in_err-put_title
returns-in_err-put_title g c =
    let text = row_text c.args.leaf (Ok c.args.row.now) in
    let p = err_from_is_err_and c.from_residual.result c.from_residual.ensures.1 in
    rw (p.1, p.2) (part_cut g.O.Sink text (title c.args.leaf) (hex_line c.args.row.now)
    (none_put g.O.Sink text c.args.out.now) refl c.in_err-put_title.ensures)

pub returns : goal.returns
returns g c =
    let text = row_text c.args.leaf (Ok c.args.row.now) in
    rest_put g.O.Sink c.put_hex_line.result
    (part_put g.O.Sink text (title c.args.leaf) (hex_line c.args.row.now)
    (none_put g.O.Sink text c.args.out.now) refl c.in_ok-put_title.ensures)
    c.put_hex_line.ensures
