use Rattle.std.proofs.Common.{refl}
use Rattle.std.proofs.lemmas.Result.{err_from_is_err_and}
use Rattle.reply_pieces.proofs.Putting.{none_put, part_put, part_cut, rest_put}
use Rattle.info_text.specs.Pictures.{title, rows_text, picture_text}
use Rattle.info_text.proofs.pictures.put_picture.Goals as goal

pub returns-in_err-put_title : goal.returns-in_err-put_title
returns-in_err-put_title g c =
    let name = c.args.name.now in
    let picture = c.args.picture.now in
    let image = c.args.image.now in
    let text = picture_text name picture image in
    let p = err_from_is_err_and c.from_residual.result c.from_residual.ensures.1 in
    rw (p.1, p.2) (part_cut g.O.Sink text (title name picture) (rows_text picture image)
    (none_put g.O.Sink text c.args.out.now) refl c.in_err-put_title.ensures)

pub returns : goal.returns
returns g c =
    let name = c.args.name.now in
    let picture = c.args.picture.now in
    let image = c.args.image.now in
    let text = picture_text name picture image in
    rest_put g.O.Sink c.put_rows.result
    (part_put g.O.Sink text (title name picture) (rows_text picture image)
    (none_put g.O.Sink text c.args.out.now) refl c.in_ok-put_title.ensures)
    c.put_rows.ensures
