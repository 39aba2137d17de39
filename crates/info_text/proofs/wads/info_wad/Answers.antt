use Rattle.std.proofs.Common.{◌∙◌, refl, sym}
use Rattle.std.proofs.lemmas.Result.{err_from_is_err_and}
use Rattle.reply_pieces.proofs.Putting.{none_put, part_put, part_cut, rest_put}
use Rattle.wad2_lumps.specs.Wads.{count_in}
use Rattle.info_text.specs.Wads.{title, rows_text, wad_text}
use Rattle.info_text.proofs.WadLaws.{count_is}
use Rattle.info_text.proofs.wads.info_wad.Goals as goal

pub returns-in_err-put_title : goal.returns-in_err-put_title
returns-in_err-put_title g c =
    let name = c.args.name.now in
    let image = c.args.image.now in
    let text = wad_text name image in
    let count = count_is image c.unwrap-count.result (sym c.check_wad.ensures.value ∙ c.unwrap-count.ensures) in
    let p = err_from_is_err_and c.from_residual.result c.from_residual.ensures.1 in
    rw (p.1, p.2) (part_cut g.O.Sink text (title name (count_in image)) (rows_text image)
    (none_put g.O.Sink text c.args.out.now) refl (rw count at c.in_err-put_title.ensures))

pub returns : goal.returns
returns g c =
    let name = c.args.name.now in
    let image = c.args.image.now in
    let text = wad_text name image in
    let count = count_is image c.unwrap-count.result (sym c.check_wad.ensures.value ∙ c.unwrap-count.ensures) in
    rest_put g.O.Sink c.put_lumps.result
    (part_put g.O.Sink text (title name (count_in image)) (rows_text image)
    (none_put g.O.Sink text c.args.out.now) refl (rw count at c.in_ok-put_title.ensures))
    c.put_lumps.ensures
