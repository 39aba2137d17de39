use Rattle.std.proofs.Common.{refl, ◌++◌}
use Rattle.std.proofs.lemmas.Result.{err_from_is_err_and}
use Rattle.reply_pieces.proofs.Putting.{none_put, part_put, part_cut, rest_put}
use Rattle.info_text.specs.Brushes.{nodes_text, surfaces_text, textures_text, brush_text}
use Rattle.info_text.proofs.brushes.info_brush.Goals as goal

pub returns-in_err-put_nodes : goal.returns-in_err-put_nodes
returns-in_err-put_nodes g c =
    let name = c.args.name.now in
    let image = c.args.image.now in
    let text = brush_text name image in
    let p = err_from_is_err_and c.from_residual.result c.from_residual.ensures.1 in
    rw (p.1, p.2) (part_cut g.O.Sink text (nodes_text name image) (surfaces_text image ++ textures_text image)
    (none_put g.O.Sink text c.args.out.now) refl c.in_err-put_nodes.ensures)

pub returns-in_err-put_surfaces : goal.returns-in_err-put_surfaces
returns-in_err-put_surfaces g c =
    let name = c.args.name.now in
    let image = c.args.image.now in
    let text = brush_text name image in
    let p = err_from_is_err_and c.from_residual-in_err-put_surfaces.result c.from_residual-in_err-put_surfaces.ensures.1 in
    rw (p.1, p.2) (part_cut g.O.Sink text (surfaces_text image) (textures_text image)
    (part_put g.O.Sink text (nodes_text name image) (surfaces_text image ++ textures_text image)
    (none_put g.O.Sink text c.args.out.now) refl c.in_ok-put_nodes.ensures) refl c.in_err-put_surfaces.ensures)

pub returns : goal.returns
returns g c =
    let name = c.args.name.now in
    let image = c.args.image.now in
    let text = brush_text name image in
    rest_put g.O.Sink c.put_textures.result
    (part_put g.O.Sink text (surfaces_text image) (textures_text image)
    (part_put g.O.Sink text (nodes_text name image) (surfaces_text image ++ textures_text image)
    (none_put g.O.Sink text c.args.out.now) refl c.in_ok-put_nodes.ensures) refl c.in_ok-put_surfaces.ensures)
    c.put_textures.ensures
