use Rattle.std.proofs.Common.{length, refl}
use Rattle.std.proofs.lemmas.Result.{err_from_is_err_and}
use Rattle.reply_pieces.proofs.Putting.{none_put, part_put, part_cut, rest_put}
use Rattle.info_text.specs.Dumps.{title, hex_lines, dump_text}
use Rattle.info_text.proofs.dumps.dump.Goals as goal

pub returns-in_err-put_title : goal.returns-in_err-put_title
returns-in_err-put_title g c =
    let name = c.args.name.now in
    let image = c.args.image.now in
    let p = err_from_is_err_and c.from_residual.result c.from_residual.ensures.1 in
    rw (p.1, p.2) (part_cut g.O.Sink (dump_text name image) (title name (length image)) (hex_lines image)
    (none_put g.O.Sink (dump_text name image) c.args.out.now) refl c.in_err-put_title.ensures)

pub returns : goal.returns
returns g c =
    let name = c.args.name.now in
    let image = c.args.image.now in
    rest_put g.O.Sink c.put_lines.result
    (part_put g.O.Sink (dump_text name image) (title name (length image)) (hex_lines image)
    (none_put g.O.Sink (dump_text name image) c.args.out.now) refl c.in_ok-put_title.ensures)
    c.put_lines.ensures
