use Rattle.std.proofs.Common.{refl}
use Rattle.std.specs.Prelude.{codes}
use Rattle.std.proofs.lemmas.Result.{err_from_is_err_and}
use Rattle.reply_pieces.proofs.Putting.{none_put, part_put, part_cut, rest_put}
use Rattle.cmd_buffer.specs.Aliases.{alias_texts}
use Rattle.console_session.specs.Commands.{alias_lines, alias_list}
use Rattle.console_session.proofs.replies.put_alias_list.Goals as goal

pub returns-in_err-put_all : goal.returns-in_err-put_all
returns-in_err-put_all g c =
    let texts = alias_texts (g.M.Store.state c.args.store.now) c.args.aliases.now in
    let p = err_from_is_err_and c.from_residual.result c.from_residual.ensures.1 in
    rw (p.1, p.2) (part_cut g.O.Sink (alias_list texts) (codes "Current alias commands:\n") (alias_lines texts)
    (none_put g.O.Sink (alias_list texts) c.args.out.now) refl c.in_err-put_all.ensures)

pub returns : goal.returns
returns g c =
    let texts = alias_texts (g.M.Store.state c.args.store.now) c.args.aliases.now in
    rest_put g.O.Sink c.put_alias_lines.result
    (part_put g.O.Sink (alias_list texts) (codes "Current alias commands:\n") (alias_lines texts)
    (none_put g.O.Sink (alias_list texts) c.args.out.now) refl c.in_ok-put_all.ensures) c.put_alias_lines.ensures
