use Rattle.std.proofs.Common.{drop, ap, sym}
use Rattle.std.proofs.lemmas.List.{drop_all}
use Rattle.std.proofs.lemmas.Result.{err_from_is_err_and}
use Rattle.reply_pieces.proofs.Lines.{past, next}
use Rattle.reply_pieces.proofs.Putting.{part_put, part_cut, all_was_put}
use Rattle.cmd_buffer.specs.Aliases.{alias_texts}
use Rattle.console_session.specs.Commands.{alias_lines}
use Rattle.console_session.proofs.replies.put_alias_lines.Goals as goal

pub returns-in_err-put_alias : goal.returns-in_err-put_alias
returns-in_err-put_alias g c =
    let m = g.M.Store.state c.args.store.now in
    let p = err_from_is_err_and c.from_residual.result c.from_residual.ensures.1 in
    rw (p.1, p.2) (part_cut g.O.Sink (alias_lines (alias_texts m c.args.aliases.now)) _ (alias_lines (drop 1 (alias_texts m c.aliases.left)))
    c.aliases.invariant.put (ap alias_lines (next (alias_texts m c.aliases.left) 0 (sym c.in-Some.ensures.row))) c.in_err-put_alias.ensures)

pub aliases-preserved : goal.aliases-preserved
aliases-preserved g c =
    let m = g.M.Store.state c.args.store.now in
    record {
      holds = c.older-left.ensures.holds;
      put = rw c.older-left.ensures.rest (part_put g.O.Sink (alias_lines (alias_texts m c.args.aliases.now)) _ (alias_lines (drop 1 (alias_texts m c.aliases.left)))
          c.aliases.invariant.put (ap alias_lines (next (alias_texts m c.aliases.left) 0 (sym c.in-Some.ensures.row))) c.in_ok-put_alias.ensures);
    }

pub returns : goal.returns
returns g c =
    let texts = alias_texts (g.M.Store.state c.args.store.now) c.aliases.left in
    all_was_put g.O.Sink c.aliases.invariant.put (ap alias_lines (drop_all 0 texts (past texts 0 (sym c.in_default.ensures.row))))
