use Rattle.std.proofs.Common.{length}
use Rattle.reply_pieces.proofs.Putting.{PutsSoFar}
use Rattle.cmd_buffer.specs.Aliases.{HoldsAliases, alias_texts}
use Rattle.console_session.specs.Commands.{alias_lines}
use Rattle.console_session.proofs.replies.put_alias_lines.Given as goal

abbrev pub invariant-aliases : goal.invariant-aliases
invariant-aliases g l =
    let m = g.M.Store.state l.store in
    record {
      holds : HoldsAliases m l.left;
      put : PutsSoFar g.O.Sink (alias_lines (alias_texts m l.aliases)) (alias_lines (alias_texts m l.left)) l.initial.out l.out;
    }

abbrev pub decreases-aliases : goal.decreases-aliases
decreases-aliases g l = length (alias_texts (g.M.Store.state l.store) l.left)
