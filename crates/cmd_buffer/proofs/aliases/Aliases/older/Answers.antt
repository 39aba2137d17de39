use Rattle.std.proofs.Common.{◌∙◌, sym, ap, refl, drop, None}
use Rattle.cmd_buffer.proofs.AliasRows.{texts_none}
use Rattle.cmd_buffer.proofs.aliases.Aliases.older.Goals as goal

pub returns-in-None-clause-rest : goal.returns-in-None-clause-rest
returns-in-None-clause-rest g c =
    let m = g.M.Store.state c.args.store.now in
    texts_none m None refl ∙ sym (ap (drop 1) (texts_none m c.args.self.now (sym c.self.view_is ∙ c.in-None.is)))
