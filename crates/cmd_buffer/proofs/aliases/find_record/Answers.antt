use Rattle.std.proofs.Common.{ℕ, ap, sym, ◌∙◌, find, Option}
use Rattle.cmd_buffer.specs.Aliases.{Alias, aliases_of}
use Rattle.cmd_buffer.specs.AliasRecords.{is_same}
use Rattle.cmd_buffer.proofs.AliasLaws.{aliases_none}
use Rattle.cmd_buffer.proofs.aliases.find_record.Goals as goal

pub returns-clause-found : goal.returns-clause-found
returns-clause-found g c =
    let m = g.M.Store.state c.args.store.now in
    let found = find (λ (a : Alias). is_same c.args.case a.name c.args.name.now) in
    sym (ap found (aliases_none m)) ∙ ap (λ (o : Option ℕ). found (aliases_of m o)) (sym c.in_default.is) ∙ c.records.invariant.same
