use Rattle.std.proofs.Common.{Option, ap, sym, ◌∙◌}
use Rattle.std.specs.Prelude.{is_some}
use Rattle.std.specs.Option.{option_and_then}
use Rattle.zone_values.specs.Values.{value_at}
use Rattle.cvar_table.specs.Cvars.{Cvar, cvar_of, cvar_value}
use Rattle.cvar_table.proofs.Listing.{cvar_at, cvar_nowhere, some-place}
use Rattle.cvar_table.proofs.Cvars.get.Goals as goal

pub value_at-requires : goal.value_at-requires
value_at-requires g c = some-place _ c.args.self.now c.args.name.now c.in-Some.place.0 c.requires.used c.in-Some.ensures

pub returns-in-Some-clause-value : goal.returns-in-Some-clause-value
unfolding cvar_value
returns-in-Some-clause-value g c =
    ap (option_and_then (λ (cvar : Cvar). value_at (g.M.Store.state c.args.store.now) cvar.place)) (cvar_at (cvar_of c.args.self.now c.args.name.now) c.in-Some.place.0 c.in-Some.ensures).1 ∙ c.value_at.ensures.value

pub returns-in-Some-clause-none : goal.returns-in-Some-clause-none
returns-in-Some-clause-none g c = sym (ap (λ (o : Option Cvar). is_some o) (cvar_at (cvar_of c.args.self.now c.args.name.now) c.in-Some.place.0 c.in-Some.ensures).1)

pub returns-in-None-clause-value : goal.returns-in-None-clause-value
unfolding cvar_value
returns-in-None-clause-value g c =
    ap (option_and_then (λ (cvar : Cvar). value_at (g.M.Store.state c.args.store.now) cvar.place)) (cvar_nowhere (cvar_of c.args.self.now c.args.name.now) c.in-None.ensures)

pub returns-in-None-clause-none : goal.returns-in-None-clause-none
returns-in-None-clause-none g c = sym (ap (λ (o : Option Cvar). is_some o) (cvar_nowhere (cvar_of c.args.self.now c.args.name.now) c.in-None.ensures))
