use Rattle.std.proofs.Common.{ap, sym, arith}
use Rattle.std.specs.Option.{option_map}
use Rattle.cvar_table.specs.Cvars.{Cvar}
use Rattle.cvar_table.proofs.Listing.{cvar_found, cvar_missing}
use Rattle.cvar_table.proofs.Cvars.place.Goals as goal

pub returns-in-Some : goal.returns-in-Some
returns-in-Some c =
    ap (option_map (λ (cvar : Cvar). cvar.place)) (cvar_found c.self.inside.places c.args.name.now (omega arith) c.args.self.now c.self.view_is c.in-Some.at (record { 0 = 0 }) (sym c.in-Some.ensures)).1

pub returns-in-None : goal.returns-in-None
returns-in-None c =
    ap (option_map (λ (cvar : Cvar). cvar.place)) (cvar_missing c.self.inside.places c.args.name.now c.args.self.now c.self.view_is (sym c.in-None.ensures))
