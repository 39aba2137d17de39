use Rattle.std.proofs.Common.{◌∙◌}
use Rattle.cvar_table.specs.Cvars.{cvar_of}
use Rattle.cvar_table.proofs.Listing.{is_some-place}
use Rattle.cvar_table.proofs.Cvars.contains.Goals as goal

pub returns : goal.returns
returns c = c.is_some.ensures ∙ is_some-place (cvar_of c.args.self.now c.args.name.now) c.place.result c.place.ensures
