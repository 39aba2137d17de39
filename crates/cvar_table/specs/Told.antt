-- What the results of the calls tell: none where the call ran out of memory.
use Rattle.std.specs.Prelude.{ℕ, List, [], ◌∷◌, Option, Some, None, Result, Ok, Err}
use Rattle.mem_model.specs.declared.answers.Place.{Place}
use Rattle.mem_model.specs.declared.answers.ZoneError.{ZoneError}
use Rattle.mem_model.specs.declared.answers.ZoneError.TheVariants as zone_error
use Rattle.cvar_table.specs.Cvars.{Cvar, Default}

-- the cvars whose values are at these places, named as the defaults are
abbrev pub listed : List Default → List Place → List Cvar
listed [] places = []
listed (d ∷ ds) [] = []
listed (d ∷ ds) (place ∷ places) = record { name = d.name; place = place.0 } ∷ listed ds places

abbrev pub zone_told : {A : Type 0} → Result A ZoneError → Option (Result A ℕ)
zone_told (Ok done) = Some (Ok done)
zone_told (Err (zone_error.Full asked)) = Some (Err asked)
zone_told (Err zone_error.OutOfMemory) = None
