-- Worked examples: each equation holds by computing.
use Rattle.std.proofs.Common.{◌≡◌, ℕ, List, [], ◌∷◌, Some, None, Result, Ok, Err, true, refl}
use Rattle.std.specs.Prelude.{codes}
use Rattle.mem_model.specs.Memory.{Memory, new_memory}
use Rattle.mem_model.specs.Hunk.{over}
use Rattle.mem_model.specs.Zone.{chosen, with_taken, with_free, joined_at, position_of, zone_bytes, with_zone_bytes}
use Rattle.mem_model.specs.Operations.{z_alloc, z_free}
use Rattle.zone_values.specs.Values.{value_at, put_value, replace_value}
use Rattle.cvar_table.specs.Cvars.{Cvar, defaults, created, cvar_of, cvar_value, set_cvar, CvarSet, places_of}

abbrev fresh : Memory
fresh = new_memory 65536 49152 8 0

abbrev cvars_of : Result (List Cvar) ℕ → List Cvar
cvars_of (Ok cvars) = cvars
cvars_of (Err asked) = []

abbrev at_start : List Cvar
at_start = cvars_of (created fresh defaults).answer

-- Each value takes a block of 32 bytes.
eight_are_created : places_of at_start ≡ 72 ∷ 104 ∷ 136 ∷ 168 ∷ 200 ∷ 232 ∷ 264 ∷ 296 ∷ []
unfolding created put_value z_alloc chosen with_taken with_zone_bytes over
eight_are_created = refl

defaults_are_read : (cvar_value (created fresh defaults).after at_start (codes "fov") ≡ Some (codes "90")) × (cvar_value (created fresh defaults).after at_start (codes "Fov") ≡ None)
unfolding created put_value z_alloc chosen with_taken zone_bytes with_zone_bytes over cvar_of cvar_value value_at
defaults_are_read = (refl, refl)

abbrev louder : CvarSet
louder = set_cvar (created fresh defaults).after at_start (codes "volume") (codes "0.55")

volume_is_set : (louder.given.answer ≡ Ok true) × (places_of louder.cvars ≡ 72 ∷ 328 ∷ 136 ∷ 168 ∷ 200 ∷ 232 ∷ 264 ∷ 296 ∷ []) × (cvar_value louder.given.after louder.cvars (codes "volume") ≡ Some (codes "0.55"))
unfolding created put_value replace_value set_cvar z_alloc z_free chosen with_taken with_free joined_at position_of zone_bytes with_zone_bytes over cvar_of cvar_value value_at
volume_is_set = (refl, refl, refl)

-- A zone of 320 bytes has room for seven values.
eighth_is_refused : (created (new_memory 65536 320 8 0) defaults).answer ≡ Err 32
unfolding created put_value z_alloc chosen with_taken with_zone_bytes over
eighth_is_refused = refl
