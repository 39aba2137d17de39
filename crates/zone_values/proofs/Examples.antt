-- Worked examples: each equation holds by computing.
use Rattle.std.proofs.Common.{◌≡◌, [], ◌∷◌, Some, Ok, Err, true, false, map, refl}
use Rattle.std.specs.Prelude.{codes}
use Rattle.mem_model.specs.Blocks.{ZoneBlock}
use Rattle.mem_model.specs.Memory.{Memory, new_memory}
use Rattle.mem_model.specs.Hunk.{over}
use Rattle.mem_model.specs.Zone.{chosen, with_taken, with_free, joined_at, position_of, zone_bytes, with_zone_bytes}
use Rattle.mem_model.specs.Operations.{z_alloc, z_free}
use Rattle.zone_values.specs.Values.{value_at, put_value, replace_value}

abbrev with_old : Memory
with_old = (put_value (new_memory 65536 49152 8 0) (codes "0.7")).after

value_is_put : ((put_value (new_memory 65536 49152 8 0) (codes "0.7")).answer ≡ Ok 72) × (zone_bytes with_old 72 ≡ Some (48 ∷ 46 ∷ 55 ∷ 0 ∷ [])) × (value_at with_old 72 ≡ Some (codes "0.7"))
unfolding put_value value_at z_alloc chosen with_taken zone_bytes with_zone_bytes over
value_is_put = (refl, refl, refl)

abbrev with_new : Memory
with_new = (replace_value with_old 72 (codes "0.55")).after

-- The new block is cut behind the old one, which is then free.
value_is_replaced : ((replace_value with_old 72 (codes "0.55")).answer ≡ Ok 104) × (value_at with_new 104 ≡ Some (codes "0.55")) × (map (λ (b : ZoneBlock). b.used) with_new.zone.blocks ≡ false ∷ true ∷ false ∷ [])
unfolding put_value replace_value value_at z_alloc z_free chosen with_taken with_free joined_at position_of zone_bytes with_zone_bytes over
value_is_replaced = (refl, refl, refl)

-- A zone with one block of 32 bytes has no room for a second value.
abbrev filled : Memory
filled = (put_value (new_memory 65536 64 8 0) (codes "old")).after

value_is_refused : ((replace_value filled 72 (codes "new")).answer ≡ Err 32) × ((replace_value filled 72 (codes "new")).after ≡ filled)
unfolding put_value replace_value z_alloc chosen with_taken with_zone_bytes over
value_is_refused = (refl, refl)
