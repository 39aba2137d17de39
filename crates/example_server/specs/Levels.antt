-- What the memory of a level holds.
use Rattle.std.specs.Prelude.{◌≡◌, ℕ, List, length, take, IsSomeAnd}
use Rattle.base_fields.specs.Fields.{u32_in}
use Rattle.mem_model.specs.Memory.{Memory}
use Rattle.mem_model.specs.Hunk.{low_bytes}
use Rattle.mem_model.specs.Zone.{zone_bytes}

-- the low block at this place begins with these bytes
abbrev pub HoldsMap : Memory → ℕ → List ℕ → Type 0
HoldsMap m place map = IsSomeAnd (low_bytes m place) (λ bytes. take (length map) bytes ≡ map)

-- the block of the zone at this place begins with this number
abbrev pub HoldsScore : Memory → ℕ → ℕ → Type 0
HoldsScore m place score = IsSomeAnd (zone_bytes m place) (λ bytes. u32_in bytes 0 ≡ score)
