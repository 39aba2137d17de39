-- The tables of resources: a slot for each name.
use Rattle.std.specs.Prelude.{ℕ, ◌+◌, List, [], ◌∷◌, ◌++◌, length, slice_get, Option, Some, None, option_map}
use Rattle.std.specs.Prelude.{option_and_then, unwrap_or, bytes_eq, position}
use Rattle.indexmap.specs.IndexMap.{set_value_at}
use Rattle.std.specs.Map.{keys_of}
use Rattle.res_table.specs.declared.kinds.Table.{Table}
use Rattle.res_table.specs.declared.kinds.Table.TheVariants.{Models, Sounds}
use Rattle.res_table.specs.declared.slots.Loaded.{Loaded}

-- how many names a table has at most
abbrev pub most_of : Table → ℕ
most_of Models = 256
most_of Sounds = 512

-- the user of the cache that a slot has
abbrev pub user_of : Table → ℕ → ℕ
user_of Models slot = slot
user_of Sounds slot = 256 + slot

-- the names of a table, each with what was loaded for it, and for how many there is room
pub record SlotTable : Type 0 where
  pub rows : List (List ℕ × Loaded)
  pub most : ℕ

-- the slot of a name
abbrev pub slot_of : List ℕ → List (List ℕ × Loaded) → Option ℕ
slot_of name rows = position (bytes_eq name) (keys_of rows)

-- the slot of a name, and what was loaded for it
abbrev pub found_in : List ℕ → List (List ℕ × Loaded) → Option (ℕ × Loaded)
found_in name rows = option_and_then (λ slot. option_map (λ row. (slot, row.1)) (slice_get rows slot)) (slot_of name rows)

-- the slot that a name has, or gets
abbrev pub slot_for : List ℕ → List (List ℕ × Loaded) → ℕ
slot_for name rows = unwrap_or (slot_of name rows) (length rows)

-- the rows with what was loaded for a name, in its slot or in the next one
abbrev pub entered_at : List (List ℕ × Loaded) → List ℕ → Loaded → Option ℕ → List (List ℕ × Loaded)
entered_at rows name loaded None = rows ++ (name, loaded) ∷ []
entered_at rows name loaded (Some slot) = set_value_at rows slot loaded

abbrev pub entered : List (List ℕ × Loaded) → List ℕ → Loaded → List (List ℕ × Loaded)
entered rows name loaded = entered_at rows name loaded (slot_of name rows)
