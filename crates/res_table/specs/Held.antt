-- What holds of the resources of a game between calls.
use Rattle.std.specs.Prelude.{ℕ, ◌≡◌, ◌^◌, ◌≤◌, List, [], ◌∷◌, ◌++◌, take, length, Option, Some, None, option_map}
use Rattle.std.specs.Prelude.{option_and_then, IfSome, Ok}
use Rattle.mem_model.specs.declared.answers.Place.{Place}
use Rattle.mem_model.specs.Blocks.{CacheBlock}
use Rattle.mem_model.specs.Cache.{peek_bytes}
use Rattle.mem_model.specs.Hunk.{low_bytes}
use Rattle.mem_model.specs.Keeps.{AreLow, held}
use Rattle.mem_model.specs.Memory.{Memory}
use Rattle.search_paths.specs.Mounts.{Mount, find_told}
use Rattle.file_load.specs.Loads.{sought}
use Rattle.res_table.specs.declared.kinds.Kind.{Kind}
use Rattle.res_table.specs.declared.kinds.Table.{Table}
use Rattle.res_table.specs.declared.slots.Loaded.{Loaded}
use Rattle.res_table.specs.Images.{file_of, image_of, kind_of}
use Rattle.res_table.specs.Resources.{Resources, rows_in}
use Rattle.res_table.specs.Tables.{found_in, most_of, user_of}

-- the bytes of the block of a resource, where it is there
abbrev pub bytes_at : Memory → (user : ℕ) → Option Place → Option (List ℕ)
bytes_at m user None = peek_bytes m.cache user
bytes_at m user (Some place) = low_bytes m place.0

-- the low places of some rows
abbrev pub low_of : Option Place → List ℕ
low_of None = []
low_of (Some place) = place.0 ∷ []

abbrev pub lows_in : List (List ℕ × Loaded) → List ℕ
lows_in [] = []
lows_in (row ∷ rows) = low_of row.1.low ++ lows_in rows

abbrev pub lows_of : Resources → List ℕ
lows_of t = lows_in t.models ++ lows_in t.sounds

-- The user is that of the slot of a name whose resource is in the cache.
pub record IsSlotUser (t : Resources) (user : ℕ) : Type 0 where
  pub table : Table
  pub name : List ℕ
  pub slot : ℕ
  pub loaded : Loaded
  pub found : found_in name (rows_in t table) ≡ Some (slot, loaded)
  pub cached : loaded.low ≡ None
  pub is : user ≡ user_of table slot

-- The bytes begin with the image of a source of the kind. Where the mounts tell the file, the source is the file's bytes.
pub record IsImageOf (speed : ℕ) (mounts : List (Option Mount)) (table : Table) (file : List ℕ) (loaded : Loaded)
    (bytes : List ℕ) : Type 0 where
  pub source : List ℕ
  pub small : length source ≤ 2 ^ 26
  pub kind : kind_of table source ≡ loaded.kind
  pub image : image_of speed loaded.kind source ≡ Ok (take loaded.size bytes)
  pub fits : loaded.size ≤ length bytes
  pub told : IfSome (find_told file mounts) (λ found. sought found ≡ Ok source)

-- The users of all slots are the store's, and no table has more names than it can have. Each block of the cache is that of
-- a slot, and each low place that of a low block above the zone. Each resource that is there is the image of its file.
pub record AreHeld (mounts : List (Option Mount)) (t : Resources) (m : Memory) : Type 0 where
  pub users : 768 ≤ m.users
  pub few : (table : Table) → length (rows_in t table) ≤ most_of table
  pub cached : (user : ℕ) (b : CacheBlock) → held m.cache user ≡ Some b → IsSlotUser t user
  pub low : AreLow m (lows_of t)
  pub images : (table : Table) (name : List ℕ) (slot : ℕ) (loaded : Loaded)
      → found_in name (rows_in t table) ≡ Some (slot, loaded)
      → IfSome (bytes_at m (user_of table slot) loaded.low) (IsImageOf t.speed mounts table (file_of table name) loaded)

-- whatever the mounts are
abbrev pub AreThere : Resources → Memory → Type 0
AreThere t m = (mounts : List (Option Mount)) × AreHeld mounts t m

-- what is seen of a slot: the kind, and as many bytes of the block as the image has
abbrev pub seen_at : Memory → Table → ℕ × Loaded → Option (Kind × List ℕ)
seen_at m table found =
    option_map (λ bytes. (found.1.kind, take found.1.size bytes)) (bytes_at m (user_of table found.0) found.1.low)

-- what is seen of a name
abbrev pub seen : Resources → Memory → Table → List ℕ → Option (Kind × List ℕ)
seen t m table name = option_and_then (seen_at m table) (found_in name (rows_in t table))
