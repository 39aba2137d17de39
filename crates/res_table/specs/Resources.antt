-- The tables of resources of a game.
use Rattle.std.specs.Prelude.{ℕ, List, []}
use Rattle.res_table.specs.declared.kinds.Table.{Table}
use Rattle.res_table.specs.declared.kinds.Table.TheVariants.{Models, Sounds}
use Rattle.res_table.specs.declared.slots.Loaded.{Loaded}

-- The names of each table in the order of their first loads, each with what was loaded for it, and the speed at which sounds
-- are played, in samples a second.
pub record Resources : Type 0 where
  pub speed : ℕ
  pub models : List (List ℕ × Loaded)
  pub sounds : List (List ℕ × Loaded)

-- no names in any table
abbrev pub no_resources : (speed : ℕ) → Resources
no_resources speed = record { speed = speed; models = []; sounds = [] }

abbrev pub rows_in : Resources → Table → List (List ℕ × Loaded)
rows_in t Models = t.models
rows_in t Sounds = t.sounds

abbrev pub with_rows : Resources → Table → List (List ℕ × Loaded) → Resources
with_rows t Models rows = record t { models = rows }
with_rows t Sounds rows = record t { sounds = rows }
