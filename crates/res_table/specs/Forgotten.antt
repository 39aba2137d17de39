-- What is forgotten where the low hunk is freed to a level.
use Rattle.std.specs.Prelude.{ℕ, ◌-◌, nat_lt, List, map, Option, Some, None, if◌then◌else◌}
use Rattle.mem_model.specs.declared.answers.Place.{Place}
use Rattle.res_table.specs.declared.slots.Loaded.{Loaded}
use Rattle.res_table.specs.Resources.{Resources}

-- a low place, where the header of its block, which is 16 bytes before it, lies below the level
abbrev pub low_below : (level : ℕ) → Option Place → Option Place
low_below level None = None
low_below level (Some place) = if nat_lt (place.0 - 16) level then Some place else None

-- what is left of a resource: one whose low place isn't below is absent
abbrev pub left_below : (level : ℕ) → Loaded → Loaded
left_below level loaded = record loaded { low = low_below level loaded.low }

abbrev pub rows_below : (level : ℕ) → List (List ℕ × Loaded) → List (List ℕ × Loaded)
rows_below level rows = map (λ row. (row.0, left_below level row.1)) rows

-- Each name keeps its slot, and what is in the cache stays.
abbrev pub forgotten : (level : ℕ) → Resources → Resources
forgotten level t = record t { models = rows_below level t.models; sounds = rows_below level t.sounds }
