-- The change of the map.
use Rattle.std.specs.Prelude.{ℕ, List, Option}
use Rattle.mem_model.specs.Memory.{Memory}
use Rattle.mem_model.specs.Operations.{low_free}
use Rattle.file_load.specs.Loads.{Loading}
use Rattle.res_table.specs.declared.kinds.Table.TheVariants.{Models}
use Rattle.res_table.specs.Acquire.{Acquired, acquire, answered_before}
use Rattle.res_table.specs.Forgotten.{forgotten}
use Rattle.res_table.specs.Resources.{Resources}

-- the memory with its low hunk freed to a level
abbrev pub freed_to : (level : ℕ) → Memory → Memory
freed_to level m = (low_free m level).after

module _ (t : Resources) (m : Memory) (level : ℕ) (file : List ℕ) where
  -- what is answered without the file, after the low hunk was freed and what lay there was forgotten
  abbrev pub changed_before : Option Acquired
  changed_before = answered_before (forgotten level t) (freed_to level m) Models file

  -- The low hunk is freed to the level, what lay there is forgotten, and then the file is acquired as a model, with its loading
  -- where that is told.
  abbrev pub change_map : Option Loading → Option Acquired
  change_map told = acquire (forgotten level t) (freed_to level m) Models file told
