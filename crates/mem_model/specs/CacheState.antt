-- The cache that a plain store's part stands for, and what holds of its fields.
use Rattle.std.specs.Prelude.{◌≡◌, ◌^◌}
use Rattle.mem_model.specs.Memory.{Cache}
use Rattle.mem_model.specs.Laid.{IsCache}
use Rattle.mem_model.specs.Gaps.{size_of_cache}
use Rattle.mem_model.specs.Tables.{IsTable}
use Rattle.mem_model.specs.declared.cache.PlainCache.TheInside.{Inside}

abbrev pub cache_in : Inside → Cache
cache_in s = record { blocks = s.cells.items; recency = s.recency.items }

-- The cache is in order somewhere in an arena, and the places and the sum are those of the blocks.
pub record IsPlainCache (s : Inside) : Type 0 where
  pub order : IsCache (cache_in s) (2 ^ 32) 0 (2 ^ 26)
  pub places : IsTable s.places.items s.cells.items
  pub used : s.used ≡ size_of_cache s.cells.items
