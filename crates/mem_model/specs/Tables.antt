-- A table of the places of a cache's blocks by user, and where it leads.
use Rattle.std.specs.Prelude.{ℕ, ◌≡◌, ◌<◌, List, Option, None, length, slice_get, slice_index_or}
use Rattle.std.specs.Option.{option_map}
use Rattle.mem_model.specs.Blocks.{CacheBlock}
use Rattle.mem_model.specs.Cache.{find_block}

-- The table has the place of each user's block, and none for a user without one; past its end there is none either.
pub record IsTable (places : List (Option ℕ)) (blocks : List CacheBlock) : Type 0 where
  pub each : (user : ℕ) → slice_index_or places user None ≡ option_map (λ b. b.place) (find_block user blocks)

-- The user's block stands at position `at`.
pub record IsOwn (blocks : List CacheBlock) (user at : ℕ) : Type 0 where
  pub inside : at < length blocks
  pub found : find_block user blocks ≡ slice_get blocks at
