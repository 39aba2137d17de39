-- Gaps between the blocks of a cache, looked for upwards.
use Rattle.std.specs.Prelude.{ℕ, ◌+◌, ◌<◌, ◌≤◌, ◌≡◌, List, [], ◌∷◌, nat_le, Option, Some, None, if◌then◌else◌, length}
use Rattle.std.specs.List.{insert}
use Rattle.mem_model.specs.Blocks.{CacheBlock}
use Rattle.mem_model.specs.Places.{end_of}
use Rattle.mem_model.specs.Cache.{put_in}

abbrev pub HasSize : CacheBlock → Type 0
HasSize b = 0 < b.size

-- the sizes of the blocks, added up
abbrev pub size_of_cache : List CacheBlock → ℕ
size_of_cache [] = 0
size_of_cache (b ∷ bs) = b.size + size_of_cache bs

-- where the first of some blocks starts, or the top
abbrev pub start_of : ℕ → List CacheBlock → ℕ
start_of top [] = top
start_of top (b ∷ bs) = b.place

-- The first gap of `size` bytes: it begins at `start` or where a block ends, and the next block starts behind it, or it ends by the top.
abbrev pub gap_from : ℕ → ℕ → ℕ → List CacheBlock → Option ℕ
gap_from start size top [] = if nat_le (start + size) top then Some start else None
gap_from start size top (b ∷ bs) = if nat_le (start + size) b.place then Some start else gap_from (end_of b) size top bs

-- The first gap begins at this place, and a block that is put in there stands at position `at`.
pub record IsGap (blocks : List CacheBlock) (start size top at place : ℕ) : Type 0 where
  pub found : gap_from start size top blocks ≡ Some place
  pub inside : at ≤ length blocks
  pub ends : place + size ≤ top
  pub puts : (b : CacheBlock) → b.place ≡ place → put_in blocks b ≡ insert blocks at b
