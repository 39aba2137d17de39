-- What a memory consists of. A size is in bytes, and a place is an offset in the arena.
use Rattle.std.specs.Prelude.{ℕ, List, Bool}

-- A block of the low or the high hunk. `size` counts its header of 16 bytes, and `bytes` are those behind the header.
pub record HunkBlock : Type 0 where
  pub size : ℕ
  pub name : List ℕ
  pub bytes : List ℕ

-- A block of the zone. `size` counts its header of 24 bytes and its end mark of 4. A free block has no bytes.
pub record ZoneBlock : Type 0 where
  pub size : ℕ
  pub used : Bool
  pub bytes : List ℕ

-- A block of the cache. `place` is that of its header, `size` counts the header of 40 bytes, and `user` is whose block it is.
pub record CacheBlock : Type 0 where
  pub place : ℕ
  pub size : ℕ
  pub user : ℕ
  pub name : List ℕ
  pub bytes : List ℕ
