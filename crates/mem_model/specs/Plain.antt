-- Where a plain store's vectors have what is looked for.
use Rattle.std.specs.Prelude.{ℕ, ◌+◌, ◌≡◌, ◌<◌, ◌≤◌, List, [], ◌∷◌, Bool, ◌&&◌, nat_le, not, Some, None, length, slice_get, slice_set, take}
use Rattle.mem_model.specs.Blocks.{HunkBlock, ZoneBlock}
use Rattle.mem_model.specs.Memory.{Memory, room, size_of}
use Rattle.mem_model.specs.Cache.{block_of}
use Rattle.mem_model.specs.Places.{cache_need}
use Rattle.mem_model.specs.Hunk.{bytes_above, with_bytes_above, bytes_down, with_bytes_down, with_bytes, cut_above, cut_from, last_bytes, with_last_bytes}
use Rattle.mem_model.specs.Zone.{used_bytes_from, with_payload, with_payload_from}

-- where each of the blocks ends, the first of which begins at `start`
abbrev pub ends_from : ℕ → List HunkBlock → List ℕ
ends_from start [] = []
ends_from start (b ∷ bs) = (start + b.size) ∷ ends_from (start + b.size) bs

-- The block of this payload's place is that at position i.
pub record IsAt (blocks : List HunkBlock) (place i : ℕ) : Type 0 where
  pub inside : i < length blocks
  pub reads : (b : HunkBlock) → slice_get blocks i ≡ Some b → bytes_above blocks place ≡ Some b.bytes
  pub writes : (b : HunkBlock) (bytes : List ℕ) → slice_get blocks i ≡ Some b → with_bytes_above blocks place bytes ≡ slice_set blocks i (with_bytes b bytes)

-- The mark keeps the first n blocks, which end there.
pub record IsCut (blocks : List HunkBlock) (mark n : ℕ) : Type 0 where
  pub some : 0 < n
  pub kept : cut_above blocks mark ≡ Some (take n blocks)
  pub ends : size_of (take n blocks) ≡ mark

-- The mark keeps the first n high blocks, which end there.
pub record IsHighCut (blocks : List HunkBlock) (mark n : ℕ) : Type 0 where
  pub kept : cut_from 0 blocks mark ≡ Some (take n blocks)
  pub ends : size_of (take n blocks) ≡ mark

-- Of the high blocks, which lie downwards from `top`, that of this payload's place is the one at position i.
pub record IsHighAt (top : ℕ) (blocks : List HunkBlock) (place i : ℕ) : Type 0 where
  pub inside : i < length blocks
  pub reads : (b : HunkBlock) → slice_get blocks i ≡ Some b → bytes_down top blocks place ≡ Some b.bytes
  pub writes : (b : HunkBlock) (bytes : List ℕ) → slice_get blocks i ≡ Some b → with_bytes_down top blocks place bytes ≡ slice_set blocks i (with_bytes b bytes)

-- A new block of the user is given, and takes so much: the user has none, and there is room.
pub record IsGiven (m : Memory) (user size need : ℕ) : Type 0 where
  pub absent : block_of m.cache user ≡ None
  pub some : 0 < size
  pub is : need ≡ cache_need size
  pub fits : need ≤ room m

-- The newest block is that at position n.
pub record IsLast (blocks : List HunkBlock) (n : ℕ) : Type 0 where
  pub inside : n < length blocks
  pub reads : (b : HunkBlock) → slice_get blocks n ≡ Some b → last_bytes blocks ≡ Some b.bytes
  pub writes : (b : HunkBlock) (bytes : List ℕ) → slice_get blocks n ≡ Some b → with_last_bytes blocks bytes ≡ slice_set blocks n (with_bytes b bytes)

-- a free block of at least this size
abbrev pub is_fit : ℕ → ZoneBlock → Bool
is_fit need b = not b.used && nat_le need b.size

-- The used zone block of this payload's place is that at position i.
pub record IsUsedAt (blocks : List ZoneBlock) (place i : ℕ) : Type 0 where
  pub inside : i < length blocks
  pub reads : (b : ZoneBlock) → slice_get blocks i ≡ Some b → used_bytes_from 48 blocks place ≡ Some b.bytes
  pub writes : (b : ZoneBlock) (bytes : List ℕ) → slice_get blocks i ≡ Some b → with_payload_from 48 blocks place bytes ≡ slice_set blocks i (with_payload b bytes)
