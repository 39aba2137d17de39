-- What one move, one turn of a push and one eviction leave.
use Prim.Native.Nat.{zero, suc}
use Rattle.std.specs.Prelude.{ℕ, ◌+◌, ◌-◌, ◌^◌, true, drop, ◌<◌, ◌≤◌, ◌≡◌, List, [], ◌∷◌, nat_eq, None, if◌then◌else◌, length}
use Rattle.std.specs.List.{insert}
use Rattle.mem_model.specs.Blocks.{CacheBlock}
use Rattle.mem_model.specs.Memory.{Cache}
use Rattle.mem_model.specs.Places.{end_of, is_clear}
use Rattle.mem_model.specs.Cache.{put_in, without_block, pushed_up, pushed_down, with_fitted}
use Rattle.mem_model.specs.Gaps.{IsGap, gap_from, start_of}
use Rattle.mem_model.specs.Laid.{AreBetween, IsCache, count_in, users_of}

-- each moves one back, up to the user's own place, and `carried` comes in front
abbrev pub shifted : ℕ → ℕ → List ℕ → List ℕ
shifted carried user [] = []
shifted carried user (x ∷ xs) = carried ∷ (if nat_eq x user then xs else shifted x user xs)

-- A block of this size at this place meets no block, and lies between the two bounds.
pub record IsHop (blocks : List CacheBlock) (bottom high place size : ℕ) : Type 0 where
  pub above : bottom ≤ place
  pub below : place + size ≤ high
  pub clear : is_clear blocks place size ≡ true

-- The block may move to this place, where it comes to stand at position `to` among the others.
pub record IsMove (blocks : List CacheBlock) (b : CacheBlock) (to place : ℕ) : Type 0 where
  pub inside : to < length blocks
  pub hop : IsHop blocks 0 (2 ^ 26) place b.size
  pub puts : put_in (without_block blocks b.user) (record b { place = place }) ≡ insert (without_block blocks b.user) to (record b { place = place })

-- how far all blocks together may rise
abbrev pub height : ℕ → List CacheBlock → ℕ
height top [] = 0
height top (b ∷ bs) = (suc top - b.place) + height top bs

-- What a turn of a push up leaves: the push goes on to the same end.
pub record IsRise (bottom top : ℕ) (before after : Cache) : Type 0 where
  pub pushed : pushed_up after bottom top ≡ pushed_up before bottom top
  pub between : AreBetween 0 top after.blocks
  pub lower : height top after.blocks < height top before.blocks

-- how far all blocks together may fall
abbrev pub depth : List CacheBlock → ℕ
depth [] = 0
depth (b ∷ bs) = suc b.place + depth bs

-- The same of a push down.
pub record IsFall (top : ℕ) (before after : Cache) : Type 0 where
  pub pushed : (size : ℕ) → AreBetween 0 size before.blocks → top ≤ size → pushed_down after size top ≡ pushed_down before size top
  pub between : (size : ℕ) → AreBetween 0 size before.blocks → top ≤ size → AreBetween 0 size after.blocks
  pub lower : depth after.blocks < depth before.blocks

-- where the block before a position ends, or `start` before the first
abbrev pub edge : ℕ → List CacheBlock → ℕ → ℕ
edge start blocks zero = start
edge start [] (suc at) = start
edge start (b ∷ bs) (suc at) = edge (end_of b) bs at

-- The first gap is where a block has left, if it is large enough there, and nowhere if it isn't.
pub record IsAround (blocks : List CacheBlock) (start size top at : ℕ) : Type 0 where
  pub fits : edge start blocks at + size ≤ start_of top (drop at blocks) → IsGap blocks start size top at (edge start blocks at)
  pub full : start_of top (drop at blocks) < edge start blocks at + size → gap_from start size top blocks ≡ None

-- What evictions leave: a block of the size comes to the same.
pub record IsRoom (bottom top size : ℕ) (before after : Cache) : Type 0 where
  pub order : IsCache after (2 ^ 32) bottom top
  pub same : (b : CacheBlock) → b.size ≡ size → with_fitted after bottom top b ≡ with_fitted before bottom top b
  pub absent : (user : ℕ) → count_in user (users_of before.blocks) ≡ 0 → count_in user (users_of after.blocks) ≡ 0

-- One eviction, where no gap was large enough, leaves a user less too.
pub record IsEvicted (bottom top size : ℕ) (before after : Cache) : Type 0 where
  pub order : IsCache after (2 ^ 32) bottom top
  pub same : (b : CacheBlock) → b.size ≡ size → with_fitted after bottom top b ≡ with_fitted before bottom top b
  pub absent : (user : ℕ) → count_in user (users_of before.blocks) ≡ 0 → count_in user (users_of after.blocks) ≡ 0
  pub fewer : length after.recency < length before.recency
