-- What a call of the memory asked, and what it was answered.
use Rattle.std.specs.Prelude.{ℕ, Bool, Option, Result}

-- what a refused allocation asked, its header included, and the room that there was
pub record Shortage : Type 0 where
  pub asked : ℕ
  pub room : ℕ

-- why a place of the zone was not freed
pub data FreeRefusal : Type 0 where
  NotZone : ℕ → FreeRefusal
  AlreadyFree : ℕ → FreeRefusal

-- why a user got no block of the cache
pub data CacheRefusal : Type 0 where
  Occupied : ℕ → CacheRefusal
  BadSize : CacheRefusal
  NoRoom : Shortage → CacheRefusal

-- Each has the numbers of its call, and then the answer. An allocation answers the place of the payload, or why there is none.
pub data Event : Type 0 where
  LowAlloc : ℕ → Result ℕ Shortage → Event
  HighAlloc : ℕ → Result ℕ Shortage → Event
  TempAlloc : ℕ → Result ℕ Shortage → Event
  -- a freeing to a mark answers the mark that is none
  LowFree : ℕ → Result (Unit {0}) ℕ → Event
  HighFree : ℕ → Result (Unit {0}) ℕ → Event
  HighMark : ℕ → Event
  -- a full zone answers what was asked, header and end mark included
  ZoneAlloc : ℕ → Result ℕ ℕ → Event
  ZoneFree : ℕ → Result (Unit {0}) FreeRefusal → Event
  -- the user, the size and the answer
  CacheAlloc : ℕ → ℕ → Result (Unit {0}) CacheRefusal → Event
  -- the user, and the place of its block's payload
  Check : ℕ → Option ℕ → Event
  -- the user, and whether it had a block
  CacheFree : ℕ → Bool → Event
  Flush : Event
