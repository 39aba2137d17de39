-- The memory of the machine: one arena with a low hunk, a high hunk, a zone and a cache.
use Rattle.std.specs.Prelude.{ℕ, ◌+◌, ◌-◌, List, [], ◌∷◌, false, Option, None, codes}
use Rattle.mem_model.specs.Blocks.{HunkBlock, ZoneBlock, CacheBlock}
use Rattle.mem_model.specs.Event.{Event}

-- The blocks tile the zone behind its header. The rover is a position among them; their number stands for the zone's cap.
pub record Zone : Type 0 where
  pub blocks : List ZoneBlock
  pub rover : ℕ

-- the blocks in rising order of place, and their users, the most recently used first
pub record Cache : Type 0 where
  pub blocks : List CacheBlock
  pub recency : List ℕ

abbrev pub cache_of : List CacheBlock → List ℕ → Cache
cache_of blocks recency = record { blocks = blocks; recency = recency }

pub record Memory : Type 0 where
  -- of the arena, in bytes
  pub size : ℕ
  -- how many users the cache has
  pub users : ℕ
  -- Oldest first. The first low block is the zone's, and `zone` stands for its bytes.
  pub low : List HunkBlock
  pub high : List HunkBlock
  -- the high mark that lies under the active temporary block, where one is active
  pub temp : Option ℕ
  pub zone : Zone
  pub cache : Cache
  -- the events that are kept, oldest first, and how many may be
  pub event_room : ℕ
  pub events : List Event

-- the sizes of the blocks, added up
abbrev pub size_of : List HunkBlock → ℕ
size_of [] = 0
size_of (b ∷ bs) = b.size + size_of bs

-- The low hunk lies from 0 up to here.
abbrev pub low_used : Memory → ℕ
low_used m = size_of m.low

abbrev pub high_used : Memory → ℕ
high_used m = size_of m.high

-- The high hunk lies from here to the arena's end.
abbrev pub high_start : Memory → ℕ
high_start m = m.size - high_used m

-- what lies between the hunks; the cache does not count
abbrev pub room : Memory → ℕ
room m = high_start m - low_used m

-- a memory with the zone's block alone, whose `zone` bytes are its header of 32 and one free block
abbrev pub new_memory : ℕ → ℕ → ℕ → ℕ → Memory
new_memory size zone users event_room = record {
  size = size;
  users = users;
  low = record { size = zone + 16; name = codes "zone"; bytes = [] } ∷ [];
  high = [];
  temp = None;
  zone = record { blocks = record { size = zone - 32; used = false; bytes = [] } ∷ []; rover = 0 };
  cache = record { blocks = []; recency = [] };
  event_room = event_room;
  events = [];
}
