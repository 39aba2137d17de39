-- What an operation leaves of the parts of a memory that it is not about.
use Rattle.std.specs.Prelude.{ℕ, ◌≡◌, ◌≢◌, List, [], Option, Some, None, IsSome, All, Contains}
use Rattle.std.specs.Option.{option_map}
use Rattle.mem_model.specs.Blocks.{CacheBlock}
use Rattle.mem_model.specs.Memory.{Memory, Cache}
use Rattle.mem_model.specs.Cache.{block_of}
use Rattle.mem_model.specs.Hunk.{low_bytes}

-- a block of the cache, wherever it stands
abbrev pub unplaced : CacheBlock → CacheBlock
unplaced b = record b { place = 0 }

-- what a user has in the cache: the size, the name and the bytes of its block
unfoldable pub held : Cache → ℕ → Option CacheBlock
held c user = option_map unplaced (block_of c user)

abbrev pub IsNot : Option ℕ → ℕ → Type 0
IsNot None user = Unit {0}
IsNot (Some new) user = user ≢ new

-- Each user that has a block after had the same before, at whatever place, but for a new one.
pub record KeepsUsers (new : Option ℕ) (before after : Memory) : Type 0 where
  pub others : (user : ℕ) (b : CacheBlock) → IsNot new user → held after.cache user ≡ Some b → held before.cache user ≡ Some b

-- at each of the places is a low block above the zone
abbrev pub AreLow : Memory → List ℕ → Type 0
AreLow m places = All (λ place. IsSome (low_bytes m place)) places

-- What is left of the blocks that a table names. The low block at each of the places is there with the bytes that it had. Each
-- user that has a block after had the same before, at whatever place, but for the excepted ones. The cache has as many users.
pub record Keeps (lows except : List ℕ) (before after : Memory) : Type 0 where
  pub low : (place : ℕ) (bytes : List ℕ) → Contains lows place → low_bytes before place ≡ Some bytes → low_bytes after place ≡ Some bytes
  pub users : (user : ℕ) (b : CacheBlock) → ¬ Contains except user → held after.cache user ≡ Some b → held before.cache user ≡ Some b
  pub count : after.users ≡ before.users

-- the same of each table of low places
abbrev pub KeepsAll : (except : List ℕ) → (before after : Memory) → Type 0
KeepsAll except before after = (lows : List ℕ) → Keeps lows except before after

abbrev no_cache : Cache
no_cache = record { blocks = []; recency = [] }

-- A memory without the part that an operation is about, without the cache, which any may move, and without its events.
abbrev pub beside_low : Memory → Memory
beside_low m = record m { low = []; cache = no_cache; events = [] }

abbrev pub beside_high : Memory → Memory
beside_high m = record m { high = []; temp = None; cache = no_cache; events = [] }

-- without the zone and the events; the cache counts
abbrev pub beside_zone : Memory → Memory
beside_zone m = record m { zone = record { blocks = []; rover = 0 }; events = [] }

abbrev pub beside_cache : Memory → Memory
beside_cache m = record m { cache = no_cache; events = [] }
