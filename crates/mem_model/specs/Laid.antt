-- What holds of every memory: its blocks lie inside the arena, and no two of them meet.
use Rattle.std.specs.Prelude.{ℕ, ◌≡◌, ◌≢◌, ◌+◌, ◌-◌, ◌%◌, ◌^◌, ◌<◌, ◌≤◌, List, [], ◌∷◌, ◌++◌, Option, Some, None, IsTrue, ◌⊎◌, All, length, nat_eq, if◌then◌else◌, codes}
use Rattle.std.specs.List.{AllByRecursion}
use Rattle.mem_model.specs.Blocks.{HunkBlock, ZoneBlock, CacheBlock}
use Rattle.mem_model.specs.Places.{end_of}
use Rattle.mem_model.specs.Zone.{size_of_zone}
use Rattle.mem_model.specs.Memory.{Memory, Zone, Cache, size_of, low_used, high_used, high_start}

-- n is a multiple of k
abbrev pub IsMultiple : ℕ → ℕ → Type 0
IsMultiple k n = n % k ≡ 0

-- no byte is zero
abbrev pub IsText : List ℕ → Type 0
IsText name = All (λ byte. byte ≢ 0) name

-- a block of either hunk, the zone's aside
pub record IsHunkBlock (b : HunkBlock) : Type 0 where
  pub header : 16 ≤ b.size
  pub whole : IsMultiple 16 b.size
  pub short : length b.name ≤ 8
  pub text : IsText b.name
  pub bytes : length b.bytes ≡ b.size - 16

-- the block of the zone, for whose bytes the zone's list stands
pub record IsZoneOwner (b : HunkBlock) : Type 0 where
  pub header : 16 ≤ b.size
  pub whole : IsMultiple 16 b.size
  pub name : b.name ≡ codes "zone"
  pub bytes : b.bytes ≡ []

-- the zone's block comes first
abbrev pub AreLowBlocks : List HunkBlock → Type 0
AreLowBlocks [] = ⊥
AreLowBlocks (zone ∷ blocks) = IsZoneOwner zone × AllByRecursion IsHunkBlock blocks

pub record IsZoneBlock (b : ZoneBlock) : Type 0 where
  pub least : 32 ≤ b.size
  pub whole : IsMultiple 8 b.size
  pub bytes : length b.bytes ≡ (if b.used then b.size - 28 else 0)

-- one of the two is in use
abbrev pub NotBothFree : ZoneBlock → ZoneBlock → Type 0
NotBothFree a b = IsTrue a.used ⊎ IsTrue b.used

abbrev pub AllNeighbours : (ZoneBlock → ZoneBlock → Type 0) → List ZoneBlock → Type 0
AllNeighbours R [] = Unit {0}
AllNeighbours R (a ∷ []) = Unit {0}
AllNeighbours R (a ∷ b ∷ bs) = R a b × AllNeighbours R (b ∷ bs)

-- The blocks tile the zone's block behind the two headers, which take 48 bytes, and no two free ones are neighbours.
pub record IsZone (z : Zone) (size : ℕ) : Type 0 where
  pub blocks : AllByRecursion IsZoneBlock z.blocks
  pub tiles : size_of_zone z.blocks + 48 ≡ size
  pub merged : AllNeighbours NotBothFree z.blocks
  pub rover : z.rover ≤ length z.blocks

pub record IsCacheBlock (users : ℕ) (b : CacheBlock) : Type 0 where
  pub least : 48 ≤ b.size
  pub whole : IsMultiple 16 b.size
  pub user : b.user < users
  pub short : length b.name ≤ 15
  pub text : IsText b.name
  pub bytes : length b.bytes ≡ b.size - 40

-- the blocks lie between the two places in rising order, and don't meet
abbrev pub AreBetween : ℕ → ℕ → List CacheBlock → Type 0
AreBetween bottom top [] = bottom ≤ top
AreBetween bottom top (b ∷ bs) = (bottom ≤ b.place) × AreBetween (end_of b) top bs

-- how often a user occurs
abbrev pub count_in : ℕ → List ℕ → ℕ
count_in user [] = 0
count_in user (u ∷ us) = (if nat_eq u user then 1 else 0) + count_in user us

abbrev pub users_of : List CacheBlock → List ℕ
users_of [] = []
users_of (b ∷ bs) = b.user ∷ users_of bs

-- The blocks lie between the hunks, no user has two, and the recency has each user of a block once and no others.
pub record IsCache (c : Cache) (users bottom top : ℕ) : Type 0 where
  pub blocks : AllByRecursion (IsCacheBlock users) c.blocks
  pub between : AreBetween bottom top c.blocks
  pub one_each : (user : ℕ) → count_in user (users_of c.blocks) ≤ 1
  pub recency : (user : ℕ) → count_in user c.recency ≡ count_in user (users_of c.blocks)

-- the active temporary block is the newest high one, over its mark
abbrev pub IsTemp : List HunkBlock → Option ℕ → Type 0
IsTemp high None = Unit {0}
IsTemp high (Some mark) = (older : List HunkBlock) × (b : HunkBlock) × (high ≡ older ++ b ∷ []) × (mark ≡ size_of older)

abbrev pub first_size : List HunkBlock → ℕ
first_size [] = 0
first_size (b ∷ bs) = b.size

pub record Laid (m : Memory) : Type 0 where
  pub small : m.size ≤ 2 ^ 26
  pub inside : low_used m + high_used m ≤ m.size
  pub low : AreLowBlocks m.low
  pub high : AllByRecursion IsHunkBlock m.high
  pub temp : IsTemp m.high m.temp
  pub zone : IsZone m.zone (first_size m.low)
  pub cache : IsCache m.cache m.users (low_used m) (high_start m)
  pub events : length m.events ≤ m.event_room
