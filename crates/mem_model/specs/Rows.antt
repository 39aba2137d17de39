-- What a report says of the blocks, in rising order of place.
use Rattle.std.specs.Prelude.{ℕ, ◌+◌, ◌-◌, List, [], ◌∷◌, ◌++◌, Bool, true, length, replicate, map}
use Rattle.mem_model.specs.Blocks.{HunkBlock, ZoneBlock, CacheBlock}
use Rattle.mem_model.specs.Memory.{Memory}

-- the place of the header, and the name of 16 bytes
pub record Row : Type 0 where
  pub place : ℕ
  pub size : ℕ
  pub name : List ℕ
  pub user : ℕ
  pub used : Bool

abbrev pub padded : List ℕ → List ℕ
padded name = name ++ replicate (16 - length name) 0

-- A block of a hunk has no user, and is in use.
abbrev pub hunk_row : ℕ → HunkBlock → Row
hunk_row place b = record { place = place; size = b.size; name = padded b.name; user = 0; used = true }

-- the rows of blocks that lie upwards from `start`
abbrev pub rows_up : ℕ → List HunkBlock → List Row
rows_up start [] = []
rows_up start (b ∷ bs) = hunk_row start b ∷ rows_up (start + b.size) bs

-- the rows of blocks that lie downwards from `end`: the last of them has the lowest place
abbrev pub rows_down : ℕ → List HunkBlock → List Row
rows_down end [] = []
rows_down end (b ∷ bs) = rows_down (end - b.size) bs ++ hunk_row (end - b.size) b ∷ []

abbrev pub low_rows : Memory → List Row
low_rows m = rows_up 0 m.low

abbrev pub high_rows : Memory → List Row
high_rows m = rows_down m.size m.high

-- A block of the zone has no name and no user.
abbrev pub zone_row : ℕ → ZoneBlock → Row
zone_row place b = record { place = place; size = b.size; name = padded []; user = 0; used = b.used }

-- the rows of zone blocks that lie upwards from `start`
abbrev pub zone_rows_up : ℕ → List ZoneBlock → List Row
zone_rows_up start [] = []
zone_rows_up start (b ∷ bs) = zone_row start b ∷ zone_rows_up (start + b.size) bs

abbrev pub zone_rows : Memory → List Row
zone_rows m = zone_rows_up 48 m.zone.blocks

abbrev pub cache_row : CacheBlock → Row
cache_row b = record { place = b.place; size = b.size; name = padded b.name; user = b.user; used = true }

abbrev pub cache_rows : Memory → List Row
cache_rows m = map cache_row m.cache.blocks
