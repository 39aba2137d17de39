-- The two hunks: lists of blocks that grow and are cut at their new ends, and whose bytes are read and written.
use Rattle.std.specs.Prelude.{ℕ, ◌+◌, ◌-◌, List, [], ◌∷◌, ◌++◌, nat_eq, Option, Some, None, if◌then◌else◌, take, replicate, length, drop}
use Rattle.std.specs.Option.{option_map}
use Rattle.mem_model.specs.Blocks.{HunkBlock}
use Rattle.mem_model.specs.Memory.{Memory, low_used, high_start}
use Rattle.mem_model.specs.Cache.{pushed_up, pushed_down}

-- a block of zero bytes; of a name the first 8 bytes are kept
abbrev pub hunk_block : ℕ → List ℕ → HunkBlock
hunk_block need name = record { size = need; name = take 8 name; bytes = replicate (need - 16) 0 }

-- the memory with one low block more, which pushes the cache up
unfoldable pub with_low : Memory → HunkBlock → Memory
with_low m b = record m { low = m.low ++ b ∷ []; cache = pushed_up m.cache (low_used m + b.size) (high_start m) }

-- the memory with one high block more, which pushes the cache down
unfoldable pub with_high : Memory → HunkBlock → Memory
with_high m b = record m { high = m.high ++ b ∷ []; cache = pushed_down m.cache m.size (high_start m - b.size) }

abbrev pub temp_freed : Memory → Option ℕ → Memory
temp_freed m None = m
temp_freed m (Some mark) = record m { high = take (length m.high - 1) m.high; temp = None }

-- Where a temporary block is active, the newest high block leaves, and none is active.
unfoldable pub without_temp : Memory → Memory
without_temp m = temp_freed m m.temp

-- the oldest of some blocks, as many as end at the mark, where the first begins at `start`
abbrev pub cut_from : ℕ → List HunkBlock → ℕ → Option (List HunkBlock)
cut_from start [] mark = if nat_eq start mark then Some [] else None
cut_from start (b ∷ bs) mark =
    if nat_eq start mark then Some [] else option_map (λ kept. b ∷ kept) (cut_from (start + b.size) bs mark)

-- the same of all low blocks, of which the zone's stays
abbrev pub cut_above : List HunkBlock → ℕ → Option (List HunkBlock)
cut_above [] mark = None
cut_above (zone ∷ blocks) mark = option_map (λ kept. zone ∷ kept) (cut_from zone.size blocks mark)

-- the old bytes with others written over their front; what goes past them is cut, and as many stay as there were
unfoldable pub over : List ℕ → List ℕ → List ℕ
over old bytes = take (length old) (bytes ++ drop (length bytes) old)

abbrev pub with_bytes : HunkBlock → List ℕ → HunkBlock
with_bytes b bytes = record b { bytes = over b.bytes bytes }

-- the bytes of the block whose payload is at this place, where the first block begins at `start`
abbrev pub bytes_from : ℕ → List HunkBlock → ℕ → Option (List ℕ)
bytes_from start [] place = None
bytes_from start (b ∷ bs) place = if nat_eq (start + 16) place then Some b.bytes else bytes_from (start + b.size) bs place

-- the blocks with bytes written into that one
abbrev pub with_bytes_from : ℕ → List HunkBlock → ℕ → List ℕ → List HunkBlock
with_bytes_from start [] place bytes = []
with_bytes_from start (b ∷ bs) place bytes =
    if nat_eq (start + 16) place then with_bytes b bytes ∷ bs else b ∷ with_bytes_from (start + b.size) bs place bytes

-- the same of all low blocks but the zone's
abbrev pub bytes_above : List HunkBlock → ℕ → Option (List ℕ)
bytes_above [] place = None
bytes_above (zone ∷ blocks) place = bytes_from zone.size blocks place

abbrev pub with_bytes_above : List HunkBlock → ℕ → List ℕ → List HunkBlock
with_bytes_above [] place bytes = []
with_bytes_above (zone ∷ blocks) place bytes = zone ∷ with_bytes_from zone.size blocks place bytes

-- the bytes of the low block above the zone whose payload is at this place
unfoldable pub low_bytes : Memory → ℕ → Option (List ℕ)
low_bytes m place = bytes_above m.low place

-- the memory with bytes written into that block
unfoldable pub with_low_bytes : Memory → ℕ → List ℕ → Memory
with_low_bytes m place bytes = record m { low = with_bytes_above m.low place bytes }

-- the bytes of the newest of some blocks
abbrev pub last_bytes : List HunkBlock → Option (List ℕ)
last_bytes [] = None
last_bytes (b ∷ []) = Some b.bytes
last_bytes (b ∷ c ∷ bs) = last_bytes (c ∷ bs)

abbrev pub with_last_bytes : List HunkBlock → List ℕ → List HunkBlock
with_last_bytes [] bytes = []
with_last_bytes (b ∷ []) bytes = with_bytes b bytes ∷ []
with_last_bytes (b ∷ c ∷ bs) bytes = b ∷ with_last_bytes (c ∷ bs) bytes

abbrev pub temp_bytes_of : List HunkBlock → Option ℕ → Option (List ℕ)
temp_bytes_of high None = None
temp_bytes_of high (Some mark) = last_bytes high

-- the bytes of the active temporary block
unfoldable pub temp_bytes : Memory → Option (List ℕ)
temp_bytes m = temp_bytes_of m.high m.temp

abbrev pub with_temp_bytes_of : Memory → List ℕ → Option ℕ → Memory
with_temp_bytes_of m bytes None = m
with_temp_bytes_of m bytes (Some mark) = record m { high = with_last_bytes m.high bytes }

-- the memory with bytes written into that block
unfoldable pub with_temp_bytes : Memory → List ℕ → Memory
with_temp_bytes m bytes = with_temp_bytes_of m bytes m.temp

-- the bytes of the block whose payload is at this place, where the blocks lie downwards from `end`
abbrev pub bytes_down : ℕ → List HunkBlock → ℕ → Option (List ℕ)
bytes_down end [] place = None
bytes_down end (b ∷ bs) place = if nat_eq ((end - b.size) + 16) place then Some b.bytes else bytes_down (end - b.size) bs place

-- the blocks with bytes written into that one
abbrev pub with_bytes_down : ℕ → List HunkBlock → ℕ → List ℕ → List HunkBlock
with_bytes_down end [] place bytes = []
with_bytes_down end (b ∷ bs) place bytes =
    if nat_eq ((end - b.size) + 16) place then with_bytes b bytes ∷ bs else b ∷ with_bytes_down (end - b.size) bs place bytes

-- the bytes of the high block whose payload is at this place, that of an active temporary block included
unfoldable pub high_bytes : Memory → ℕ → Option (List ℕ)
high_bytes m place = bytes_down m.size m.high place

-- the memory with bytes written into that block
unfoldable pub with_high_bytes : Memory → ℕ → List ℕ → Memory
with_high_bytes m place bytes = record m { high = with_bytes_down m.size m.high place bytes }

-- the same bytes where the block is not the temporary one, so that it lasts until it is freed by a mark
unfoldable pub lasting_bytes : Memory → ℕ → Option (List ℕ)
lasting_bytes m place = high_bytes (without_temp m) place
