-- The operations of the memory: each gives an answer and the memory after it, its event noted.
use Rattle.std.specs.Prelude.{ℕ, ◌+◌, ◌-◌, List, [], Bool, nat_lt, nat_eq, Option, Some, None, is_some, Result, Ok, Err, is_ok, if◌then◌else◌, slice_get, codes}
use Rattle.mem_model.specs.Blocks.{HunkBlock, ZoneBlock}
use Rattle.mem_model.specs.Places.{hunk_need, zone_need, cache_need, round_up}
use Rattle.mem_model.specs.Event.{Event.LowAlloc, Event.TempAlloc, Event.HighAlloc, Event.LowFree, Event.HighFree, Event.HighMark, Event.ZoneAlloc, Event.ZoneFree, Event.CacheAlloc, Event.Check, Event.CacheFree, Event.Flush, Shortage, FreeRefusal, FreeRefusal.NotZone, FreeRefusal.AlreadyFree, CacheRefusal, CacheRefusal.Occupied, CacheRefusal.BadSize, CacheRefusal.NoRoom}
use Rattle.mem_model.specs.Memory.{Memory, low_used, high_used, high_start, room}
use Rattle.mem_model.specs.Answer.{Answered, noted}
use Rattle.mem_model.specs.Cache.{with_new, block_of, peek_place, without, touched}
use Rattle.mem_model.specs.Zone.{chosen, with_taken, with_free, position_of, place_at}
use Rattle.mem_model.specs.Hunk.{hunk_block, with_low, with_high, without_temp, cut_from, cut_above, low_bytes, with_low_bytes, temp_bytes}
use Rattle.mem_model.specs.Images.{front_of, with_cache_bytes, with_image}

-- what a request asks, and the room that there is
abbrev pub shortage : Memory → ℕ → Shortage
shortage m need = record { asked = need; room = room m }

-- A low block of `size` bytes is refused where its need exceeds the room. Else it stands at the low hunk's end.
unfoldable pub low_alloc : Memory → ℕ → List ℕ → Answered (Result ℕ Shortage)
low_alloc m size name =
    let need = hunk_need size in
    noted (if nat_lt (room m) need
    then record { answer = Err (shortage m need); after = m }
    else record { answer = Ok (low_used m + 16); after = with_low m (hunk_block need name) }) (LowAlloc size)

-- the same in the high hunk, where no temporary block is active
unfoldable pub high_taken : Memory → ℕ → List ℕ → Answered (Result ℕ Shortage)
high_taken m size name =
    let need = hunk_need size in
    if nat_lt (room m) need
    then record { answer = Err (shortage m need); after = m }
    else record { answer = Ok (high_start m - need + 16); after = with_high m (hunk_block need name) }

-- A high allocation first frees the temporary block.
unfoldable pub high_alloc : Memory → ℕ → List ℕ → Answered (Result ℕ Shortage)
high_alloc m size name = noted (high_taken (without_temp m) size name) (HighAlloc size)

-- A temporary block is a high one over the former mark. After a refusal none is active.
unfoldable pub temp_alloc : Memory → ℕ → Answered (Result ℕ Shortage)
temp_alloc m size =
    let base : Memory = without_temp m in
    let given : Answered (Result ℕ Shortage) = high_taken base (round_up size 16) (codes "temp") in
    noted (record given { after = record given.after { temp = if is_ok given.answer then Some (high_used base) else None } }) (TempAlloc size)

abbrev pub low_cut : Memory → ℕ → Option (List HunkBlock) → Answered (Result (Unit {0}) ℕ)
low_cut m mark None = record { answer = Err mark; after = m }
low_cut m mark (Some kept) = record { answer = Ok tt; after = record m { low = kept } }

-- The low hunk is cut at a mark: the end of the zone's block, or of a block above it.
unfoldable pub low_free : Memory → ℕ → Answered (Result (Unit {0}) ℕ)
low_free m mark = noted (low_cut m mark (cut_above m.low mark)) (LowFree mark)

abbrev pub high_cut : Memory → ℕ → Option (List HunkBlock) → Answered (Result (Unit {0}) ℕ)
high_cut m mark None = record { answer = Err mark; after = m }
high_cut m mark (Some kept) = record { answer = Ok tt; after = record m { high = kept } }

-- The temporary block is freed, and the high hunk is cut at a mark: 0, or the end of a block.
unfoldable pub high_free : Memory → ℕ → Answered (Result (Unit {0}) ℕ)
high_free m mark =
    let base : Memory = without_temp m in
    noted (high_cut base mark (cut_from 0 base.high mark)) (HighFree mark)

-- The high hunk's size is read; the temporary block is freed.
unfoldable pub high_mark : Memory → Answered ℕ
high_mark m =
    let base : Memory = without_temp m in
    noted (record { answer = high_used base; after = base }) HighMark

abbrev pub z_taken : Memory → ℕ → Option ℕ → Answered (Result ℕ ℕ)
z_taken m need None = record { answer = Err need; after = m }
z_taken m need (Some i) = record { answer = Ok (place_at m.zone.blocks i + 24); after = record m { zone = with_taken m.zone i need } }

-- A zone block of `size` bytes is refused, with its need, where no free block is large enough.
unfoldable pub z_alloc : Memory → ℕ → Answered (Result ℕ ℕ)
z_alloc m size =
    let need = zone_need size in
    noted (z_taken m need (chosen m.zone need)) (ZoneAlloc size)

abbrev pub z_freed_at : Memory → ℕ → ℕ → Option ZoneBlock → Answered (Result (Unit {0}) FreeRefusal)
z_freed_at m place i None = record { answer = Err (NotZone place); after = m }
z_freed_at m place i (Some b) =
    if b.used
    then record { answer = Ok tt; after = record m { zone = with_free m.zone i } }
    else record { answer = Err (AlreadyFree place); after = m }

abbrev pub z_freed : Memory → ℕ → Option ℕ → Answered (Result (Unit {0}) FreeRefusal)
z_freed m place None = record { answer = Err (NotZone place); after = m }
z_freed m place (Some i) = z_freed_at m place i (slice_get m.zone.blocks i)

-- The zone's block with this payload's place is freed.
unfoldable pub z_free : Memory → ℕ → Answered (Result (Unit {0}) FreeRefusal)
z_free m place = noted (z_freed m place (position_of m.zone.blocks place)) (ZoneFree place)

-- A user without a block gets one of `size` bytes, which isn't 0, where its need doesn't exceed the room.
unfoldable pub cache_alloc : Memory → ℕ → ℕ → List ℕ → Answered (Result (Unit {0}) CacheRefusal)
cache_alloc m user size name =
    let need = cache_need size in
    noted (if is_some (block_of m.cache user) then record { answer = Err (Occupied user); after = m }
    else if nat_eq size 0 then record { answer = Err BadSize; after = m }
    else if nat_lt (room m) need then record { answer = Err (NoRoom (shortage m need)); after = m }
    else record { answer = Ok tt; after = record m { cache = with_new m.cache (low_used m) (high_start m) need user name } })
    (CacheAlloc user size)

-- The place of the payload of a user's block is read. A user that has a block becomes the most recently used.
unfoldable pub check : Memory → ℕ → Answered (Option ℕ)
check m user =
    noted (record { answer = peek_place m.cache user; after = if is_some (block_of m.cache user) then record m { cache = touched m.cache user } else m }) (Check user)

-- A user's block is freed, where it has one.
unfoldable pub cache_free : Memory → ℕ → Answered Bool
cache_free m user =
    noted (record { answer = is_some (block_of m.cache user); after = record m { cache = without m.cache user } }) (CacheFree user)

-- Every block of the cache is freed.
unfoldable pub flush : Memory → Answered (Unit {0})
flush m = noted (record { answer = tt; after = record m { cache = record { blocks = []; recency = [] } } }) (λ done. Flush)

-- The front of a low block becomes the image of the first `len` temporary bytes.
unfoldable pub build_low : {F : Type 0} → Memory → ℕ → ℕ → (List ℕ → Result (List ℕ) F) → Answered (Unit {0})
build_low m place len image_of = record { answer = tt; after = with_image m (with_low_bytes m place) (image_of (front_of (temp_bytes m) len)) }

-- The front of a user's block becomes the image of the first `len` temporary bytes.
unfoldable pub build_cache : {F : Type 0} → Memory → ℕ → ℕ → (List ℕ → Result (List ℕ) F) → Answered (Unit {0})
build_cache m user len image_of = record { answer = tt; after = with_image m (with_cache_bytes m user) (image_of (front_of (temp_bytes m) len)) }

-- The front of a user's block becomes the first `size` bytes of a low block.
unfoldable pub copy_low_to_cache : Memory → ℕ → ℕ → ℕ → Answered (Unit {0})
copy_low_to_cache m place user size = record { answer = tt; after = with_cache_bytes m user (front_of (low_bytes m place) size) }

-- the memory with those bytes in a user's new block, where that was given
abbrev pub copied_if : Memory → ℕ → ℕ → ℕ → Result (Unit {0}) CacheRefusal → Memory
copied_if m place user size (Ok done) = (copy_low_to_cache m place user size).after
copied_if m place user size (Err refusal) = m

-- A user gets a block with the first `size` bytes of the low block that stands at a mark, and the low hunk is cut there,
-- whether or not the block was given.
unfoldable pub move_low_to_cache : Memory → ℕ → ℕ → ℕ → List ℕ → Answered (Result (Unit {0}) CacheRefusal)
move_low_to_cache m mark user size name =
    let given : Answered (Result (Unit {0}) CacheRefusal) = cache_alloc m user size name in
    record { answer = given.answer; after = (low_free (copied_if given.after (mark + 16) user size given.answer) mark).after }
