-- Worked examples, on a memory of 65536 bytes with a zone of 49152 and 8 users. Its low hunk ends at 49168.
use Rattle.std.proofs.Common.{◌≡◌, ℕ, List, [], ◌∷◌, ◌++◌, Bool, Some, None, Result, Ok, Err, refl, true, false, map, replicate}
use Rattle.mem_model.specs.Event.{Event.LowAlloc, Event.TempAlloc, Event.HighMark, Event.LowFree, FreeRefusal.NotZone, FreeRefusal.AlreadyFree, CacheRefusal.Occupied, CacheRefusal.BadSize, CacheRefusal.NoRoom}
use Rattle.mem_model.specs.Memory.{Memory, low_used, new_memory, room}
use Rattle.mem_model.specs.Places.{fit, hop}
use Rattle.mem_model.specs.Cache.{hopped, up_in, pushed_up, down_in, pushed_down, evictions, with_fitted, peek_bytes, peek_place}
use Rattle.mem_model.specs.Zone.{chosen, with_taken, joined_at, with_free, position_of, zone_bytes, with_zone_bytes, rover_place}
use Rattle.mem_model.specs.Hunk.{with_low, with_high, without_temp, over, low_bytes, with_low_bytes, temp_bytes, with_temp_bytes}
use Rattle.mem_model.specs.Images.{with_cache_bytes, with_user_bytes}
use Rattle.mem_model.specs.Operations.{low_alloc, low_free, high_taken, high_alloc, high_free, high_mark, temp_alloc, z_alloc, z_free, cache_alloc, check, cache_free, flush, build_low, build_cache, copy_low_to_cache, move_low_to_cache}

abbrev fresh : Memory
fresh = new_memory 65536 49152 8 0

-- the zone's blocks, each by its size and whether it is used, and the rover
abbrev zone_shown : Memory → List (ℕ × Bool) × ℕ
zone_shown m = (map (λ b. (b.size, b.used)) m.zone.blocks, m.zone.rover)

-- the cache's blocks, each by its place and its user, and the recency
abbrev cache_shown : Memory → List (ℕ × ℕ) × List ℕ
cache_shown m = (map (λ b. (b.place, b.user)) m.cache.blocks, m.cache.recency)

-- A low block as large as the room leaves none, and then even an empty one is refused.
low_fills : ((low_alloc fresh 16352 []).answer ≡ Ok 49184) × ((low_alloc (low_alloc fresh 16352 []).after 0 []).answer ≡ Err (record { asked = 16; room = 0 }))
unfolding low_alloc with_low pushed_up up_in
low_fills = (refl, refl)

low_past_room : low_alloc fresh 16353 [] ≡ record { answer = Err (record { asked = 16384; room = 16368 }); after = fresh }
unfolding low_alloc
low_past_room = refl

-- A rest of more than 64 bytes becomes a free block, and the rover stands on it.
zone_splits : ((z_alloc fresh 10).answer ≡ Ok 72) × (zone_shown (z_alloc fresh 10).after ≡ ((40, true) ∷ (49080, false) ∷ [], 1))
unfolding z_alloc chosen with_taken
zone_splits = (refl, refl)

zone_splits_off_72 : zone_shown (z_alloc fresh 49020).after ≡ ((49048, true) ∷ (72, false) ∷ [], 1)
unfolding z_alloc chosen with_taken
zone_splits_off_72 = refl

-- A rest of 64 bytes stays with the block, and the rover stands on the cap.
zone_keeps_64 : zone_shown (z_alloc fresh 49028).after ≡ ((49120, true) ∷ [], 1)
unfolding z_alloc chosen with_taken
zone_keeps_64 = refl

zone_full : (z_alloc (z_alloc fresh 49028).after 1).answer ≡ Err 32
unfolding z_alloc chosen with_taken
zone_full = refl

abbrev three : Memory
three = (z_alloc (z_alloc (z_alloc fresh 10).after 10).after 10).after

zone_in_order : (z_alloc (z_alloc (z_alloc fresh 10).after 10).after 10).answer ≡ Ok 152
unfolding z_alloc chosen with_taken
zone_in_order = refl

-- the first and the last of three are free: the last is joined with the rest behind it, and the rover with it
abbrev outer_free : Memory
outer_free = (z_free (z_free three 72).after 152).after

zone_joins_next : zone_shown outer_free ≡ ((40, false) ∷ (40, true) ∷ (49040, false) ∷ [], 2)
unfolding z_alloc chosen with_taken z_free with_free joined_at position_of
zone_joins_next = refl

-- the middle one is joined on both sides
-- A used block has its bytes, by the place of its payload, and a free one none. A write past their end is cut.
zone_shows : (zone_bytes outer_free 112 ≡ Some (replicate 12 0)) × (zone_bytes outer_free 72 ≡ None) × (zone_bytes (with_zone_bytes outer_free 112 (1 ∷ replicate 14 2)) 112 ≡ Some (1 ∷ replicate 11 2))
unfolding z_alloc chosen with_taken z_free with_free joined_at position_of zone_bytes with_zone_bytes over
zone_shows = (refl, refl, refl)

-- The rover stands on the first block of a new zone, on the rest behind the newest, and on the cap behind all.
rover_stands : (rover_place fresh.zone ≡ 48) × (rover_place three.zone ≡ 168) × (rover_place (z_alloc fresh 49028).after.zone ≡ 20)
unfolding z_alloc chosen with_taken rover_place
rover_stands = (refl, refl, refl)

abbrev all_free : Memory
all_free = (z_free outer_free 112).after

zone_joins_both : zone_shown all_free ≡ ((49120, false) ∷ [], 0)
unfolding z_alloc chosen with_taken z_free with_free joined_at position_of
zone_joins_both = refl

zone_frees_once : ((z_free all_free 72).answer ≡ Err (AlreadyFree 72)) × ((z_free all_free 73).answer ≡ Err (NotZone 73))
unfolding z_alloc chosen with_taken z_free with_free joined_at position_of
zone_frees_once = (refl, refl)

abbrev before_up : Memory
before_up = (cache_free (cache_alloc (cache_alloc (cache_alloc fresh 0 56 []).after 1 216 []).after 2 56 []).after 1).after

cache_in_order : cache_shown (cache_alloc (cache_alloc (cache_alloc fresh 0 56 []).after 1 216 []).after 2 56 []).after ≡ ((49168, 0) ∷ (49264, 1) ∷ (49520, 2) ∷ [], 2 ∷ 1 ∷ 0 ∷ [])
unfolding cache_alloc evictions with_fitted fit
cache_in_order = refl

-- The lowest block hops twice within the gap, and then behind all.
up_first_hop : cache_shown (record before_up { cache = up_in 1 49376 65536 before_up.cache }) ≡ ((49264, 0) ∷ (49520, 2) ∷ [], 0 ∷ 2 ∷ [])
unfolding cache_alloc evictions with_fitted fit hop cache_free up_in hopped
up_first_hop = refl

up_second_hop : cache_shown (record before_up { cache = up_in 2 49376 65536 before_up.cache }) ≡ ((49360, 0) ∷ (49520, 2) ∷ [], 0 ∷ 2 ∷ [])
unfolding cache_alloc evictions with_fitted fit hop cache_free up_in hopped
up_second_hop = refl

pushed_up_behind : cache_shown (low_alloc before_up 192 []).after ≡ ((49520, 2) ∷ (49616, 0) ∷ [], 0 ∷ 2 ∷ [])
unfolding low_alloc cache_alloc evictions with_fitted fit hop cache_free with_low pushed_up up_in hopped
pushed_up_behind = refl

pushed_up_peek : peek_place (low_alloc before_up 192 []).after.cache 0 ≡ Some 49656
unfolding low_alloc cache_alloc evictions with_fitted fit hop cache_free with_low pushed_up up_in hopped
pushed_up_peek = refl

abbrev four : Memory
four = (cache_alloc (cache_alloc (cache_alloc (cache_alloc fresh 0 56 []).after 1 216 []).after 2 15864 []).after 3 56 []).after

abbrev before_down : Memory
before_down = (cache_free (check four 0).after 1).after

four_places : cache_shown four ≡ ((49168, 0) ∷ (49264, 1) ∷ (49520, 2) ∷ (65424, 3) ∷ [], 3 ∷ 2 ∷ 1 ∷ 0 ∷ [])
unfolding cache_alloc evictions with_fitted fit
four_places = refl

check_touches : ((check four 0).answer ≡ Some 49208) × (before_down.cache.recency ≡ 0 ∷ 3 ∷ 2 ∷ [])
unfolding check cache_alloc evictions with_fitted fit cache_free
check_touches = (refl, refl)

-- The highest block hops into the gap.
pushed_down_into_gap : ((high_alloc before_down 16 []).answer ≡ Ok 65520) × (cache_shown (high_alloc before_down 16 []).after ≡ ((49168, 0) ∷ (49264, 3) ∷ (49520, 2) ∷ [], 3 ∷ 0 ∷ 2 ∷ []))
unfolding check cache_alloc evictions with_fitted fit hop cache_free high_alloc high_taken without_temp with_high pushed_down down_in hopped
pushed_down_into_gap = (refl, refl)

abbrev before_freed : Memory
before_freed = (cache_free (cache_alloc (cache_alloc (cache_alloc fresh 0 56 []).after 1 15960 []).after 2 56 []).after 1).after

before_freed_places : cache_shown before_freed ≡ ((49168, 0) ∷ (65264, 2) ∷ [], 2 ∷ 0 ∷ [])
unfolding cache_alloc evictions with_fitted fit cache_free
before_freed_places = refl

-- The highest block hops to where it still ends too high, and is freed.
down_first_hop : cache_shown (record before_freed { cache = down_in 1 49312 before_freed.cache }) ≡ ((49168, 0) ∷ (49264, 2) ∷ [], 2 ∷ 0 ∷ [])
unfolding cache_alloc evictions with_fitted fit hop cache_free down_in hopped
down_first_hop = refl

freed_down : ((high_alloc before_freed 16208 []).answer ≡ Ok 49328) × (cache_shown (high_alloc before_freed 16208 []).after ≡ ((49168, 0) ∷ [], 0 ∷ []))
unfolding cache_alloc evictions with_fitted fit hop cache_free high_alloc high_taken without_temp with_high pushed_down down_in hopped
freed_down = (refl, refl)

abbrev one_user : Memory
one_user = (cache_alloc fresh 0 56 []).after

cache_refuses : ((cache_alloc one_user 1 16400 []).answer ≡ Err (NoRoom (record { asked = 16448; room = 16368 }))) × ((cache_alloc one_user 0 0 []).answer ≡ Err (Occupied 0)) × ((cache_alloc one_user 1 0 []).answer ≡ Err BadSize)
unfolding cache_alloc evictions with_fitted fit
cache_refuses = (refl, refl, refl)

cache_refusal_stays : (cache_alloc one_user 1 16400 []).after ≡ one_user
unfolding cache_alloc evictions with_fitted fit
cache_refusal_stays = refl

abbrev two_users : Memory
two_users = (cache_alloc (cache_alloc fresh 0 8000 []).after 1 8000 []).after

-- As few of the least recently used leave as have to, wherever they stand.
evicts_oldest : cache_shown (cache_alloc two_users 2 8000 []).after ≡ ((49168, 2) ∷ (57216, 1) ∷ [], 2 ∷ 1 ∷ [])
unfolding cache_alloc evictions with_fitted fit
evicts_oldest = refl

evicts_unchecked : cache_shown (cache_alloc (check two_users 0).after 2 8000 []).after ≡ ((49168, 0) ∷ (57216, 2) ∷ [], 2 ∷ 0 ∷ [])
unfolding check cache_alloc evictions with_fitted fit
evicts_unchecked = refl

evicts_both : cache_shown (cache_alloc two_users 2 16000 []).after ≡ ((49168, 2) ∷ [], 2 ∷ [])
unfolding cache_alloc evictions with_fitted fit
evicts_both = refl

flush_empties : cache_shown (flush two_users).after ≡ ([], [])
unfolding cache_alloc evictions with_fitted fit flush
flush_empties = refl

abbrev with_temp : Memory
with_temp = (temp_alloc fresh 16000).after

abbrev with_video : Memory
with_video = (high_alloc with_temp 16000 []).after

temp_stands_high : ((temp_alloc fresh 16000).answer ≡ Ok 49536) × (with_temp.temp ≡ Some 0) × (room with_temp ≡ 352)
unfolding temp_alloc high_taken without_temp with_high pushed_down down_in
temp_stands_high = (refl, refl, refl)

-- The room of a high allocation does not count the temporary block.
high_frees_temp : ((high_alloc with_temp 16000 []).answer ≡ Ok 49536) × (with_video.temp ≡ None)
unfolding temp_alloc high_alloc high_taken without_temp with_high pushed_down down_in
high_frees_temp = (refl, refl)

high_refuses : (high_alloc with_video 400 []).answer ≡ Err (record { asked = 416; room = 352 })
unfolding temp_alloc high_alloc high_taken without_temp with_high pushed_down down_in
high_refuses = refl

refused_temp_leaves_none : temp_alloc with_temp 17000 ≡ record { answer = Err (record { asked = 17024; room = 16368 }); after = fresh }
unfolding temp_alloc high_taken without_temp with_high pushed_down down_in
refused_temp_leaves_none = refl

high_mark_frees_temp : high_mark with_temp ≡ record { answer = 0; after = fresh }
unfolding temp_alloc high_taken without_temp with_high pushed_down down_in high_mark
high_mark_frees_temp = refl

bad_marks : ((high_free with_video 8).answer ≡ Err 8) × ((low_free with_video 0).answer ≡ Err 0)
unfolding temp_alloc high_alloc high_taken without_temp with_high pushed_down down_in high_free low_free
bad_marks = (refl, refl)

good_marks : ((low_free with_video 49168).answer ≡ Ok tt) × (high_free (low_free with_video 49168).after 0 ≡ record { answer = Ok tt; after = fresh })
unfolding temp_alloc high_alloc high_taken without_temp with_high pushed_down down_in high_free low_free
good_marks = (refl, refl)

-- a memory that keeps two events
abbrev keeps_two : Memory
keeps_two = new_memory 65536 49152 8 2

two_events_kept : (low_free (low_alloc (low_alloc keeps_two 8 []).after 20000 []).after 49168).after.events ≡ LowAlloc 8 (Ok 49184) ∷ LowAlloc 20000 (Err (record { asked = 20016; room = 16336 })) ∷ []
unfolding low_alloc low_free with_low pushed_up up_in
two_events_kept = refl

refusal_kept : (low_free (low_free keeps_two 8).after 49168).after.events ≡ LowFree 8 (Err 8) ∷ LowFree 49168 (Ok tt) ∷ []
unfolding low_free
refusal_kept = refl

-- The high allocation within it is no event of its own.
temp_kept_alone : (high_mark (temp_alloc keeps_two 10).after).after.events ≡ TempAlloc 10 (Ok 65520) ∷ HighMark 0 ∷ []
unfolding temp_alloc high_taken without_temp with_high pushed_down down_in high_mark
temp_kept_alone = refl

-- a low block of 16 bytes, a user with 8, and 16 temporary bytes that begin with 7, 8 and 9
abbrev loaded : Memory
loaded = with_temp_bytes (temp_alloc (cache_alloc (low_alloc fresh 16 []).after 2 8 []).after 16).after (7 ∷ 8 ∷ 9 ∷ [])

-- the image of bytes is these twice
abbrev doubled : List ℕ → Result (List ℕ) ℕ
doubled bytes = Ok (bytes ++ bytes)

-- An image is of so many bytes as were said, and what stood behind it in the block stays.
low_image : low_bytes (build_low loaded 49184 2 doubled).after 49184 ≡ Some (7 ∷ 8 ∷ 7 ∷ 8 ∷ replicate 12 0)
unfolding low_alloc with_low pushed_up up_in cache_alloc evictions with_fitted fit temp_alloc high_taken without_temp with_high pushed_down down_in with_temp_bytes temp_bytes over build_low low_bytes with_low_bytes
low_image = refl

cache_image : (peek_bytes (build_cache loaded 2 1 doubled).after.cache 2 ≡ Some (7 ∷ 7 ∷ replicate 6 0)) × ((build_cache loaded 2 1 doubled).after.cache.recency ≡ 2 ∷ [])
unfolding low_alloc with_low pushed_up up_in cache_alloc evictions with_fitted fit temp_alloc high_taken without_temp with_high pushed_down down_in with_temp_bytes temp_bytes over build_cache peek_bytes with_cache_bytes with_user_bytes
cache_image = (refl, refl)

low_copied : peek_bytes (copy_low_to_cache (build_low loaded 49184 2 doubled).after 49184 2 3).after.cache 2 ≡ Some (7 ∷ 8 ∷ 7 ∷ replicate 5 0)
unfolding low_alloc with_low pushed_up up_in cache_alloc evictions with_fitted fit temp_alloc high_taken without_temp with_high pushed_down down_in with_temp_bytes temp_bytes over build_low low_bytes with_low_bytes copy_low_to_cache peek_bytes with_cache_bytes with_user_bytes
low_copied = refl

-- The same bytes are moved, and the low hunk ends at the mark, where there is no block for them too.
low_moved : (peek_bytes (move_low_to_cache (build_low loaded 49184 2 doubled).after 49168 3 3 []).after.cache 3 ≡ Some (7 ∷ 8 ∷ 7 ∷ replicate 5 0)) × (low_used (move_low_to_cache (build_low loaded 49184 2 doubled).after 49168 3 3 []).after ≡ 49168)
unfolding low_alloc low_free with_low pushed_up up_in cache_alloc evictions with_fitted fit temp_alloc high_taken without_temp with_high pushed_down down_in with_temp_bytes temp_bytes over build_low low_bytes with_low_bytes copy_low_to_cache move_low_to_cache peek_bytes with_cache_bytes with_user_bytes
low_moved = (refl, refl)

low_not_moved : ((move_low_to_cache loaded 49168 2 3 []).answer ≡ Err (Occupied 2)) × (low_used (move_low_to_cache loaded 49168 2 3 []).after ≡ 49168)
unfolding low_alloc low_free with_low pushed_up up_in cache_alloc evictions with_fitted fit temp_alloc high_taken without_temp with_high pushed_down down_in with_temp_bytes over move_low_to_cache
low_not_moved = (refl, refl)
