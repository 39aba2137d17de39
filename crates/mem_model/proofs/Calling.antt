-- What an operation gives, case by case, where no event is kept.
use Rattle.std.proofs.Common.{◌≡◌, ℕ, ◌+◌, ◌-◌, ◌<◌, ◌≤◌, List, [], ◌∷◌, ◌++◌, Option, Some, None, Result, Ok, Err, Bool, true, false, ltb, length, refl, sym, ap, ◌∙◌, arith, if◌then◌else◌}
use Rattle.std.specs.Prelude.{codes, slice_get, is_some, ◌≢◌}
use Rattle.std.proofs.lemmas.Bool.{lt-ltb, le-ltb, eq-eqb, ne_eqb}
use Rattle.mem_model.specs.Event.{Event, Shortage, Event.HighAlloc, FreeRefusal.NotZone, FreeRefusal.AlreadyFree, CacheRefusal.Occupied, CacheRefusal.BadSize, CacheRefusal.NoRoom}
use Rattle.mem_model.specs.Blocks.{HunkBlock, ZoneBlock}
use Rattle.mem_model.specs.Memory.{Memory, room, low_used, high_used, high_start}
use Rattle.mem_model.specs.Answer.{Answered, Answers, Gives, noted, with_event}
use Rattle.mem_model.specs.Places.{hunk_need, zone_need, cache_need, round_up}
use Rattle.mem_model.specs.Hunk.{hunk_block, with_low, with_high, without_temp, cut_above, cut_from}
use Rattle.mem_model.specs.Cache.{pushed_up, pushed_down, with_new, block_of, peek_place, without, touched}
use Rattle.mem_model.specs.Zone.{chosen, position_of, place_at, with_taken, with_free}
use Rattle.mem_model.specs.Operations.{low_alloc, low_free, high_taken, high_alloc, high_mark, high_free, temp_alloc, z_alloc, z_free, shortage, cache_alloc, check, cache_free, flush}
use Rattle.mem_model.specs.Told.{room_answer}
use Rattle.mem_model.specs.declared.answers.RoomError.{RoomError}
use Rattle.mem_model.specs.declared.answers.RoomError.TheVariants as room_error
use Rattle.mem_model.proofs.HighLaying.{event_room-without_temp, temp-without_temp}

-- with no room for events none is kept
pub with_event_none : (m : Memory) (event : Event) → m.event_room ≡ 0 → with_event m event ≡ m
with_event_none m event h = rw (h, le-ltb (length m.events) 0 (omega arith))

pub low_alloc_refused : (m : Memory) (size : ℕ) (name : List ℕ) → m.event_room ≡ 0 → room m < hunk_need size →
    Answers (low_alloc m size name) (Err (shortage m (hunk_need size))) m
unfolding low_alloc
low_alloc_refused m size name quiet short =
    rw (lt-ltb (room m) (hunk_need size) short) (record { answer = refl; after = sym (with_event_none m _ quiet) })

pub low_alloc_taken : (m : Memory) (size : ℕ) (name : List ℕ) → m.event_room ≡ 0 → hunk_need size ≤ room m →
    Answers (low_alloc m size name) (Ok (low_used m + 16)) (with_low m (hunk_block (hunk_need size) name))
unfolding low_alloc with_low
low_alloc_taken m size name quiet fits =
    rw (le-ltb (room m) (hunk_need size) fits) (record { answer = refl; after = sym (with_event_none (with_low m (hunk_block (hunk_need size) name)) _ quiet) })

-- the same with the new bounds of the cache as they are read
pub low_alloc_grown : (m : Memory) (size end top : ℕ) (name : List ℕ) → m.event_room ≡ 0 → hunk_need size ≤ room m → end ≡ low_used m + hunk_need size → top ≡ high_start m →
    Answers (low_alloc m size name) (Ok (low_used m + 16)) (record m { low = m.low ++ hunk_block (hunk_need size) name ∷ []; cache = pushed_up m.cache end top })
unfolding with_low
low_alloc_grown m size end top name quiet fits ends tops = rw (ends, tops) (low_alloc_taken m size name quiet fits)

pub low_free_cut : (m : Memory) (mark : ℕ) (kept : List HunkBlock) → m.event_room ≡ 0 → cut_above m.low mark ≡ Some kept →
    Answers (low_free m mark) (Ok tt) (record m { low = kept })
unfolding low_free
low_free_cut m mark kept quiet cut = rw cut (record { answer = refl; after = sym (with_event_none (record m { low = kept }) _ quiet) })

pub low_free_refused : (m : Memory) (mark : ℕ) → m.event_room ≡ 0 → cut_above m.low mark ≡ None → Answers (low_free m mark) (Err mark) m
unfolding low_free
low_free_refused m mark quiet cut = rw cut (record { answer = refl; after = sym (with_event_none m _ quiet) })

pub high_taken_refused : (m : Memory) (size : ℕ) (name : List ℕ) → room m < hunk_need size → Answers (high_taken m size name) (Err (shortage m (hunk_need size))) m
unfolding high_taken
high_taken_refused m size name short = rw (lt-ltb (room m) (hunk_need size) short) (record { answer = refl; after = refl })

-- with the new bound of the cache as it is read
pub high_taken_grown : (m : Memory) (size top : ℕ) (name : List ℕ) → hunk_need size ≤ room m → top ≡ high_start m - hunk_need size →
    Answers (high_taken m size name) (Ok (high_start m - hunk_need size + 16)) (record m { high = m.high ++ hunk_block (hunk_need size) name ∷ []; cache = pushed_down m.cache m.size top })
unfolding high_taken with_high
high_taken_grown m size top name fits tops = rw (tops, le-ltb (room m) (hunk_need size) fits) (record { answer = refl; after = refl })

-- what a high allocation gives, by whether the room is too small
high_given : Memory → ℕ → List ℕ → Bool → Answered (Result ℕ Shortage)
high_given m size name short =
    if short then record { answer = Err (shortage m (hunk_need size)); after = m } else record { answer = Ok (high_start m - hunk_need size + 16); after = with_high m (hunk_block (hunk_need size) name) }

quiet_taken : (m : Memory) (size : ℕ) (name : List ℕ) → (high_taken m size name).after.event_room ≡ m.event_room
unfolding high_taken high_given with_high
quiet_taken m size name =
    elim (ltb (room m) (hunk_need size)) as (λ short. (high_given m size name short).after.event_room ≡ m.event_room) [ true ↦ refl | false ↦ refl ]

-- a taken block is the newest
pub high-high_taken : (m : Memory) (size place : ℕ) (name : List ℕ) → (high_taken m size name).answer ≡ Ok place →
    (high_taken m size name).after.high ≡ m.high ++ hunk_block (hunk_need size) name ∷ []
unfolding high_taken high_given with_high
high-high_taken m size place name =
    elim (ltb (room m) (hunk_need size)) as (λ short. (high_given m size name short).answer ≡ Ok place → (high_given m size name short).after.high ≡ m.high ++ hunk_block (hunk_need size) name ∷ []) [
      | true ↦ λ h. absurd (cc)
      | false ↦ λ h. refl
    ]

-- a refusal leaves the memory
high_taken_stays : (m : Memory) (size : ℕ) (name : List ℕ) (told : Shortage) → (high_taken m size name).answer ≡ Err told → (high_taken m size name).after ≡ m
unfolding high_taken high_given with_high
high_taken_stays m size name told =
    elim (ltb (room m) (hunk_need size)) as (λ short. (high_given m size name short).answer ≡ Err told → (high_given m size name short).after ≡ m) [
      | true ↦ λ h. refl
      | false ↦ λ h. absurd (cc)
    ]

-- where no event is kept, what is noted gives the same
pub noted_quiet : {A : Type 0} (given : Answered A) (event : A → Event) (frugal : Bool) (left new : Memory) (reply : Option A) →
    given.after.event_room ≡ 0 → Gives given frugal left reply new → Gives (noted given event) frugal left reply new
noted_quiet given event frugal left new None quiet p = p
noted_quiet given event frugal left new (Some reply) quiet p = record { answer = p.answer; after = p.after ∙ sym (with_event_none given.after (event given.answer) quiet) }

pub high_alloc_gives : (m new : Memory) (size : ℕ) (name : List ℕ) (reply : Option (Result ℕ Shortage)) → m.event_room ≡ 0 →
    Gives (high_taken (without_temp m) size name) false (without_temp m) reply new → Gives (high_alloc m size name) false (without_temp m) reply new
unfolding high_alloc
high_alloc_gives m new size name reply quiet p =
    noted_quiet (high_taken (without_temp m) size name) (HighAlloc size) false (without_temp m) new reply (quiet_taken (without_temp m) size name ∙ event_room-without_temp m ∙ quiet) p

pub high_mark_gives : (m : Memory) → m.event_room ≡ 0 → Answers (high_mark m) (high_used (without_temp m)) (without_temp m)
unfolding high_mark
high_mark_gives m quiet = record { answer = refl; after = sym (with_event_none (without_temp m) _ (event_room-without_temp m ∙ quiet)) }

pub high_free_cut : (m base : Memory) (mark : ℕ) (kept : List HunkBlock) → m.event_room ≡ 0 → base ≡ without_temp m → cut_from 0 base.high mark ≡ Some kept →
    Answers (high_free m mark) (Ok tt) (record base { high = kept })
unfolding high_free
high_free_cut m base mark kept quiet is cut =
    let there : cut_from 0 (without_temp m).high mark ≡ Some kept = ap (λ (n : Memory). cut_from 0 n.high mark) (sym is) ∙ cut in
    rw (is, there) (record { answer = refl; after = sym (with_event_none (record (without_temp m) { high = kept }) _ (event_room-without_temp m ∙ quiet)) })

pub high_free_refused : (m base : Memory) (mark : ℕ) → m.event_room ≡ 0 → base ≡ without_temp m → cut_from 0 base.high mark ≡ None → Answers (high_free m mark) (Err mark) (without_temp m)
unfolding high_free
high_free_refused m base mark quiet is cut =
    let there : cut_from 0 (without_temp m).high mark ≡ None = ap (λ (n : Memory). cut_from 0 n.high mark) (sym is) ∙ cut in
    rw there (record { answer = refl; after = sym (with_event_none (without_temp m) _ (event_room-without_temp m ∙ quiet)) })

pub temp_alloc_taken : (m new : Memory) (size place : ℕ) → m.event_room ≡ 0 → Answers (high_taken (without_temp m) (round_up size 16) (codes "temp")) (Ok place) new →
    Answers (temp_alloc m size) (Ok place) (record new { temp = Some (high_used (without_temp m)) })
unfolding temp_alloc
temp_alloc_taken m new size place quiet p = record {
  answer = p.answer;
  after = rw (p.answer, ← p.after) (sym (with_event_none _ _ (ap (λ (n : Memory). n.event_room) p.after ∙ quiet_taken (without_temp m) (round_up size 16) (codes "temp") ∙ event_room-without_temp m ∙ quiet)));
}

temp_alloc_refused : (m new : Memory) (size : ℕ) (told : Shortage) → m.event_room ≡ 0 → Answers (high_taken (without_temp m) (round_up size 16) (codes "temp")) (Err told) new →
    Answers (temp_alloc m size) (Err told) new
unfolding temp_alloc
temp_alloc_refused m new size told quiet p = record {
  answer = p.answer;
  after = rw (p.answer, ← p.after) (ap (λ temp. record new { temp = temp }) none ∙ sym (with_event_none _ _ (ap (λ (n : Memory). n.event_room) p.after ∙ quiet_taken (without_temp m) (round_up size 16) (codes "temp") ∙ event_room-without_temp m ∙ quiet)));
} where
  none : new.temp ≡ None
  none = ap (λ (n : Memory). n.temp) (p.after ∙ high_taken_stays (without_temp m) (round_up size 16) (codes "temp") told p.answer) ∙ temp-without_temp m

-- A temporary allocation without a place gives what the high one gave.
pub temp_alloc_without : (m new : Memory) (size : ℕ) (error : RoomError) → m.event_room ≡ 0 →
    Gives (high_taken (without_temp m) (round_up size 16) (codes "temp")) false (without_temp m) (room_answer (Err error)) new → Gives (temp_alloc m size) false (without_temp m) (room_answer (Err error)) new
temp_alloc_without m new size (room_error.NoRoom asked room) quiet p = temp_alloc_refused m new size _ quiet p
temp_alloc_without m new size room_error.OutOfMemory quiet p = p

pub z_alloc_full : (m : Memory) (size : ℕ) → m.event_room ≡ 0 → chosen m.zone (zone_need size) ≡ None → Answers (z_alloc m size) (Err (zone_need size)) m
unfolding z_alloc
z_alloc_full m size quiet none = rw none (record { answer = refl; after = sym (with_event_none m _ quiet) })

pub z_alloc_taken : (m : Memory) (size i : ℕ) → m.event_room ≡ 0 → chosen m.zone (zone_need size) ≡ Some i →
    Answers (z_alloc m size) (Ok (place_at m.zone.blocks i + 24)) (record m { zone = with_taken m.zone i (zone_need size) })
unfolding z_alloc
z_alloc_taken m size i quiet some = rw some (record { answer = refl; after = sym (with_event_none (record m { zone = with_taken m.zone i (zone_need size) }) _ quiet) })

pub z_free_nowhere : (m : Memory) (place : ℕ) → m.event_room ≡ 0 → position_of m.zone.blocks place ≡ None → Answers (z_free m place) (Err (NotZone place)) m
unfolding z_free
z_free_nowhere m place quiet none = rw none (record { answer = refl; after = sym (with_event_none m _ quiet) })

pub z_free_again : (m : Memory) (place i : ℕ) (b : ZoneBlock) → m.event_room ≡ 0 → position_of m.zone.blocks place ≡ Some i → slice_get m.zone.blocks i ≡ Some b → b.used ≡ false → Answers (z_free m place) (Err (AlreadyFree place)) m
unfolding z_free
z_free_again m place i b quiet some there free = rw (some, there, free) (record { answer = refl; after = sym (with_event_none m _ quiet) })

pub z_free_used : (m : Memory) (place i : ℕ) (b : ZoneBlock) → m.event_room ≡ 0 → position_of m.zone.blocks place ≡ Some i → slice_get m.zone.blocks i ≡ Some b → b.used ≡ true →
    Answers (z_free m place) (Ok tt) (record m { zone = with_free m.zone i })
unfolding z_free
z_free_used m place i b quiet some there used = rw (some, there, used) (record { answer = refl; after = sym (with_event_none (record m { zone = with_free m.zone i }) _ quiet) })

pub cache_alloc_occupied : (m : Memory) (user size : ℕ) (name : List ℕ) → m.event_room ≡ 0 → is_some (block_of m.cache user) ≡ true → Answers (cache_alloc m user size name) (Err (Occupied user)) m
unfolding cache_alloc
cache_alloc_occupied m user size name quiet has = rw has (record { answer = refl; after = sym (with_event_none m _ quiet) })

pub cache_alloc_bad : (m : Memory) (user size : ℕ) (name : List ℕ) → m.event_room ≡ 0 → is_some (block_of m.cache user) ≡ false → size ≡ 0 → Answers (cache_alloc m user size name) (Err BadSize) m
unfolding cache_alloc
cache_alloc_bad m user size name quiet free none = rw (free, eq-eqb size 0 none) (record { answer = refl; after = sym (with_event_none m _ quiet) })

pub cache_alloc_short : (m : Memory) (user size : ℕ) (name : List ℕ) → m.event_room ≡ 0 → is_some (block_of m.cache user) ≡ false → size ≢ 0 → room m < cache_need size → Answers (cache_alloc m user size name) (Err (NoRoom (shortage m (cache_need size)))) m
unfolding cache_alloc
cache_alloc_short m user size name quiet free some short = rw (free, ne_eqb size 0 some, lt-ltb (room m) (cache_need size) short) (record { answer = refl; after = sym (with_event_none m _ quiet) })

pub cache_alloc_taken : (m : Memory) (user size top : ℕ) (name : List ℕ) → m.event_room ≡ 0 → is_some (block_of m.cache user) ≡ false → size ≢ 0 → cache_need size ≤ room m → top ≡ high_start m →
    Answers (cache_alloc m user size name) (Ok tt) (record m { cache = with_new m.cache (low_used m) top (cache_need size) user name })
unfolding cache_alloc
cache_alloc_taken m user size top name quiet free some fits tops =
    rw (tops, free, ne_eqb size 0 some, le-ltb (room m) (cache_need size) fits) (record { answer = refl; after = sym (with_event_none (record m { cache = with_new m.cache (low_used m) (high_start m) (cache_need size) user name }) _ quiet) })

pub check_some : (m : Memory) (user : ℕ) → m.event_room ≡ 0 → is_some (block_of m.cache user) ≡ true → Answers (check m user) (peek_place m.cache user) (record m { cache = touched m.cache user })
unfolding check
check_some m user quiet has = rw has (record { answer = refl; after = sym (with_event_none (record m { cache = touched m.cache user }) _ quiet) })

pub check_none : (m : Memory) (user : ℕ) → m.event_room ≡ 0 → is_some (block_of m.cache user) ≡ false → Answers (check m user) (peek_place m.cache user) m
unfolding check
check_none m user quiet free = rw free (record { answer = refl; after = sym (with_event_none m _ quiet) })

pub cache_free_gives : (m : Memory) (user : ℕ) → m.event_room ≡ 0 → Answers (cache_free m user) (is_some (block_of m.cache user)) (record m { cache = without m.cache user })
unfolding cache_free
cache_free_gives m user quiet = record { answer = refl; after = sym (with_event_none (record m { cache = without m.cache user }) _ quiet) }

pub flush_gives : (m : Memory) → m.event_room ≡ 0 → Answers (flush m) tt (record m { cache = record { blocks = []; recency = [] } })
unfolding flush
flush_gives m quiet = record { answer = refl; after = sym (with_event_none (record m { cache = record { blocks = []; recency = [] } }) _ quiet) }
