-- What a call leaves of the parts of a memory that it is not about.
use Rattle.std.proofs.Common.{◌≡◌, ℕ, List, [], ◌∷◌, ◌++◌, Option, Some, None, Result, Ok, Err, Bool, true, false, ltb, cond, length, refl, ap, ◌∙◌, if◌then◌else◌}
use Rattle.std.specs.Prelude.{slice_get, codes}
use Rattle.mem_model.specs.Blocks.{HunkBlock, ZoneBlock}
use Rattle.mem_model.specs.Event.{Event, FreeRefusal.AlreadyFree}
use Rattle.mem_model.specs.Memory.{Memory, Zone, room}
use Rattle.mem_model.specs.Places.{hunk_need, zone_need, round_up}
use Rattle.mem_model.specs.Hunk.{with_low, with_high, without_temp, temp_freed, cut_from, cut_above, low_bytes, with_low_bytes, bytes_above, temp_bytes, temp_bytes_of, with_temp_bytes, with_temp_bytes_of}
use Rattle.mem_model.specs.Zone.{with_free, chosen, position_of, used_bytes_from, zone_bytes, with_zone_bytes}
use Rattle.mem_model.specs.Images.{front_of, with_image}
use Rattle.mem_model.specs.Answer.{Answered, with_event}
use Rattle.mem_model.specs.Operations.{low_alloc, low_free, low_cut, high_taken, high_alloc, high_free, high_cut, high_mark, temp_alloc, build_low, z_alloc, z_taken, z_free, z_freed, z_freed_at}

-- no part but the events tells whether one was kept
pub left-with_event : {X : Type 0} (f : Memory → X) → ((n : Memory) (events : List Event) → f (record n { events = events }) ≡ f n) → (m : Memory) (event : Event) → f (with_event m event) ≡ f m
left-with_event f h m event = elim (ltb (length m.events) m.event_room) as (λ t. f (cond t (record m { events = m.events ++ event ∷ [] }) m) ≡ f m) [
  | true ↦ h m (m.events ++ event ∷ [])
  | false ↦ refl
]

-- what each of two gives, the one of them that comes gives
pub left-either : {A X : Type 0} (f : Memory → X) (t : Bool) (a b : Answered A) (x : X) → f a.after ≡ x → f b.after ≡ x → f (if t then a else b).after ≡ x
left-either f true a b x p q = p
left-either f false a b x p q = q

-- what holds of a memory and of it with any image written holds of what the writing of an image leaves
pub after_image : {F : Type 0} (P : Memory → Type 0) (m : Memory) (write : List ℕ → Memory) (r : Result (List ℕ) F) → P m → ((image : List ℕ) → P (write image)) → P (with_image m write r)
after_image P m write (Ok image) stays writes = writes image
after_image P m write (Err fault) stays writes = stays

-- A part of a memory that tells nothing of the zone and of the events is left by the zone's calls.
abbrev pub IsBesideZone : {X : Type 0} → (Memory → X) → Type 0
IsBesideZone f = (n : Memory) (zone : Zone) (events : List Event) → f (record n { zone = zone; events = events }) ≡ f n

left-z_taken : {X : Type 0} (f : Memory → X) → IsBesideZone f → (m : Memory) (need : ℕ) (o : Option ℕ) → f (z_taken m need o).after ≡ f m
left-z_taken f h m need None = refl
left-z_taken f h m need (Some i) = h m _ m.events

pub left-z_alloc : {X : Type 0} (f : Memory → X) → IsBesideZone f → (m : Memory) (size : ℕ) → f (z_alloc m size).after ≡ f m
unfolding z_alloc
left-z_alloc f h m size = left-with_event f (λ n events. h n n.zone events) _ _ ∙ left-z_taken f h m (zone_need size) (chosen m.zone (zone_need size))

left-z_freed_at : {X : Type 0} (f : Memory → X) → IsBesideZone f → (m : Memory) (place i : ℕ) (o : Option ZoneBlock) → f (z_freed_at m place i o).after ≡ f m
left-z_freed_at f h m place i None = refl
left-z_freed_at f h m place i (Some b) = left-either f b.used (record { answer = Ok tt; after = record m { zone = with_free m.zone i } }) (record { answer = Err (AlreadyFree place); after = m }) (f m) (h m _ m.events) refl

left-z_freed : {X : Type 0} (f : Memory → X) → IsBesideZone f → (m : Memory) (place : ℕ) (o : Option ℕ) → f (z_freed m place o).after ≡ f m
left-z_freed f h m place None = refl
left-z_freed f h m place (Some i) = left-z_freed_at f h m place i (slice_get m.zone.blocks i)

pub left-z_free : {X : Type 0} (f : Memory → X) → IsBesideZone f → (m : Memory) (place : ℕ) → f (z_free m place).after ≡ f m
unfolding z_free
left-z_free f h m place = left-with_event f (λ n events. h n n.zone events) _ _ ∙ left-z_freed f h m place (position_of m.zone.blocks place)

pub left-with_zone_bytes : {X : Type 0} (f : Memory → X) → IsBesideZone f → (m : Memory) (place : ℕ) (bytes : List ℕ) → f (with_zone_bytes m place bytes) ≡ f m
unfolding with_zone_bytes
left-with_zone_bytes f h m place bytes = h m _ m.events

pub size-z_alloc : (m : Memory) (size : ℕ) → (z_alloc m size).after.size ≡ m.size
size-z_alloc m size = left-z_alloc (λ n. n.size) (λ n zone events. refl) m size

pub low-z_alloc : (m : Memory) (size : ℕ) → (z_alloc m size).after.low ≡ m.low
low-z_alloc m size = left-z_alloc (λ n. n.low) (λ n zone events. refl) m size

pub high-z_alloc : (m : Memory) (size : ℕ) → (z_alloc m size).after.high ≡ m.high
high-z_alloc m size = left-z_alloc (λ n. n.high) (λ n zone events. refl) m size

pub temp-z_alloc : (m : Memory) (size : ℕ) → (z_alloc m size).after.temp ≡ m.temp
temp-z_alloc m size = left-z_alloc (λ n. n.temp) (λ n zone events. refl) m size

pub low_bytes-z_alloc : (m : Memory) (size place : ℕ) → low_bytes (z_alloc m size).after place ≡ low_bytes m place
unfolding low_bytes
low_bytes-z_alloc m size place = ap (λ low. bytes_above low place) (low-z_alloc m size)

pub temp_bytes-z_alloc : (m : Memory) (size : ℕ) → temp_bytes (z_alloc m size).after ≡ temp_bytes m
unfolding temp_bytes
temp_bytes-z_alloc m size = left-z_alloc (λ n. temp_bytes_of n.high n.temp) (λ n zone events. refl) m size

pub size-z_free : (m : Memory) (place : ℕ) → (z_free m place).after.size ≡ m.size
size-z_free m place = left-z_free (λ n. n.size) (λ n zone events. refl) m place

pub low-z_free : (m : Memory) (place : ℕ) → (z_free m place).after.low ≡ m.low
low-z_free m place = left-z_free (λ n. n.low) (λ n zone events. refl) m place

pub high-z_free : (m : Memory) (place : ℕ) → (z_free m place).after.high ≡ m.high
high-z_free m place = left-z_free (λ n. n.high) (λ n zone events. refl) m place

pub temp-z_free : (m : Memory) (place : ℕ) → (z_free m place).after.temp ≡ m.temp
temp-z_free m place = left-z_free (λ n. n.temp) (λ n zone events. refl) m place

pub low_bytes-z_free : (m : Memory) (place other : ℕ) → low_bytes (z_free m place).after other ≡ low_bytes m other
unfolding low_bytes
low_bytes-z_free m place other = ap (λ low. bytes_above low other) (low-z_free m place)

pub temp_bytes-z_free : (m : Memory) (place : ℕ) → temp_bytes (z_free m place).after ≡ temp_bytes m
unfolding temp_bytes
temp_bytes-z_free m place = left-z_free (λ n. temp_bytes_of n.high n.temp) (λ n zone events. refl) m place

pub size-with_zone_bytes : (m : Memory) (place : ℕ) (bytes : List ℕ) → (with_zone_bytes m place bytes).size ≡ m.size
size-with_zone_bytes m place bytes = left-with_zone_bytes (λ n. n.size) (λ n zone events. refl) m place bytes

pub low-with_zone_bytes : (m : Memory) (place : ℕ) (bytes : List ℕ) → (with_zone_bytes m place bytes).low ≡ m.low
low-with_zone_bytes m place bytes = left-with_zone_bytes (λ n. n.low) (λ n zone events. refl) m place bytes

pub high-with_zone_bytes : (m : Memory) (place : ℕ) (bytes : List ℕ) → (with_zone_bytes m place bytes).high ≡ m.high
high-with_zone_bytes m place bytes = left-with_zone_bytes (λ n. n.high) (λ n zone events. refl) m place bytes

pub temp-with_zone_bytes : (m : Memory) (place : ℕ) (bytes : List ℕ) → (with_zone_bytes m place bytes).temp ≡ m.temp
temp-with_zone_bytes m place bytes = left-with_zone_bytes (λ n. n.temp) (λ n zone events. refl) m place bytes

pub low_bytes-with_zone_bytes : (m : Memory) (place other : ℕ) (bytes : List ℕ) → low_bytes (with_zone_bytes m place bytes) other ≡ low_bytes m other
unfolding low_bytes
low_bytes-with_zone_bytes m place other bytes = ap (λ low. bytes_above low other) (low-with_zone_bytes m place bytes)

pub temp_bytes-with_zone_bytes : (m : Memory) (place : ℕ) (bytes : List ℕ) → temp_bytes (with_zone_bytes m place bytes) ≡ temp_bytes m
unfolding temp_bytes
temp_bytes-with_zone_bytes m place bytes = left-with_zone_bytes (λ n. temp_bytes_of n.high n.temp) (λ n zone events. refl) m place bytes

pub zone-with_event : (m : Memory) (event : Event) → (with_event m event).zone ≡ m.zone
zone-with_event m event = left-with_event (λ n. n.zone) (λ n events. refl) m event

-- The hunks' calls leave the zone.
pub zone-low_alloc : (m : Memory) (size : ℕ) (name : List ℕ) → (low_alloc m size name).after.zone ≡ m.zone
unfolding low_alloc with_low
zone-low_alloc m size name = zone-with_event _ _ ∙ left-either (λ n. n.zone) (ltb (room m) (hunk_need size)) _ _ m.zone refl refl

zone-low_cut : (m : Memory) (mark : ℕ) (kept : Option (List HunkBlock)) → (low_cut m mark kept).after.zone ≡ m.zone
zone-low_cut m mark None = refl
zone-low_cut m mark (Some kept) = refl

pub zone-low_free : (m : Memory) (mark : ℕ) → (low_free m mark).after.zone ≡ m.zone
unfolding low_free
zone-low_free m mark = zone-with_event _ _ ∙ zone-low_cut m mark (cut_above m.low mark)

zone-temp_freed : (m : Memory) (temp : Option ℕ) → (temp_freed m temp).zone ≡ m.zone
zone-temp_freed m None = refl
zone-temp_freed m (Some mark) = refl

pub zone-without_temp : (m : Memory) → (without_temp m).zone ≡ m.zone
unfolding without_temp
zone-without_temp m = zone-temp_freed m m.temp

zone-high_taken : (m : Memory) (size : ℕ) (name : List ℕ) → (high_taken m size name).after.zone ≡ m.zone
unfolding high_taken with_high
zone-high_taken m size name = left-either (λ n. n.zone) (ltb (room m) (hunk_need size)) _ _ m.zone refl refl

pub zone-high_alloc : (m : Memory) (size : ℕ) (name : List ℕ) → (high_alloc m size name).after.zone ≡ m.zone
unfolding high_alloc
zone-high_alloc m size name = zone-with_event _ _ ∙ zone-high_taken (without_temp m) size name ∙ zone-without_temp m

zone-high_cut : (m : Memory) (mark : ℕ) (kept : Option (List HunkBlock)) → (high_cut m mark kept).after.zone ≡ m.zone
zone-high_cut m mark None = refl
zone-high_cut m mark (Some kept) = refl

pub zone-high_free : (m : Memory) (mark : ℕ) → (high_free m mark).after.zone ≡ m.zone
unfolding high_free
zone-high_free m mark = zone-with_event _ _ ∙ zone-high_cut (without_temp m) mark (cut_from 0 (without_temp m).high mark) ∙ zone-without_temp m

pub zone-high_mark : (m : Memory) → (high_mark m).after.zone ≡ m.zone
unfolding high_mark
zone-high_mark m = zone-with_event _ _ ∙ zone-without_temp m

pub zone-temp_alloc : (m : Memory) (size : ℕ) → (temp_alloc m size).after.zone ≡ m.zone
unfolding temp_alloc
zone-temp_alloc m size = zone-with_event _ _ ∙ zone-high_taken (without_temp m) (round_up size 16) (codes "temp") ∙ zone-without_temp m

pub zone-with_low_bytes : (m : Memory) (place : ℕ) (bytes : List ℕ) → (with_low_bytes m place bytes).zone ≡ m.zone
unfolding with_low_bytes
zone-with_low_bytes m place bytes = refl

pub zone-build_low : {F : Type 0} (m : Memory) (place len : ℕ) (image_of : List ℕ → Result (List ℕ) F) → (build_low m place len image_of).after.zone ≡ m.zone
unfolding build_low
zone-build_low m place len image_of = after_image (λ n. n.zone ≡ m.zone) m (with_low_bytes m place) (image_of (front_of (temp_bytes m) len)) refl (λ image. zone-with_low_bytes m place image)

zone-with_temp_of : (m : Memory) (bytes : List ℕ) (temp : Option ℕ) → (with_temp_bytes_of m bytes temp).zone ≡ m.zone
zone-with_temp_of m bytes None = refl
zone-with_temp_of m bytes (Some mark) = refl

pub zone-with_temp_bytes : (m : Memory) (bytes : List ℕ) → (with_temp_bytes m bytes).zone ≡ m.zone
unfolding with_temp_bytes
zone-with_temp_bytes m bytes = zone-with_temp_of m bytes m.temp

-- The bytes of the zone's blocks are a matter of the zone.
pub zone_bytes-same : (m n : Memory) (place : ℕ) → m.zone ≡ n.zone → zone_bytes m place ≡ zone_bytes n place
unfolding zone_bytes
zone_bytes-same m n place same = ap (λ (z : Zone). used_bytes_from 48 z.blocks place) same

pub zone_bytes-low_alloc : (m : Memory) (size place : ℕ) (name : List ℕ) → zone_bytes (low_alloc m size name).after place ≡ zone_bytes m place
zone_bytes-low_alloc m size place name = zone_bytes-same _ m place (zone-low_alloc m size name)

pub zone_bytes-low_free : (m : Memory) (mark place : ℕ) → zone_bytes (low_free m mark).after place ≡ zone_bytes m place
zone_bytes-low_free m mark place = zone_bytes-same _ m place (zone-low_free m mark)

pub zone_bytes-without_temp : (m : Memory) (place : ℕ) → zone_bytes (without_temp m) place ≡ zone_bytes m place
zone_bytes-without_temp m place = zone_bytes-same _ m place (zone-without_temp m)

pub zone_bytes-high_alloc : (m : Memory) (size place : ℕ) (name : List ℕ) → zone_bytes (high_alloc m size name).after place ≡ zone_bytes m place
zone_bytes-high_alloc m size place name = zone_bytes-same _ m place (zone-high_alloc m size name)

pub zone_bytes-high_free : (m : Memory) (mark place : ℕ) → zone_bytes (high_free m mark).after place ≡ zone_bytes m place
zone_bytes-high_free m mark place = zone_bytes-same _ m place (zone-high_free m mark)

pub zone_bytes-high_mark : (m : Memory) (place : ℕ) → zone_bytes (high_mark m).after place ≡ zone_bytes m place
zone_bytes-high_mark m place = zone_bytes-same _ m place (zone-high_mark m)

pub zone_bytes-temp_alloc : (m : Memory) (size place : ℕ) → zone_bytes (temp_alloc m size).after place ≡ zone_bytes m place
zone_bytes-temp_alloc m size place = zone_bytes-same _ m place (zone-temp_alloc m size)

pub zone_bytes-with_low_bytes : (m : Memory) (other place : ℕ) (bytes : List ℕ) → zone_bytes (with_low_bytes m other bytes) place ≡ zone_bytes m place
zone_bytes-with_low_bytes m other place bytes = zone_bytes-same _ m place (zone-with_low_bytes m other bytes)

pub zone_bytes-with_temp_bytes : (m : Memory) (place : ℕ) (bytes : List ℕ) → zone_bytes (with_temp_bytes m bytes) place ≡ zone_bytes m place
zone_bytes-with_temp_bytes m place bytes = zone_bytes-same _ m place (zone-with_temp_bytes m bytes)

pub zone_bytes-build_low : {F : Type 0} (m : Memory) (other len place : ℕ) (image_of : List ℕ → Result (List ℕ) F) → zone_bytes (build_low m other len image_of).after place ≡ zone_bytes m place
zone_bytes-build_low m other len place image_of = zone_bytes-same _ m place (zone-build_low m other len image_of)
