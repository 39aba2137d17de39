-- Laws of the zone's operations, over the definitions alone: what callers of a store need.
use Rattle.std.proofs.Common.{◌≡◌, ◌≢◌, ℕ, suc, ◌+◌, ◌-◌, ◌<◌, ◌≤◌, List, [], ◌∷◌, ◌++◌, Option, Some, None, Result, Ok, Err, Bool, true, false, length, take, drop, refl, sym, ap, ◌∙◌, arith, replicate, ◌⊎◌, inl, inr, if◌then◌else◌, subst}
use Rattle.std.specs.Prelude.{IsSome, ◌^◌, slice_get}
use Rattle.std.specs.List.{AllByRecursion}
use Rattle.std.proofs.lemmas.List.{length-replicate, append_assoc}
use Rattle.std.proofs.lemmas.Bool.{cases_eq}
use Rattle.mem_model.specs.Event.{FreeRefusal, FreeRefusal.AlreadyFree}
use Rattle.mem_model.specs.Blocks.{ZoneBlock}
use Rattle.mem_model.specs.Memory.{Memory, Zone, low_used}
use Rattle.mem_model.specs.Places.{zone_need}
use Rattle.mem_model.specs.Hunk.{over}
use Rattle.mem_model.specs.Zone.{used_block, taken, replaced, taken_at, with_taken, with_free, chosen, place_at, position_of, used_bytes_from, zone_bytes, with_zone_bytes}
use Rattle.mem_model.specs.Answer.{Answered}
use Rattle.mem_model.specs.Operations.{z_alloc, z_taken, z_free, z_freed, z_freed_at}
use Rattle.mem_model.specs.Apart.{NoneIs, AreUsed}
use Rattle.mem_model.specs.Laid.{Laid, IsZone, IsZoneBlock, IsMultiple, first_size}
use Rattle.mem_model.proofs.Laying.{over_same}
use Rattle.mem_model.proofs.ZoneLists.{parted, all-parts, chosen_fits}
use Rattle.mem_model.proofs.ZoneLaying.{taken_is, Laid-z_alloc, Laid-z_free, Laid-with_zone_bytes}
use Rattle.mem_model.proofs.Untouched.{size-z_alloc, low-z_alloc, high-z_alloc, temp-z_alloc, low_bytes-z_alloc, temp_bytes-z_alloc, size-z_free, low-z_free, high-z_free, temp-z_free, low_bytes-z_free, temp_bytes-z_free, size-with_zone_bytes, low-with_zone_bytes, high-with_zone_bytes, temp-with_zone_bytes, low_bytes-with_zone_bytes, temp_bytes-with_zone_bytes, zone-with_event, zone-low_alloc, zone-low_free, zone-without_temp, zone-high_alloc, zone-high_free, zone-high_mark, zone-temp_alloc, zone-with_low_bytes, zone-with_temp_bytes, zone_bytes-same, zone_bytes-low_alloc, zone_bytes-low_free, zone_bytes-without_temp, zone_bytes-high_alloc, zone_bytes-high_free, zone_bytes-high_mark, zone_bytes-temp_alloc, zone_bytes-with_low_bytes, zone_bytes-with_temp_bytes, zone-build_low, zone_bytes-build_low}
use Rattle.mem_model.proofs.ZoneApart.{first_below, places-small}
use Rattle.mem_model.proofs.ZoneBytes.{taken-bytes, with_free-bytes, at-bytes, place_above, inside-bytes, position_used, position_place, written-bytes, elsewhere-bytes}

-- What an allocation in the zone gives where it isn't refused.
record IsGrant (z after : Zone) (need place : ℕ) : Type 0 where
  i : ℕ
  b : ZoneBlock
  there : slice_get z.blocks i ≡ Some b
  free : b.used ≡ false
  large : need ≤ b.size
  payload : place ≡ place_at z.blocks i + 24
  is : after ≡ taken_at z i need (Some b)

grant : (z : Zone) (need i : ℕ) → z.rover ≤ length z.blocks → chosen z need ≡ Some i → IsGrant z (with_taken z i need) need (place_at z.blocks i + 24)
unfolding with_taken
grant z need i rover h =
    let fit = chosen_fits z need i rover h in
    record { i = i; b = fit.b; there = fit.there; free = fit.free; large = fit.large; payload = refl; is = ap (taken_at z i need) fit.there }

granted : (m : Memory) (need place : ℕ) (o : Option ℕ) → Laid m → chosen m.zone need ≡ o → (z_taken m need o).answer ≡ Ok place → IsGrant m.zone (z_taken m need o).after.zone need place
granted m need place None laid e h = absurd (cc)
granted m need place (Some i) laid e h =
    let at : place_at m.zone.blocks i + 24 ≡ place = cc in
    subst (IsGrant m.zone (with_taken m.zone i need) need) at (grant m.zone need i laid.zone.rover e)

z_granted : (m : Memory) (size place : ℕ) → Laid m → (z_alloc m size).answer ≡ Ok place → IsGrant m.zone (z_alloc m size).after.zone (zone_need size) place
unfolding z_alloc
z_granted m size place laid h =
    let given = granted m (zone_need size) place (chosen m.zone (zone_need size)) laid refl h in
    subst (λ z. IsGrant m.zone z (zone_need size) place) (sym (zone-with_event _ _)) given

refused : (m : Memory) (need told : ℕ) (o : Option ℕ) → (z_taken m need o).answer ≡ Err told → (told ≡ need) × ((z_taken m need o).after.zone ≡ m.zone)
refused m need told None h = (cc, refl)
refused m need told (Some i) h = absurd (cc)

-- A refused allocation tells its need, and leaves the zone.
pub z_alloc-refusal : (m : Memory) (size told : ℕ) → (z_alloc m size).answer ≡ Err told → (told ≡ zone_need size) × ((z_alloc m size).after.zone ≡ m.zone)
unfolding z_alloc
z_alloc-refusal m size told h =
    let given = refused m (zone_need size) told (chosen m.zone (zone_need size)) h in
    (given.0, zone-with_event _ _ ∙ given.1)

by_answer : {E : Type 0} (answer : Result ℕ E) → ((place : ℕ) × (answer ≡ Ok place)) ⊎ ((told : E) × (answer ≡ Err told))
by_answer (Ok place) = inl (place, refl)
by_answer (Err told) = inr (told, refl)

granted-bytes : (z after : Zone) (need place other size : ℕ) (bytes : List ℕ) → IsZone z size → 32 ≤ need → IsMultiple 8 need → IsGrant z after need place → used_bytes_from 48 z.blocks other ≡ Some bytes → used_bytes_from 48 after.blocks other ≡ Some bytes
granted-bytes z after need place other size bytes zone least whole g h =
    let parts = all-parts IsZoneBlock (take g.i z.blocks) (g.b ∷ drop (suc g.i) z.blocks) (subst (AllByRecursion IsZoneBlock) (parted z.blocks g.i g.b g.there) zone.blocks) in
    let new = taken_is g.b need parts.1.0 g.free least whole g.large in
    ap (λ (y : Zone). used_bytes_from 48 y.blocks other) g.is ∙ taken-bytes z g.i need other g.b bytes (taken g.b need) zone.blocks g.there g.free new h

-- An allocation leaves the bytes of each used block.
pub zone_bytes-z_alloc : (m : Memory) (size place : ℕ) (bytes : List ℕ) → Laid m → zone_bytes m place ≡ Some bytes → zone_bytes (z_alloc m size).after place ≡ Some bytes
unfolding zone_bytes
zone_bytes-z_alloc m size place bytes laid h =
    elim (by_answer (z_alloc m size).answer) [
      | inl new ↦ granted-bytes m.zone _ (zone_need size) new.0 place (first_size m.low) bytes laid.zone (omega arith) (omega arith) (z_granted m size new.0 laid new.1) h
      | inr not ↦ ap (λ (z : Zone). used_bytes_from 48 z.blocks place) (z_alloc-refusal m size not.0 not.1).1 ∙ h
    ]

new-bytes : (z after : Zone) (need place size : ℕ) → IsZone z size → 32 ≤ need → IsMultiple 8 need → IsGrant z after need place → (n : ℕ) × (need - 28 ≤ n) × (used_bytes_from 48 after.blocks place ≡ Some (replicate n 0))
new-bytes z after need place size zone least whole g =
    let front = take g.i z.blocks in
    let rest = drop (suc g.i) z.blocks in
    let parts = all-parts IsZoneBlock front (g.b ∷ rest) (subst (AllByRecursion IsZoneBlock) (parted z.blocks g.i g.b g.there) zone.blocks) in
    let new = taken_is g.b need parts.1.0 g.free least whole g.large in
    let is : replaced z.blocks g.i (taken g.b need) ≡ front ++ used_block new.size ∷ (new.others ++ rest) = ap (λ news. front ++ news ++ rest) new.first ∙ append_assoc front (used_block new.size ∷ new.others) rest in (
      new.size - 28,
      omega (arith, new.large),
      ap (λ (y : Zone). used_bytes_from 48 y.blocks place) g.is ∙ ap (λ bs. used_bytes_from 48 bs place) is ∙ at-bytes 48 front (new.others ++ rest) (used_block new.size) place parts.0 g.payload,
    )

-- The new block has zero bytes, as many as were asked at least.
pub zone_bytes-new : (m : Memory) (size place : ℕ) → Laid m → (z_alloc m size).answer ≡ Ok place → (n : ℕ) × (size ≤ n) × (zone_bytes (z_alloc m size).after place ≡ Some (replicate n 0))
unfolding zone_bytes
zone_bytes-new m size place laid h =
    let new = new-bytes m.zone _ (zone_need size) place (first_size m.low) laid.zone (omega arith) (omega arith) (z_granted m size place laid h) in
    (new.0, omega (arith, new.1), new.2)

is_some_of : (o : Option (List ℕ)) (bytes : List ℕ) → o ≡ Some bytes → IsSome o
is_some_of None bytes h = absurd (cc)
is_some_of (Some ns) bytes h = refl

of_some : (o : Option (List ℕ)) → IsSome o → (bytes : List ℕ) × (o ≡ Some bytes)
of_some None h = absurd (cc)
of_some (Some bytes) h = (bytes, refl)

-- The same as an equation, which the search takes further.
pub same-z_alloc : (m : Memory) (size place : ℕ) → Laid m → IsSome (zone_bytes m place) → zone_bytes (z_alloc m size).after place ≡ zone_bytes m place
same-z_alloc m size place laid h = let some = of_some (zone_bytes m place) h in zone_bytes-z_alloc m size place some.0 laid some.1 ∙ sym some.1

-- A used block stays used at an allocation.
pub some-z_alloc : (m : Memory) (size place : ℕ) → Laid m → IsSome (zone_bytes m place) → IsSome (zone_bytes (z_alloc m size).after place)
some-z_alloc m size place laid h = let some = of_some (zone_bytes m place) h in is_some_of _ some.0 (zone_bytes-z_alloc m size place some.0 laid some.1)

-- The new block is used.
pub some-z_new : (m : Memory) (size place : ℕ) → Laid m → (z_alloc m size).answer ≡ Ok place → IsSome (zone_bytes (z_alloc m size).after place)
some-z_new m size place laid h = let new = zone_bytes-new m size place laid h in is_some_of _ (replicate new.0 0) new.2

-- It has as many bytes as were asked at least.
pub length-z_new : (m : Memory) (size place : ℕ) (bytes : List ℕ) → Laid m → (z_alloc m size).answer ≡ Ok place → zone_bytes (z_alloc m size).after place ≡ Some bytes → size ≤ length bytes
length-z_new m size place bytes laid h there =
    let new = zone_bytes-new m size place laid h in
    let both : Some (replicate new.0 0) ≡ Some bytes = sym new.2 ∙ there in
    let same : replicate new.0 0 ≡ bytes = cc in
    omega (arith, new.1, ap length same, length-replicate {A = ℕ} new.0 0)

apart-bytes : (z after : Zone) (need place size : ℕ) → IsZone z size → IsGrant z after need place → used_bytes_from 48 z.blocks place ≡ None
apart-bytes z after need place size zone g =
    let front = take g.i z.blocks in
    let rest = drop (suc g.i) z.blocks in
    let is : z.blocks ≡ front ++ g.b ∷ rest = parted z.blocks g.i g.b g.there in
    let parts = all-parts IsZoneBlock front (g.b ∷ rest) (subst (AllByRecursion IsZoneBlock) is zone.blocks) in
    ap (λ bs. used_bytes_from 48 bs place) is ∙ at-bytes 48 front rest g.b place parts.0 g.payload ∙ ap (λ used. if used then Some g.b.bytes else None) g.free

-- A new block's place is that of no used block before.
pub zone_place_apart : (m : Memory) (size place other : ℕ) (bytes : List ℕ) → Laid m → (z_alloc m size).answer ≡ Ok place → zone_bytes m other ≡ Some bytes → other ≢ place
unfolding zone_bytes
zone_place_apart m size place other bytes laid h there same =
    let none = apart-bytes m.zone _ (zone_need size) place (first_size m.low) laid.zone (z_granted m size place laid h) in
    let here : used_bytes_from 48 m.zone.blocks place ≡ Some bytes = ap (used_bytes_from 48 m.zone.blocks) (sym same) ∙ there in
    cc

-- what the freeing of a block gives, by whether it is in use
freed_given : Memory → ℕ → ℕ → Bool → Answered (Result (Unit {0}) FreeRefusal)
freed_given m place i used = if used then record { answer = Ok tt; after = record m { zone = with_free m.zone i } } else record { answer = Err (AlreadyFree place); after = m }

freed_used : (m : Memory) (place i : ℕ) (b : ZoneBlock) → slice_get m.zone.blocks i ≡ Some b → b.used ≡ true → (z_freed_at m place i (slice_get m.zone.blocks i)).answer ≡ Ok tt
freed_used m place i b there used = rw (there, used) refl

-- A used block is freed.
pub z_free-used : (m : Memory) (place : ℕ) (bytes : List ℕ) → zone_bytes m place ≡ Some bytes → (z_free m place).answer ≡ Ok tt
unfolding z_free zone_bytes
z_free-used m place bytes h =
    let used = position_used m.zone.blocks place bytes h in
    ap (λ o. (z_freed m place o).answer) used.1 ∙ freed_used m place used.0 used.2.b used.2.there used.2.used

kept_at : (m : Memory) (place other i : ℕ) (o : Option ZoneBlock) (bytes : List ℕ) → Laid m → slice_get m.zone.blocks i ≡ o → place_at m.zone.blocks i + 24 ≢ other → used_bytes_from 48 m.zone.blocks other ≡ Some bytes →
    used_bytes_from 48 (z_freed_at m place i o).after.zone.blocks other ≡ Some bytes
unfolding freed_given
kept_at m place other i None bytes laid e apart h = h
kept_at m place other i (Some b) bytes laid e apart h = elim b.used as (λ used. used_bytes_from 48 (freed_given m place i used).after.zone.blocks other ≡ Some bytes) [
  | true ↦ with_free-bytes m.zone i (first_size m.low) other b bytes laid.zone e apart h
  | false ↦ h
]

kept_freed : (m : Memory) (place other : ℕ) (o : Option ℕ) (bytes : List ℕ) → Laid m → position_of m.zone.blocks place ≡ o → other ≢ place → used_bytes_from 48 m.zone.blocks other ≡ Some bytes →
    used_bytes_from 48 (z_freed m place o).after.zone.blocks other ≡ Some bytes
kept_freed m place other None bytes laid e apart h = h
kept_freed m place other (Some i) bytes laid e apart h =
    kept_at m place other i (slice_get m.zone.blocks i) bytes laid refl (λ same. apart (sym same ∙ (position_place m.zone.blocks place i e).1)) h

-- A freeing leaves the bytes of each other used block.
pub zone_bytes-z_free : (m : Memory) (place other : ℕ) (bytes : List ℕ) → Laid m → other ≢ place → zone_bytes m other ≡ Some bytes → zone_bytes (z_free m place).after other ≡ Some bytes
unfolding z_free zone_bytes
zone_bytes-z_free m place other bytes laid apart h =
    ap (λ (z : Zone). used_bytes_from 48 z.blocks other) (zone-with_event _ _) ∙ kept_freed m place other (position_of m.zone.blocks place) bytes laid refl apart h

pub same-z_free : (m : Memory) (place other : ℕ) → Laid m → other ≢ place → IsSome (zone_bytes m other) → zone_bytes (z_free m place).after other ≡ zone_bytes m other
same-z_free m place other laid apart h = let some = of_some (zone_bytes m other) h in zone_bytes-z_free m place other some.0 laid apart some.1 ∙ sym some.1

pub some-z_free : (m : Memory) (place other : ℕ) → Laid m → other ≢ place → IsSome (zone_bytes m other) → IsSome (zone_bytes (z_free m place).after other)
some-z_free m place other laid apart h = let some = of_some (zone_bytes m other) h in is_some_of _ some.0 (zone_bytes-z_free m place other some.0 laid apart some.1)

-- What is written is there.
pub zone_bytes-written : (m : Memory) (place : ℕ) (old bytes : List ℕ) → zone_bytes m place ≡ Some old → length bytes ≡ length old → zone_bytes (with_zone_bytes m place bytes) place ≡ Some bytes
unfolding zone_bytes with_zone_bytes
zone_bytes-written m place old bytes h same = written-bytes 48 m.zone.blocks place old bytes h ∙ ap Some (over_same old bytes same)

-- A write leaves the bytes of each other block.
pub zone_bytes-elsewhere : (m : Memory) (place other : ℕ) (bytes : List ℕ) → other ≢ place → zone_bytes (with_zone_bytes m place bytes) other ≡ zone_bytes m other
unfolding zone_bytes with_zone_bytes
zone_bytes-elsewhere m place other bytes apart = elsewhere-bytes 48 m.zone.blocks place other bytes apart

-- The bytes of the zone lie in the zone's block, behind its headers and that of the first block.
pub zone_bytes-inside : (m : Memory) (place : ℕ) (bytes : List ℕ) → Laid m → zone_bytes m place ≡ Some bytes → (72 ≤ place) × (place + length bytes ≤ low_used m)
unfolding zone_bytes
zone_bytes-inside m place bytes laid h =
    (place_above 48 m.zone.blocks place bytes h, omega (arith, inside-bytes 48 m.zone.blocks place bytes laid.zone.blocks h, laid.zone.tiles, first_below m.low))

-- So they end below the largest arena's end.
pub zone_bytes-small : (m : Memory) (place : ℕ) (bytes : List ℕ) → Laid m → zone_bytes m place ≡ Some bytes → place + length bytes < 2 ^ 26
unfolding zone_bytes
zone_bytes-small m place bytes laid h =
    omega (arith, inside-bytes 48 m.zone.blocks place bytes laid.zone.blocks h, laid.zone.tiles, first_below m.low, laid.inside, laid.small)

-- A used block stays used where one is written.
pub some-with_zone_bytes : (m : Memory) (place other : ℕ) (bytes : List ℕ) → IsSome (zone_bytes m other) → IsSome (zone_bytes (with_zone_bytes m place bytes) other)
unfolding zone_bytes with_zone_bytes
some-with_zone_bytes m place other bytes h =
    let some = of_some (zone_bytes m other) h in
    elim (cases_eq other place) [
      | inl same ↦
          let here : used_bytes_from 48 m.zone.blocks place ≡ Some some.0 = ap (used_bytes_from 48 m.zone.blocks) (sym same) ∙ some.1 in
          is_some_of _ (over some.0 bytes) (ap (used_bytes_from 48 _) same ∙ written-bytes 48 m.zone.blocks place some.0 bytes here)
      | inr apart ↦ is_some_of _ some.0 (elsewhere-bytes 48 m.zone.blocks place other bytes apart ∙ some.1)
    ]

-- A new block's place is none of those that are in use.
pub NoneIs-z_new : (m : Memory) (size place : ℕ) (places : List ℕ) → Laid m → (z_alloc m size).answer ≡ Ok place → AreUsed m places → NoneIs place places
NoneIs-z_new m size place [] laid h used = tt
NoneIs-z_new m size place (other ∷ others) laid h used =
    let some = of_some (zone_bytes m other) used.0 in
    (zone_place_apart m size place other some.0 laid h some.1, NoneIs-z_new m size place others laid h used.1)

-- Used places stay in use at an allocation,
pub AreUsed-z_alloc : (m : Memory) (size : ℕ) (places : List ℕ) → Laid m → AreUsed m places → AreUsed (z_alloc m size).after places
AreUsed-z_alloc m size [] laid used = tt
AreUsed-z_alloc m size (place ∷ places) laid used = (some-z_alloc m size place laid used.0, AreUsed-z_alloc m size places laid used.1)

-- at a freeing of another,
pub AreUsed-z_free : (m : Memory) (place : ℕ) (places : List ℕ) → Laid m → NoneIs place places → AreUsed m places → AreUsed (z_free m place).after places
AreUsed-z_free m place [] laid none used = tt
AreUsed-z_free m place (other ∷ others) laid none used = (some-z_free m place other laid none.0 used.0, AreUsed-z_free m place others laid none.1 used.1)

-- at a write,
pub AreUsed-with_zone_bytes : (m : Memory) (place : ℕ) (bytes : List ℕ) (places : List ℕ) → AreUsed m places → AreUsed (with_zone_bytes m place bytes) places
AreUsed-with_zone_bytes m place bytes [] used = tt
AreUsed-with_zone_bytes m place bytes (other ∷ others) used = (some-with_zone_bytes m place other bytes used.0, AreUsed-with_zone_bytes m place bytes others used.1)

-- and where the zone is the same.
pub AreUsed-same : (m n : Memory) (places : List ℕ) → n.zone ≡ m.zone → AreUsed m places → AreUsed n places
AreUsed-same m n [] same used = tt
AreUsed-same m n (place ∷ places) same used = (subst (λ o. IsSome o) (zone_bytes-same m n place (sym same)) used.0, AreUsed-same m n places same used.1)

-- for callers of the zone: `#[tactic(auto, using(mem_model::proofs::ZoneLaws::zone_laws))]`
pub ruleset zone_laws = (Laid-z_alloc, Laid-z_free, Laid-with_zone_bytes, same-z_alloc, some-z_alloc, some-z_new, length-z_new, zone_place_apart, z_free-used, same-z_free, some-z_free, zone_bytes-written, zone_bytes-elsewhere, some-with_zone_bytes, zone_bytes-inside, zone_bytes-small, NoneIs-z_new, AreUsed-z_alloc, AreUsed-z_free, AreUsed-with_zone_bytes, places-small, low_bytes-z_alloc, low_bytes-z_free, low_bytes-with_zone_bytes, temp_bytes-z_alloc, temp_bytes-z_free, temp_bytes-with_zone_bytes, size-z_alloc, size-z_free, size-with_zone_bytes)

-- for callers of the hunks: what their calls leave of the zone, and the zone's of the hunks
pub ruleset apart_laws = (zone_bytes-low_alloc, zone_bytes-low_free, zone_bytes-without_temp, zone_bytes-high_alloc, zone_bytes-high_free, zone_bytes-high_mark, zone_bytes-temp_alloc, zone_bytes-with_low_bytes, zone_bytes-with_temp_bytes, zone_bytes-build_low, zone-low_alloc, zone-low_free, zone-without_temp, zone-high_alloc, zone-high_free, zone-high_mark, zone-temp_alloc, zone-with_low_bytes, zone-with_temp_bytes, zone-build_low, low-z_alloc, high-z_alloc, temp-z_alloc, low-z_free, high-z_free, temp-z_free, low-with_zone_bytes, high-with_zone_bytes, temp-with_zone_bytes)
