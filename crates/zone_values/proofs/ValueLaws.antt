-- Laws of values in the zone, over the definitions alone: what those who keep values need.
use Rattle.std.proofs.Common.{◌≡◌, ◌≢◌, ℕ, ◌+◌, List, [], ◌∷◌, ◌++◌, Option, Some, None, Result, Ok, Err, length, drop, replicate, refl, sym, ap, ◌∙◌, arith, append_assoc, length-append}
use Rattle.std.specs.Prelude.{IsSome}
use Rattle.std.specs.Option.{option_map}
use Rattle.std.proofs.lemmas.List.{length-replicate}
use Rattle.base_fields.specs.Texts.{until_zero}
use Rattle.base_fields.proofs.TextLaws.{until_zero_of_ended}
use Rattle.mem_model.specs.Memory.{Memory}
use Rattle.mem_model.specs.Laid.{Laid, IsText}
use Rattle.mem_model.specs.Places.{zone_need}
use Rattle.mem_model.specs.Hunk.{over}
use Rattle.mem_model.specs.Zone.{zone_bytes, with_zone_bytes}
use Rattle.mem_model.specs.Apart.{NoneIs, AreUsed}
use Rattle.mem_model.specs.Keeps.{beside_zone}
use Rattle.mem_model.specs.Operations.{z_alloc, z_free}
use Rattle.mem_model.proofs.Laying.{length-over, over_front}
use Rattle.mem_model.proofs.ZoneLaying.{Laid-z_alloc, Laid-z_free, Laid-with_zone_bytes}
use Rattle.mem_model.proofs.ZoneLaws.{zone_bytes-z_alloc, zone_bytes-new, zone_place_apart, zone_bytes-z_free, zone_bytes-written, zone_bytes-elsewhere, z_alloc-refusal, NoneIs-z_new}
use Rattle.mem_model.proofs.CacheLaws.{beside-z_alloc, beside-z_free}
use Rattle.mem_model.proofs.Keeping.{beside-with_zone_bytes}
use Rattle.zone_values.specs.Values.{value_at, put_value, value_put, replace_value, old_freed, with_zero}
use Rattle.zone_values.proofs.Writing.{with_zone_bytes-over}

-- What is so of the memory that the zone gave, and stays so by a write, is so of the memory with the value.
put_steps : (P : Memory → Type 0) (value : List ℕ) (answer : Result ℕ ℕ) (m : Memory) → ((place : ℕ) → answer ≡ Ok place → P (with_zone_bytes m place (with_zero value))) → P m → P (value_put value answer m)
put_steps P value (Ok place) m written given = written place refl
put_steps P value (Err asked) m written given = given

freed_steps : (P : Memory → Type 0) (old : ℕ) (answer : Result ℕ ℕ) (m : Memory) → ((place : ℕ) → answer ≡ Ok place → P (z_free m old).after) → P m → P (old_freed old answer m)
freed_steps P old (Ok place) m freed given = freed place refl
freed_steps P old (Err asked) m freed given = given

-- A value put into the zone keeps a memory laid out.
pub Laid-put_value : (m : Memory) (value : List ℕ) → Laid m → Laid (put_value m value).after
unfolding put_value
Laid-put_value m value laid =
    let given = Laid-z_alloc m (length value + 1) laid in
    put_steps Laid value _ _ (λ place e. Laid-with_zone_bytes _ place (with_zero value) given) given

pub Laid-replace_value : (m : Memory) (old : ℕ) (value : List ℕ) → Laid m → Laid (replace_value m old value).after
unfolding replace_value
Laid-replace_value m old value laid =
    let given = Laid-put_value m value laid in
    freed_steps Laid old _ _ (λ place e. Laid-z_free _ old given) given

-- the answer of the zone is that of the call
given_of_put : (m : Memory) (value : List ℕ) (answer : Result ℕ ℕ) → (put_value m value).answer ≡ answer → (z_alloc m (length value + 1)).answer ≡ answer
unfolding put_value
given_of_put m value answer h = h

-- replacing answers as putting does
pub put_of_replace : (m : Memory) (old : ℕ) (value : List ℕ) (answer : Result ℕ ℕ) → (replace_value m old value).answer ≡ answer → (put_value m value).answer ≡ answer
unfolding replace_value
put_of_replace m old value answer h = h

after_put : (m : Memory) (value : List ℕ) (place : ℕ) → (put_value m value).answer ≡ Ok place → (put_value m value).after ≡ with_zone_bytes (z_alloc m (length value + 1)).after place (with_zero value)
unfolding put_value
after_put m value place h = ap (λ (answer : Result ℕ ℕ). value_put value answer (z_alloc m (length value + 1)).after) h

after_replace : (m : Memory) (old : ℕ) (value : List ℕ) (place : ℕ) → (replace_value m old value).answer ≡ Ok place → (replace_value m old value).after ≡ (z_free (put_value m value).after old).after
unfolding replace_value
after_replace m old value place h = ap (λ (answer : Result ℕ ℕ). old_freed old answer (put_value m value).after) h

-- The new place is that of no block that was used before.
pub put_apart : (m : Memory) (value bytes : List ℕ) (place other : ℕ) → Laid m → (put_value m value).answer ≡ Ok place → zone_bytes m other ≡ Some bytes → other ≢ place
put_apart m value bytes place other laid h there = zone_place_apart m (length value + 1) place other bytes laid (given_of_put m value (Ok place) h) there

pub NoneIs-put_value : (m : Memory) (value : List ℕ) (place : ℕ) (places : List ℕ) → Laid m → (put_value m value).answer ≡ Ok place → AreUsed m places → NoneIs place places
NoneIs-put_value m value place places laid h used = NoneIs-z_new m (length value + 1) place places laid (given_of_put m value (Ok place) h) used

-- The other used blocks keep their bytes.
pub zone_bytes-put_value : (m : Memory) (value bytes : List ℕ) (other : ℕ) → Laid m → zone_bytes m other ≡ Some bytes → zone_bytes (put_value m value).after other ≡ Some bytes
unfolding put_value
zone_bytes-put_value m value bytes other laid there =
    let given = zone_bytes-z_alloc m (length value + 1) other bytes laid there in
    put_steps (λ n. zone_bytes n other ≡ Some bytes) value _ _ (λ place e.
    zone_bytes-elsewhere _ place other (with_zero value) (zone_place_apart m (length value + 1) place other bytes laid e there) ∙ given) given

-- the bytes of the new block: the value, its zero, and what the block had behind them
pub zone_bytes-put_new : (m : Memory) (value : List ℕ) (place : ℕ) → Laid m → (put_value m value).answer ≡ Ok place →
    (rest : List ℕ) × (zone_bytes (put_value m value).after place ≡ Some (value ++ 0 ∷ rest))
zone_bytes-put_new m value place laid h =
    let new = zone_bytes-new m (length value + 1) place laid (given_of_put m value (Ok place) h) in
    let old = replicate new.0 0 in
    let front = over_front old (with_zero value) (omega (arith, new.1, length-append value (0 ∷ []), length-replicate {A = ℕ} new.0 0)) in (
      drop (length (with_zero value)) old,
      ap (λ (n : Memory). zone_bytes n place) (after_put m value place h ∙ sym (with_zone_bytes-over _ place old (with_zero value) new.2))
          ∙ zone_bytes-written _ place old (over old (with_zero value)) new.2 (length-over old (with_zero value))
          ∙ ap Some (front ∙ append_assoc value (0 ∷ []) (drop (length (with_zero value)) old)),
    )

-- A new block is used.
pub some-put_new : (m : Memory) (value : List ℕ) (place : ℕ) → Laid m → (put_value m value).answer ≡ Ok place → IsSome (zone_bytes (put_value m value).after place)
some-put_new m value place laid h = rw (zone_bytes-put_new m value place laid h).1 refl

-- A value is there once it is put.
pub value_at-put_value : (m : Memory) (value : List ℕ) (place : ℕ) → Laid m → IsText value → (put_value m value).answer ≡ Ok place → value_at (put_value m value).after place ≡ Some value
unfolding value_at
value_at-put_value m value place laid text h =
    let new = zone_bytes-put_new m value place laid h in
    ap (option_map until_zero) new.1 ∙ ap Some (until_zero_of_ended value new.0 text)

-- A refusal tells what the block needs, and leaves the zone.
pub put_value-refusal : (m : Memory) (value : List ℕ) (told : ℕ) → (put_value m value).answer ≡ Err told → (told ≡ zone_need (length value + 1)) × ((put_value m value).after.zone ≡ m.zone)
unfolding put_value
put_value-refusal m value told h =
    let given = z_alloc-refusal m (length value + 1) told h in
    (given.0, ap (λ (answer : Result ℕ ℕ). (value_put value answer (z_alloc m (length value + 1)).after).zone) h ∙ given.1)

-- The same where an old value is replaced.
pub replace_apart : (m : Memory) (value bytes : List ℕ) (old place other : ℕ) → Laid m → (replace_value m old value).answer ≡ Ok place → zone_bytes m other ≡ Some bytes → other ≢ place
replace_apart m value bytes old place other laid h there = put_apart m value bytes place other laid (put_of_replace m old value (Ok place) h) there

pub NoneIs-replace_value : (m : Memory) (value : List ℕ) (old place : ℕ) (places : List ℕ) → Laid m → (replace_value m old value).answer ≡ Ok place → AreUsed m places → NoneIs place places
NoneIs-replace_value m value old place places laid h used = NoneIs-put_value m value place places laid (put_of_replace m old value (Ok place) h) used

pub zone_bytes-replace_value : (m : Memory) (value bytes : List ℕ) (old other : ℕ) → Laid m → other ≢ old → zone_bytes m other ≡ Some bytes → zone_bytes (replace_value m old value).after other ≡ Some bytes
unfolding replace_value
zone_bytes-replace_value m value bytes old other laid apart there =
    let given = zone_bytes-put_value m value bytes other laid there in
    freed_steps (λ n. zone_bytes n other ≡ Some bytes) old _ _ (λ place e. zone_bytes-z_free _ old other bytes (Laid-put_value m value laid) apart given) given

-- the bytes of the new block, where the old place is that of a used one
pub zone_bytes-replace_new : (m : Memory) (value bytes : List ℕ) (old place : ℕ) → Laid m → zone_bytes m old ≡ Some bytes → (replace_value m old value).answer ≡ Ok place →
    (rest : List ℕ) × (zone_bytes (replace_value m old value).after place ≡ Some (value ++ 0 ∷ rest))
zone_bytes-replace_new m value bytes old place laid was h =
    let put = put_of_replace m old value (Ok place) h in
    let new = zone_bytes-put_new m value place laid put in
    (new.0, ap (λ (n : Memory). zone_bytes n place) (after_replace m old value place h) ∙ zone_bytes-z_free _ old place _ (Laid-put_value m value laid) (λ same. put_apart m value bytes place old laid put was (sym same)) new.1)

-- the bytes that are there
pub some_bytes : (o : Option (List ℕ)) → IsSome o → (bytes : List ℕ) × (o ≡ Some bytes)
some_bytes None h = absurd (cc)
some_bytes (Some bytes) h = (bytes, refl)

pub some-replace_new : (m : Memory) (value : List ℕ) (old place : ℕ) → Laid m → IsSome (zone_bytes m old) → (replace_value m old value).answer ≡ Ok place → IsSome (zone_bytes (replace_value m old value).after place)
some-replace_new m value old place laid used h =
    let was = some_bytes _ used in
    rw (zone_bytes-replace_new m value was.0 old place laid was.1 h).1 refl

pub value_at-replace_value : (m : Memory) (value : List ℕ) (old place : ℕ) → Laid m → IsSome (zone_bytes m old) → IsText value → (replace_value m old value).answer ≡ Ok place → value_at (replace_value m old value).after place ≡ Some value
unfolding value_at
value_at-replace_value m value old place laid used text h =
    let was = some_bytes _ used in
    let new = zone_bytes-replace_new m value was.0 old place laid was.1 h in
    ap (option_map until_zero) new.1 ∙ ap Some (until_zero_of_ended value new.0 text)

pub replace_value-refusal : (m : Memory) (value : List ℕ) (old told : ℕ) → (replace_value m old value).answer ≡ Err told → (told ≡ zone_need (length value + 1)) × ((replace_value m old value).after.zone ≡ m.zone)
unfolding replace_value
replace_value-refusal m value old told h =
    let put = put_value-refusal m value told h in
    (put.0, ap (λ (answer : Result ℕ ℕ). (old_freed old answer (put_value m value).after).zone) h ∙ put.1)

-- Neither changes anything beside the zone.
pub beside-put_value : (m : Memory) (value : List ℕ) → beside_zone (put_value m value).after ≡ beside_zone m
unfolding put_value
beside-put_value m value =
    let given = beside-z_alloc m (length value + 1) in
    put_steps (λ n. beside_zone n ≡ beside_zone m) value _ _ (λ place e. beside-with_zone_bytes _ place (with_zero value) ∙ given) given

pub beside-replace_value : (m : Memory) (value : List ℕ) (old : ℕ) → beside_zone (replace_value m old value).after ≡ beside_zone m
unfolding replace_value
beside-replace_value m value old =
    let given = beside-put_value m value in
    freed_steps (λ n. beside_zone n ≡ beside_zone m) old _ _ (λ place e. beside-z_free _ old ∙ given) given

-- for callers: `#[tactic(auto, using(zone_values::proofs::ValueLaws::value_laws))]`
pub ruleset value_laws = (Laid-put_value, Laid-replace_value, put_apart, NoneIs-put_value, zone_bytes-put_value, some-put_new, value_at-put_value, replace_apart, NoneIs-replace_value, zone_bytes-replace_value, some-replace_new, value_at-replace_value, beside-put_value, beside-replace_value)
