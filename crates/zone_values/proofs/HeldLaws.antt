-- Laws of places that are held: what keeps each of them used, and no two the same.
use Rattle.std.proofs.Common.{◌≡◌, ℕ, List, [], ◌∷◌, ◌++◌, Some, Ok, refl, sym, ap, ◌∙◌}
use Rattle.std.specs.Prelude.{IsSome}
use Rattle.std.specs.Option.{option_map}
use Rattle.base_fields.specs.Texts.{until_zero}
use Rattle.mem_model.specs.Memory.{Memory}
use Rattle.mem_model.specs.Laid.{Laid}
use Rattle.mem_model.specs.Zone.{zone_bytes, with_zone_bytes}
use Rattle.mem_model.specs.Operations.{z_alloc, z_free}
use Rattle.mem_model.specs.Apart.{NoneIs, AreApart, AreUsed}
use Rattle.mem_model.proofs.ZoneLaws.{some-z_new, NoneIs-z_new, AreUsed-z_alloc, AreUsed-z_free, AreUsed-with_zone_bytes, AreUsed-same}
use Rattle.zone_values.specs.Values.{value_at, put_value, replace_value}
use Rattle.zone_values.specs.Held.{AreHeld, NoneAmong}
pub use Rattle.zone_values.proofs.ValueLaws.{some_bytes}
use Rattle.zone_values.proofs.ValueLaws.{NoneIs-put_value, zone_bytes-put_value, some-put_new, NoneIs-replace_value, zone_bytes-replace_value, some-replace_new}

-- a used block that keeps its bytes stays used
pub some-kept : (m n : Memory) (place : ℕ) → ((bytes : List ℕ) → zone_bytes m place ≡ Some bytes → zone_bytes n place ≡ Some bytes) → IsSome (zone_bytes m place) → IsSome (zone_bytes n place)
some-kept m n place kept used = let some = some_bytes (zone_bytes m place) used in rw (kept some.0 some.1) refl

-- and keeps its value
pub value_at-kept : (m n : Memory) (place : ℕ) → IsSome (zone_bytes m place) → ((bytes : List ℕ) → zone_bytes m place ≡ Some bytes → zone_bytes n place ≡ Some bytes) → value_at n place ≡ value_at m place
unfolding value_at
value_at-kept m n place used kept = let some = some_bytes (zone_bytes m place) used in ap (option_map until_zero) (kept some.0 some.1 ∙ sym some.1)

-- Places stay used where each used block keeps its bytes.
pub AreUsed-kept : (m n : Memory) (places : List ℕ) → ((place : ℕ) (bytes : List ℕ) → zone_bytes m place ≡ Some bytes → zone_bytes n place ≡ Some bytes) → AreUsed m places → AreUsed n places
AreUsed-kept m n [] kept used = tt
AreUsed-kept m n (place ∷ places) kept used = (some-kept m n place (kept place) used.0, AreUsed-kept m n places kept used.1)

-- They stay held,
pub AreHeld-kept : (m n : Memory) (places : List ℕ) → ((place : ℕ) (bytes : List ℕ) → zone_bytes m place ≡ Some bytes → zone_bytes n place ≡ Some bytes) → AreHeld m places → AreHeld n places
AreHeld-kept m n places kept held = record { used = AreUsed-kept m n places kept held.used; apart = held.apart }

-- also where the zone is the same.
pub AreHeld-same : (m n : Memory) (places : List ℕ) → n.zone ≡ m.zone → AreHeld m places → AreHeld n places
AreHeld-same m n places same held = record { used = AreUsed-same m n places same held.used; apart = held.apart }

-- The calls of the zone: an allocation leaves them held,
pub AreHeld-z_alloc : (m : Memory) (size : ℕ) (places : List ℕ) → Laid m → AreHeld m places → AreHeld (z_alloc m size).after places
AreHeld-z_alloc m size places laid held = record { used = AreUsed-z_alloc m size places laid held.used; apart = held.apart }

-- with the new place beside them,
pub AreHeld-z_new : (m : Memory) (size place : ℕ) (places : List ℕ) → Laid m → (z_alloc m size).answer ≡ Ok place → AreHeld m places → AreHeld (z_alloc m size).after (place ∷ places)
AreHeld-z_new m size place places laid h held = record {
  used = (some-z_new m size place laid h, AreUsed-z_alloc m size places laid held.used);
  apart = (NoneIs-z_new m size place places laid h held.used, held.apart);
}

-- a freeing leaves the others held,
pub AreHeld-z_free : (m : Memory) (place : ℕ) (places : List ℕ) → Laid m → AreHeld m (place ∷ places) → AreHeld (z_free m place).after places
AreHeld-z_free m place places laid held = record { used = AreUsed-z_free m place places laid held.apart.0 held.used.1; apart = held.apart.1 }

-- and a write all.
pub AreHeld-with_zone_bytes : (m : Memory) (place : ℕ) (bytes : List ℕ) (places : List ℕ) → AreHeld m places → AreHeld (with_zone_bytes m place bytes) places
AreHeld-with_zone_bytes m place bytes places held = record { used = AreUsed-with_zone_bytes m place bytes places held.used; apart = held.apart }

-- Places stay held where a value is put, or refused.
pub AreHeld-put_value : (m : Memory) (value : List ℕ) (places : List ℕ) → Laid m → AreHeld m places → AreHeld (put_value m value).after places
AreHeld-put_value m value places laid held = AreHeld-kept m _ places (λ place bytes there. zone_bytes-put_value m value bytes place laid there) held

-- The place of a new value is held beside them.
pub AreHeld-put_new : (m : Memory) (value : List ℕ) (place : ℕ) (places : List ℕ) → Laid m → (put_value m value).answer ≡ Ok place → AreHeld m places → AreHeld (put_value m value).after (place ∷ places)
AreHeld-put_new m value place places laid h held = record {
  used = (some-put_new m value place laid h, (AreHeld-put_value m value places laid held).used);
  apart = (NoneIs-put_value m value place places laid h held.used, held.apart);
}

-- what is so of the front and of the back
used_parts : (m : Memory) (xs ys : List ℕ) → AreUsed m (xs ++ ys) → AreUsed m xs × AreUsed m ys
used_parts m [] ys used = (tt, used)
used_parts m (x ∷ xs) ys used = let parts = used_parts m xs ys used.1 in ((used.0, parts.0), parts.1)

used_joined : (m : Memory) (xs ys : List ℕ) → AreUsed m xs → AreUsed m ys → AreUsed m (xs ++ ys)
used_joined m [] ys front back = back
used_joined m (x ∷ xs) ys front back = (front.0, used_joined m xs ys front.1 back)

none_parts : (place : ℕ) (xs ys : List ℕ) → NoneIs place (xs ++ ys) → NoneIs place xs × NoneIs place ys
none_parts place [] ys none = (tt, none)
none_parts place (x ∷ xs) ys none = let parts = none_parts place xs ys none.1 in ((none.0, parts.0), parts.1)

none_joined : (place : ℕ) (xs ys : List ℕ) → NoneIs place xs → NoneIs place ys → NoneIs place (xs ++ ys)
none_joined place [] ys front back = back
none_joined place (x ∷ xs) ys front back = (front.0, none_joined place xs ys front.1 back)

record AreParts (xs ys : List ℕ) : Type 0 where
  front : AreApart xs
  back : AreApart ys
  between : NoneAmong xs ys

apart_parts : (xs ys : List ℕ) → AreApart (xs ++ ys) → AreParts xs ys
apart_parts [] ys apart = record { front = tt; back = apart; between = tt }
apart_parts (x ∷ xs) ys apart =
    let none = none_parts x xs ys apart.0 in
    let parts = apart_parts xs ys apart.1 in
    record { front = (none.0, parts.front); back = parts.back; between = (none.1, parts.between) }

apart_joined : (xs ys : List ℕ) → AreParts xs ys → AreApart (xs ++ ys)
apart_joined [] ys parts = parts.back
apart_joined (x ∷ xs) ys parts =
    (none_joined x xs ys parts.front.0 parts.between.0, apart_joined xs ys (record { front = parts.front.1; back = parts.back; between = parts.between.1 }))

-- among no others none is
among_none : (xs : List ℕ) → NoneAmong xs []
among_none [] = tt
among_none (x ∷ xs) = (tt, among_none xs)

among_more : (xs ys : List ℕ) (y : ℕ) → NoneIs y xs → NoneAmong xs ys → NoneAmong xs (y ∷ ys)
among_more [] ys y none among = tt
among_more (x ∷ xs) ys y none among = ((λ same. none.0 (sym same), among.0), among_more xs ys y none.1 among.1)

pub among_turned : (xs ys : List ℕ) → NoneAmong xs ys → NoneAmong ys xs
among_turned [] ys among = among_none ys
among_turned (x ∷ xs) ys among = among_more ys xs x among.0 (among_turned xs ys among.1)

-- The order of two lists of held places doesn't matter.
pub AreHeld-turned : (m : Memory) (xs ys : List ℕ) → AreHeld m (xs ++ ys) → AreHeld m (ys ++ xs)
AreHeld-turned m xs ys held =
    let used = used_parts m xs ys held.used in
    let parts = apart_parts xs ys held.apart in
    record {
      used = used_joined m ys xs used.1 used.0;
      apart = apart_joined ys xs (record { front = parts.back; back = parts.front; between = among_turned xs ys parts.between });
    }

-- A place may come before those that it stands among.
pub AreHeld-first : (m : Memory) (place : ℕ) (xs ys : List ℕ) → AreHeld m (xs ++ place ∷ ys) → AreHeld m (place ∷ (xs ++ ys))
AreHeld-first m place xs ys held =
    let turned = AreHeld-turned m xs (place ∷ ys) held in
    let used = used_parts m ys xs turned.used.1 in
    let none = none_parts place ys xs turned.apart.0 in
    let parts = apart_parts ys xs turned.apart.1 in
    record {
      used = (turned.used.0, used_joined m xs ys used.1 used.0);
      apart = (none_joined place xs ys none.1 none.0, apart_joined xs ys (record { front = parts.back; back = parts.front; between = among_turned ys xs parts.between }));
    }

-- Some of held places are held.
pub AreHeld-front : (m : Memory) (xs ys : List ℕ) → AreHeld m (xs ++ ys) → AreHeld m xs
AreHeld-front m xs ys held = record { used = (used_parts m xs ys held.used).0; apart = (apart_parts xs ys held.apart).front }

pub AreHeld-back : (m : Memory) (xs ys : List ℕ) → AreHeld m (xs ++ ys) → AreHeld m ys
AreHeld-back m xs ys held = record { used = (used_parts m xs ys held.used).1; apart = (apart_parts xs ys held.apart).back }

-- others than the old place stay used
used_replaced : (m : Memory) (value : List ℕ) (old : ℕ) (places : List ℕ) → Laid m → NoneIs old places → AreUsed m places → AreUsed (replace_value m old value).after places
used_replaced m value old [] laid none used = tt
used_replaced m value old (place ∷ places) laid none used =
    (some-kept m _ place (λ bytes there. zone_bytes-replace_value m value bytes old place laid none.0 there) used.0, used_replaced m value old places laid none.1 used.1)

-- A new place is held in that of the old one, where the old one comes first.
replaced_first : (m : Memory) (value : List ℕ) (old place : ℕ) (places : List ℕ) → Laid m → (replace_value m old value).answer ≡ Ok place → AreHeld m (old ∷ places) → AreHeld (replace_value m old value).after (place ∷ places)
replaced_first m value old place places laid h held = record {
  used = (some-replace_new m value old place laid held.used.0 h, used_replaced m value old places laid held.apart.0 held.used.1);
  apart = (NoneIs-replace_value m value old place places laid h held.used.1, held.apart.1);
}

-- A new place is held in that of the old one.
pub AreHeld-replace_value : (m : Memory) (value : List ℕ) (old place : ℕ) (front back : List ℕ) → Laid m → (replace_value m old value).answer ≡ Ok place →
    AreHeld m (front ++ old ∷ back) → AreHeld (replace_value m old value).after (front ++ place ∷ back)
AreHeld-replace_value m value old place front back laid h held =
    AreHeld-turned _ (place ∷ back) front (replaced_first m value old place (back ++ front) laid h (AreHeld-turned m front (old ∷ back) held))

-- for callers: `#[tactic(auto, using(zone_values::proofs::HeldLaws::held_laws))]`
pub ruleset held_laws = (AreHeld-same, AreHeld-z_alloc, AreHeld-z_new, AreHeld-z_free, AreHeld-with_zone_bytes, AreHeld-put_value, AreHeld-put_new, AreHeld-front, AreHeld-back, AreHeld-replace_value)
