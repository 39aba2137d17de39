-- The cvars at an array of places, and the one of a name.
use Rattle.std.proofs.Common.{◌≡◌, ℕ, ◌+◌, ◌<◌, ◌≤◌, suc, List, [], ◌∷◌, Option, Some, None, true, false, not, cond, length, get_or, refl, sym, ap, subst, ◌∙◌, arith, Bool, inl, inr, bytes_eq}
use Rattle.std.proofs.lemmas.Bool.{cases_lt, lt-ltb, le-ltb}
use Rattle.std.specs.Prelude.{slice_set, is_some, IsSome}
use Rattle.std.specs.Option.{option_map}
use Rattle.mem_model.specs.Memory.{Memory}
use Rattle.mem_model.specs.Zone.{zone_bytes}
use Rattle.mem_model.specs.Apart.{AreUsed}
use Rattle.std.specs.List.{position_or_len, position}
use Rattle.mem_model.specs.declared.answers.Place.{Place}
use Rattle.cvar_table.specs.Cvars.{Cvar, Default, defaults, cvar_of, with_place, places_of}
use Rattle.cvar_table.specs.Told.{listed}

-- where the default of a name stands, or how many there are
abbrev pub place_in : List Default → List ℕ → ℕ
place_in ds name = position_or_len (λ (d : Default). bytes_eq d.name name) ds

-- The cvar of a name has the place at its default's position.
pub found : (ds : List Default) (places : List Place) (name : List ℕ) (at : ℕ) (d : Place) → length places ≡ length ds → at ≡ place_in ds name → at < length ds →
    (own : List ℕ) × (cvar_of (listed ds places) name ≡ Some (record { name = own; place = (get_or places at d).0 }))
unfolding cvar_of
found [] places name at d same is inside = absurd (omega arith)
found (x ∷ ds) [] name at d same is inside = absurd (omega arith)
found (x ∷ ds) (p ∷ places) name at d same is inside =
    elim (bytes_eq x.name name) as (λ t. at ≡ cond (not t) (1 + place_in ds name) 0 →
    (own : List ℕ) × (cond t (Some (let c : Cvar = record { name = x.name; place = p.0 } in c)) (cvar_of (listed ds places) name) ≡ Some (record { name = own; place = (get_or (p ∷ places) at d).0 }))) [
      | true ↦ λ here. (x.name, rw here refl)
      | false ↦ λ there. (let next : at ≡ suc (place_in ds name) = omega arith in rw next (found ds places name (place_in ds name) d (omega arith) refl (omega arith)))
    ] is

-- Without a default of the name there is no such cvar.
pub missing : (ds : List Default) (places : List Place) (name : List ℕ) → length ds ≤ place_in ds name → cvar_of (listed ds places) name ≡ None
unfolding cvar_of
missing [] places name none = refl
missing (x ∷ ds) [] name none = refl
missing (x ∷ ds) (p ∷ places) name none =
    elim (bytes_eq x.name name) as (λ t. length (x ∷ ds) ≤ cond (not t) (1 + place_in ds name) 0 →
    cond t (Some (let c : Cvar = record { name = x.name; place = p.0 } in c)) (cvar_of (listed ds places) name) ≡ None) [
      | true ↦ λ low. absurd (omega arith)
      | false ↦ λ low. missing ds places name (omega arith)
    ] none

-- A place that is set is that of the cvar.
pub placed : (ds : List Default) (places : List Place) (name : List ℕ) (at : ℕ) (new : Place) → length places ≡ length ds → at ≡ place_in ds name → at < length ds →
    listed ds (slice_set places at new) ≡ with_place (listed ds places) name new.0
placed [] places name at new same is inside = absurd (omega arith)
placed (x ∷ ds) [] name at new same is inside = absurd (omega arith)
placed (x ∷ ds) (p ∷ places) name at new same is inside =
    elim (bytes_eq x.name name) as (λ t. at ≡ cond (not t) (1 + place_in ds name) 0 →
    listed (x ∷ ds) (slice_set (p ∷ places) at new)
    ≡ cond t (record { name = x.name; place = new.0 } ∷ listed ds places) (record { name = x.name; place = p.0 } ∷ with_place (listed ds places) name new.0)) [
      | true ↦ λ here. rw here refl
      | false ↦ λ there. (let next : at ≡ suc (place_in ds name) = omega arith in
          rw next (ap (λ (rest : List Cvar). record { name = x.name; place = p.0 } ∷ rest) (placed ds places name (place_in ds name) new (omega arith) refl (omega arith))))
    ] is

-- where `position` finds an element, there is the first that passes
position_first : {X : Type 0} (p : X → Bool) (xs : List X) (at : ℕ) → position p xs ≡ Some at → (at ≡ position_or_len p xs) × (at < length xs)
position_first p xs at h =
    elim (cases_lt (position_or_len p xs) (length xs)) [
      | inl low ↦ (let some : Some (position_or_len p xs) ≡ Some at = rw (lt-ltb (position_or_len p xs) (length xs) low) at h in
          let same : position_or_len p xs ≡ at = cc in (sym same, subst (λ n. n < length xs) same low))
      | inr high ↦ absurd (let none = rw (le-ltb (position_or_len p xs) (length xs) high) at h in cc)
    ]

position_missing : {X : Type 0} (p : X → Bool) (xs : List X) → position p xs ≡ None → length xs ≤ position_or_len p xs
position_missing p xs h =
    elim (cases_lt (position_or_len p xs) (length xs)) [
      | inl low ↦ absurd (let some : Some (position_or_len p xs) ≡ None = rw (lt-ltb (position_or_len p xs) (length xs) low) at h in cc)
      | inr high ↦ high
    ]

-- The same at the table of the defaults.
module _ (places : List Place) (name : List ℕ) (eight : length places ≡ 8) (cvars : List Cvar) (view : listed defaults places ≡ cvars) where
  pub cvar_found : (at : ℕ) (d : Place) → position (λ (own : Default). bytes_eq own.name name) defaults ≡ Some at → (own : List ℕ) × (cvar_of cvars name ≡ Some (record { name = own; place = (get_or places at d).0 }))
  cvar_found at d h =
      let first = position_first (λ (own : Default). bytes_eq own.name name) defaults at h in
      subst (λ (cs : List Cvar). (own : List ℕ) × (cvar_of cs name ≡ Some (record { name = own; place = (get_or places at d).0 }))) view
      (found defaults places name at d eight first.0 first.1)

  pub cvar_placed : (at : ℕ) (new : Place) → position (λ (own : Default). bytes_eq own.name name) defaults ≡ Some at → listed defaults (slice_set places at new) ≡ with_place cvars name new.0
  cvar_placed at new h =
      let first = position_first (λ (own : Default). bytes_eq own.name name) defaults at h in
      placed defaults places name at new eight first.0 first.1 ∙ ap (λ (cs : List Cvar). with_place cs name new.0) view

pub cvar_missing : (places : List Place) (name : List ℕ) (cvars : List Cvar) → listed defaults places ≡ cvars → position (λ (own : Default). bytes_eq own.name name) defaults ≡ None → cvar_of cvars name ≡ None
cvar_missing places name cvars view h =
    subst (λ (cs : List Cvar). cvar_of cs name ≡ None) view (missing defaults places name (position_missing (λ (own : Default). bytes_eq own.name name) defaults h))

-- what a place tells of the cvar that has it
pub is_some-place : (o : Option Cvar) (place : Option Place) → option_map (λ (cvar : Cvar). cvar.place) o ≡ option_map (λ (p : Place). p.0) place → is_some place ≡ is_some o
is_some-place None None h = refl
is_some-place None (Some p) h = absurd (cc)
is_some-place (Some cvar) None h = absurd (cc)
is_some-place (Some cvar) (Some p) h = refl

pub cvar_at : (o : Option Cvar) (place : ℕ) → option_map (λ (cvar : Cvar). cvar.place) o ≡ Some place → (own : List ℕ) × (o ≡ Some (record { name = own; place = place }))
cvar_at None place h = absurd (cc)
cvar_at (Some cvar) place h = (let same : cvar.place ≡ place = cc in (cvar.name, ap (λ n. Some (let c : Cvar = record { name = cvar.name; place = n } in c)) same))

pub cvar_nowhere : (o : Option Cvar) → option_map (λ (cvar : Cvar). cvar.place) o ≡ None → o ≡ None
cvar_nowhere None h = refl
cvar_nowhere (Some cvar) h = absurd (cc)

-- the place of a cvar is one of those of all
pub some-place : (m : Memory) (cvars : List Cvar) (name : List ℕ) (place : ℕ) → AreUsed m (places_of cvars) → option_map (λ (cvar : Cvar). cvar.place) (cvar_of cvars name) ≡ Some place → IsSome (zone_bytes m place)
unfolding cvar_of
some-place m [] name place used h = absurd (cc)
some-place m (c ∷ cvars) name place used h =
    elim (bytes_eq c.name name) as (λ t. option_map (λ (cvar : Cvar). cvar.place) (cond t (Some c) (cvar_of cvars name)) ≡ Some place → IsSome (zone_bytes m place)) [
      | true ↦ λ here. (let same : c.place ≡ place = cc in subst (λ p. IsSome (zone_bytes m p)) same used.0)
      | false ↦ λ there. some-place m cvars name place used.1 there
    ] h
