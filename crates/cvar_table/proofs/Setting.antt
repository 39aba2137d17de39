-- The cvars where one of them gets another place.
use Rattle.std.proofs.Common.{◌≡◌, ◌≢◌, ℕ, List, [], ◌∷◌, ◌++◌, Some, Bool, true, false, cond, refl, sym, ap, subst, ◌∙◌, ◌⊎◌, inl, inr, bytes_eq}
use Rattle.std.specs.Prelude.{is_some}
use Rattle.std.proofs.lemmas.Slice.Eq.{bytes_eq-Decides}
use Rattle.mem_model.specs.Apart.{NoneIs, AreApart}
use Rattle.cvar_table.specs.Cvars.{Cvar, cvar_of, with_place, places_of}

-- what the test of a name tells
pub name_tells : (own name : List ℕ) → ((bytes_eq own name ≡ true) × (own ≡ name)) ⊎ ((bytes_eq own name ≡ false) × (own ≢ name))
name_tells own name = tells (bytes_eq own name) refl where
  tells : (t : Bool) → bytes_eq own name ≡ t → ((bytes_eq own name ≡ true) × (own ≡ name)) ⊎ ((bytes_eq own name ≡ false) × (own ≢ name))
  tells true is = inl (is, (bytes_eq-Decides own name).0 is)
  tells false is = inr (is, λ same. absurd (let passes = (bytes_eq-Decides own name).1 same in cc))

pub other_name : (own name : List ℕ) → own ≢ name → bytes_eq own name ≡ false
other_name own name other = elim (name_tells own name) [
  | inl at ↦ absurd (other at.1)
  | inr off ↦ off.0
]

-- Where the cvar of a name stands among the places.
pub record IsPlaced (cvars : List Cvar) (name : List ℕ) (old : ℕ) (front back : List ℕ) : Type 0 where
  pub before : places_of cvars ≡ front ++ old ∷ back
  pub after : (new : ℕ) → places_of (with_place cvars name new) ≡ front ++ new ∷ back

pub placed_at : (cvars : List Cvar) (name : List ℕ) (cvar : Cvar) → cvar_of cvars name ≡ Some cvar → (front back : List ℕ) × IsPlaced cvars name cvar.place front back
unfolding cvar_of
placed_at [] name cvar h = absurd (cc)
placed_at (c ∷ cvars) name cvar h =
    elim (name_tells c.name name) [
      | inl at ↦
          let here : Some c ≡ Some cvar = rw at.0 at h in
          let same : c ≡ cvar = cc in
          ([], places_of cvars, record { before = ap (λ (d : Cvar). d.place ∷ places_of cvars) same; after = λ new. rw at.0 refl })
      | inr off ↦
          let rest = placed_at cvars name cvar (rw off.0 at h) in
          (c.place ∷ rest.0, rest.1, record { before = ap (λ ps. c.place ∷ ps) rest.2.before; after = λ new. rw off.0 (ap (λ ps. c.place ∷ ps) (rest.2.after new)) })
    ]

-- The cvar of the name has the new place,
pub cvar_of-with_place : (cvars : List Cvar) (name : List ℕ) (cvar : Cvar) (new : ℕ) → cvar_of cvars name ≡ Some cvar → cvar_of (with_place cvars name new) name ≡ Some (record cvar { place = new })
unfolding cvar_of
cvar_of-with_place [] name cvar new h = absurd (cc)
cvar_of-with_place (c ∷ cvars) name cvar new h =
    elim (name_tells c.name name) [
      | inl at ↦
          let here : Some c ≡ Some cvar = rw at.0 at h in
          let same : c ≡ cvar = cc in
          rw (at.0, at.0) (ap (λ (d : Cvar). Some (record d { place = new })) same)
      | inr off ↦ rw (off.0, off.0) (cvar_of-with_place cvars name cvar new (rw off.0 at h))
    ]

-- and each other cvar has its own.
pub cvar_of-elsewhere : (cvars : List Cvar) (name other : List ℕ) (new : ℕ) → other ≢ name → cvar_of (with_place cvars name new) other ≡ cvar_of cvars other
unfolding cvar_of
cvar_of-elsewhere [] name other new apart = refl
cvar_of-elsewhere (c ∷ cvars) name other new apart =
    elim (name_tells c.name name) [
      | inl at ↦ rw (at.0, other_name c.name other (λ same. apart (sym same ∙ at.1))) refl
      | inr off ↦ rw off.0 (ap (cond (bytes_eq c.name other) (Some c)) (cvar_of-elsewhere cvars name other new apart))
    ]

-- The names stay.
pub is_some-with_place : (cvars : List Cvar) (name other : List ℕ) (new : ℕ) → is_some (cvar_of (with_place cvars name new) other) ≡ is_some (cvar_of cvars other)
unfolding cvar_of
is_some-with_place [] name other new = refl
is_some-with_place (c ∷ cvars) name other new =
    elim (bytes_eq c.name name) as (λ t.
    is_some (cvar_of (cond t (record { name = c.name; place = new } ∷ cvars) (c ∷ with_place cvars name new)) other) ≡ is_some (cvar_of (c ∷ cvars) other)) [
      | true ↦ elim (bytes_eq c.name other) as (λ u.
          is_some (cond u (Some (let d : Cvar = record { name = c.name; place = new } in d)) (cvar_of cvars other)) ≡ is_some (cond u (Some c) (cvar_of cvars other))) [ true ↦ refl | false ↦ refl ]
      | false ↦ elim (bytes_eq c.name other) as (λ u.
          is_some (cond u (Some c) (cvar_of (with_place cvars name new) other)) ≡ is_some (cond u (Some c) (cvar_of cvars other))) [ true ↦ refl | false ↦ is_some-with_place cvars name other new ]
    ]

-- a place that is none of the cvars' is not that of one of them
pub none_of_cvar : (place : ℕ) (cvars : List Cvar) (name : List ℕ) (cvar : Cvar) → NoneIs place (places_of cvars) → cvar_of cvars name ≡ Some cvar → cvar.place ≢ place
unfolding cvar_of
none_of_cvar place [] name cvar none h = absurd (cc)
none_of_cvar place (c ∷ cvars) name cvar none h =
    elim (bytes_eq c.name name) as (λ t. cond t (Some c) (cvar_of cvars name) ≡ Some cvar → cvar.place ≢ place) [
      | true ↦ λ here same. (let is : c ≡ cvar = cc in none.0 (ap (λ (d : Cvar). d.place) is ∙ same))
      | false ↦ λ there. none_of_cvar place cvars name cvar none.1 there
    ] h

-- Two cvars of two names have two places.
pub cvars_apart : (cvars : List Cvar) (name other : List ℕ) (cvar another : Cvar) → AreApart (places_of cvars) → other ≢ name → cvar_of cvars name ≡ Some cvar → cvar_of cvars other ≡ Some another → another.place ≢ cvar.place
unfolding cvar_of
cvars_apart [] name other cvar another apart differ h k = absurd (cc)
cvars_apart (c ∷ cvars) name other cvar another apart differ h k =
    elim (name_tells c.name name) [
      | inl at ↦
          let here : Some c ≡ Some cvar = rw at.0 at h in
          let is : c ≡ cvar = cc in
          let there = rw (other_name c.name other (λ same. differ (sym same ∙ at.1))) at k in
          subst (λ (d : Cvar). another.place ≢ d.place) is (none_of_cvar c.place cvars other another apart.0 there)
      | inr off ↦
          let there = rw off.0 at h in
          elim (bytes_eq c.name other) as (λ t. cond t (Some c) (cvar_of cvars other) ≡ Some another → another.place ≢ cvar.place) [
            | true ↦ λ here same. (let is : c ≡ another = cc in none_of_cvar c.place cvars name cvar apart.0 there (sym same ∙ ap (λ (d : Cvar). d.place) (sym is)))
            | false ↦ λ behind. cvars_apart cvars name other cvar another apart.1 differ there behind
          ] k
    ]
