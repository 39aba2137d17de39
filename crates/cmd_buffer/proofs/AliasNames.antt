-- The alias of exactly a name.
use Rattle.std.proofs.Common.{◌≡◌, ℕ, Bool, true, false, List, [], ◌∷◌, Option, Some, refl, sym, ap, ◌∙◌, find, bytes_eq, cond}
use Rattle.std.proofs.lemmas.Slice.Eq.{bytes_eq-Decides}
use Rattle.cmd_buffer.specs.Aliases.{Alias}

found_by : {A : Type 0} (p : A → Bool) (b : Bool) (x y : A) (others : Option A) → p x ≡ b → (others ≡ Some y → p y ≡ true) → cond b (Some x) others ≡ Some y → p y ≡ true
found_by p true x y others is later here = (let same : x ≡ y = cc in sym (ap p same) ∙ is)
found_by p false x y others is later there = later there

-- what is found passes
pub found_passes : {A : Type 0} (p : A → Bool) (xs : List A) (y : A) → find p xs ≡ Some y → p y ≡ true
found_passes p [] y h = absurd (cc)
found_passes p (x ∷ xs) y h = found_by p (p x) x y (find p xs) refl (found_passes p xs y) h

-- An alias that was found by exactly a name has that name.
pub exact_name : (name : List ℕ) (aliases : List Alias) (a : Alias) → find (λ (a : Alias). bytes_eq a.name name) aliases ≡ Some a → a.name ≡ name
exact_name name aliases a h = (bytes_eq-Decides a.name name).0 (found_passes (λ (a : Alias). bytes_eq a.name name) aliases a h)

pub named_exact : (name : List ℕ) (aliases : List Alias) (a : Alias) → Some a ≡ find (λ (a : Alias). bytes_eq a.name name) aliases →
    Some (record { record_place = a.record_place; name = name; value_place = a.value_place }) ≡ find (λ (a : Alias). bytes_eq a.name name) aliases
named_exact name aliases a h =
    let with_name : List ℕ → Option Alias = λ own. Some (record { record_place = a.record_place; name = own; value_place = a.value_place }) in
    ap with_name (sym (exact_name name aliases a (sym h))) ∙ h
