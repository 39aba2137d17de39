-- One folder of the list was changed by a call.
use Rattle.std.proofs.Common.{◌≡◌, ℕ, ◌<◌, ◌≤◌, List, length, map, get_or, set, Option, Ok, Err, sym, ◌∙◌, ap, subst, arith, get_or-set_other, get_or-set_same, inl, inr}
use Rattle.std.specs.Prelude.{slice_index, option_map}
use Rattle.std.specs.Option.{option_flatten}
use Rattle.std.proofs.Math.Seq.{map-set_same}
use Rattle.std.proofs.lemmas.List.{map-set}
use Rattle.std.proofs.lemmas.Option.{slice_get-map, slice_get-get_or}
use Rattle.std.proofs.lemmas.Grind.{common_steps}
use Rattle.std.proofs.lemmas.Bool.{cases_eq}
use Rattle.outside_io.specs.Causes.{Rose}
use Rattle.outside_io.specs.Files.{File}
use Rattle.search_paths.specs.Counts.{NoneFalls, RoseAt, HasFolderCause}
use Rattle.search_paths.specs.Kept.{told_at}

none_falls : (xs : List ℕ) (at new : ℕ) → at < length xs → slice_index xs at ≤ new → NoneFalls xs (set xs at new)
none_falls xs at new inside le place = elim (cases_eq place at) [
  | inl same ↦ grind (arith, common_steps)
  | inr other ↦ rw (get_or-set_other xs at place new 0 other) (omega arith)
]

pub nothing_falls : (xs : List ℕ) → NoneFalls xs xs
nothing_falls xs place = omega arith

pub falls_never : (xs ys zs : List ℕ) → NoneFalls xs ys → NoneFalls ys zs → NoneFalls xs zs
falls_never xs ys zs first second place = omega (arith, first place, second place)

module _ {A : Type 0} (xs : List A) (at : ℕ) (d new : A) (inside : at < length xs) where
  -- what the call left as it was
  pub kept : {B : Type 0} (v : A → B) → v new ≡ v (get_or xs at d) → map v (set xs at new) ≡ map v xs
  kept v same = map-set_same v xs at new d same

  pub number_of : (v : A → ℕ) → slice_index (map v xs) at ≡ v (get_or xs at d)
  number_of v = grind (arith, common_steps)

  -- a count
  pub risen : (v : A → ℕ) → v (get_or xs at d) ≤ v new → NoneFalls (map v xs) (map v (set xs at new))
  risen v le =
      let within : at < length (map v xs) = grind (arith, common_steps) in
      subst (λ ns. NoneFalls (map v xs) ns) (sym (map-set v xs at new)) (none_falls (map v xs) at (v new) within (omega (arith, number_of v)))

  pub rose : (v : A → ℕ) → Rose (v (get_or xs at d)) (v new) → RoseAt at (map v xs) (map v (set xs at new))
  rose v up =
      let within : at < length (map v xs) = grind (arith, common_steps) in
      let now : slice_index (set (map v xs) at (v new)) at ≡ v new = get_or-set_same (map v xs) at (v new) 0 within in
      subst (λ ns. RoseAt at (map v xs) ns) (sym (map-set v xs at new)) (omega (arith, number_of v, now))

  -- what the folder tells
  pub told_is : (v : A → Option (List File)) → told_at at (map v xs) ≡ v (get_or xs at d)
  told_is v = ap option_flatten (slice_get-map v xs at ∙ ap (option_map v) (slice_get-get_or xs at d inside))

  -- the faults, where the call succeeded and where it failed
  pub caused_ok : (v : A → ℕ) {T : Type 0} (value : T) → v (get_or xs at d) ≤ v new → HasFolderCause {T = T} (map v xs) (map v (set xs at new)) (Ok value)
  caused_ok v value le = record { none_falls = risen v le; failed = tt }

  pub caused_err : (v : A → ℕ) {T : Type 0} → v (get_or xs at d) ≤ v new → Rose (v (get_or xs at d)) (v new) → HasFolderCause {T = T} (map v xs) (map v (set xs at new)) (Err (record { folder = at }))
  caused_err v le up =
      let within : at < length (map v xs) = grind (arith, common_steps) in
      record { none_falls = risen v le; failed = (within, rose v up) }
