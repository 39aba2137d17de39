-- Rows that are asked for by number.
use Rattle.std.proofs.Common.{◌≡◌, ◌≤◌, ◌+◌, ℕ, List, ◌∷◌, length, drop, Some, None, inl, inr, ap, sym, ◌∙◌}
use Rattle.std.specs.Prelude.{slice_get}
use Rattle.std.proofs.lemmas.List.{drop_more}
use Rattle.std.proofs.lemmas.Option.{slice_get_within, slice_get_cases, get_or_from_slice_get}

module _ {X : Type 0} (rows : List X) (number : ℕ) where
  -- past the last row nothing is left
  pub past : None ≡ slice_get rows number → length rows ≤ number
  past none = elim (slice_get_cases rows number).1 [
    | inl found ↦ absurd (let both : None ≡ Some found.0 = none ∙ found.2 in cc)
    | inr end ↦ end.0
  ]

  -- the row of this number is the next one
  pub next : {row : X} → Some row ≡ slice_get rows number → drop number rows ≡ row ∷ drop (number + 1) rows
  next {row} is =
      drop_more rows number row (slice_get_within rows number row (sym is))
      ∙ ap (λ (r : X). r ∷ drop (number + 1) rows) (get_or_from_slice_get rows number row row (sym is))
