-- The names of files.
use Rattle.std.proofs.Common.{◌≡◌, ℕ, ◌<◌, refl, ◌∙◌, Bool, true, false, Option, Result, Ok, Err, List, [], ◌++◌, ap, length, Some, subst, arith}
use Rattle.std.specs.Prelude.{is_some, is_ok}
use Rattle.std.specs.Result.{result_ok}
use Rattle.std.proofs.lemmas.List.{append-nil}
use Rattle.base_fields.specs.Names.{is_game_name, joined_name}
use Rattle.base_fields.proofs.NameLaws.{joined_none, joined_some}

-- a lawful front and word are joined
pub joined_front : (front word : List ℕ) → 0 < length word → is_game_name (front ++ word) ≡ true
    → joined_name front word [] ≡ Some (front ++ word)
joined_front front word some lawful =
    subst (λ (whole : List ℕ). is_game_name whole ≡ true → joined_name front word [] ≡ Some whole)
    (ap (λ (rest : List ℕ). front ++ rest) (append-nil word))
    (λ is. joined_some front word [] (λ none. absurd (omega (arith, none, some))) is) lawful

-- a front and a word are joined exactly where they are lawful
pub joined_tells : {E : Type 0} (front word : List ℕ) (result : Result (List ℕ) E) → 0 < length word → joined_name front word [] ≡ result_ok result
    → is_ok result ≡ is_game_name (front ++ word)
joined_tells {E} front word result some is = by (is_game_name (front ++ word)) refl where
  told : (r : Result (List ℕ) E) (o : Option (List ℕ)) → o ≡ result_ok r → is_ok r ≡ is_some o
  told (Ok name) o h = rw h refl
  told (Err e) o h = rw h refl

  by : (lawful : Bool) → is_game_name (front ++ word) ≡ lawful → is_ok result ≡ lawful
  by true lawful = told result _ is ∙ ap is_some (joined_front front word some lawful)
  by false lawful =
      let whole : front ++ (word ++ []) ≡ front ++ word = ap (λ (rest : List ℕ). front ++ rest) (append-nil word) in
      told result _ is ∙ ap is_some (joined_none front word [] (ap is_game_name whole ∙ lawful))

pub ruleset naming = (joined_front, joined_tells)
