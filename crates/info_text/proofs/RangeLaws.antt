-- Texts of numbers that follow each other.
use Rattle.std.proofs.Common.{◌≡◌, ℕ, suc, ◌+◌, ◌-◌, ◌<◌, ◌≤◌, List, [], ◌++◌, refl, arith}
use Rattle.std.specs.List.{flat_map, range_with_len}

-- those of the numbers from i on, below n
abbrev pub texts_from : (ℕ → List ℕ) → (n i : ℕ) → List ℕ
texts_from text n i = flat_map text (range_with_len i (n - i))

-- the text of i, and then the others
pub next_text : (text : ℕ → List ℕ) (n i : ℕ) → i < n → texts_from text n i ≡ text i ++ texts_from text n (i + 1)
next_text text n i lt =
    let left : n - i ≡ suc (n - (i + 1)) = omega arith in
    rw left refl

-- past the last there is none
pub no_text : (text : ℕ → List ℕ) (n i : ℕ) → n ≤ i → texts_from text n i ≡ []
no_text text n i le =
    let left : n - i ≡ 0 = omega arith in
    rw left refl
