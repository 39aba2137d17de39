-- Words, one after another.
use Rattle.std.proofs.Common.{◌≡◌, ℕ, ◌+◌, List, [], ◌∷◌, length, drop, Some, None, refl, ap, arith}
use Rattle.std.specs.Prelude.{slice_get}
use Rattle.cmd_buffer.specs.Words.{letters_in}

-- the first word, and those behind it
pub words_split : (words : List (List ℕ)) (word : List ℕ) → Some word ≡ slice_get words 0 → words ≡ word ∷ drop 1 words
words_split [] word is = cc
words_split (first ∷ words) word is = cc

pub words_end : (words : List (List ℕ)) → None ≡ slice_get words 0 → words ≡ []
words_end [] is = refl
words_end (first ∷ words) is = cc

-- what the two have together
pub letters_split : (words : List (List ℕ)) (word : List ℕ) → Some word ≡ slice_get words 0 → letters_in words ≡ length word + letters_in (drop 1 words)
letters_split words word is = ap letters_in (words_split words word is)

pub length_split : (words : List (List ℕ)) (word : List ℕ) → Some word ≡ slice_get words 0 → length words ≡ 1 + length (drop 1 words)
length_split words word is = omega (arith, ap length (words_split words word is))
