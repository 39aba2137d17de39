-- An image line by line.
use Rattle.std.proofs.Common.{◌≡◌, ℕ, zero, suc, ◌+◌, ◌*◌, ◌/◌, ◌<◌, min, List, [], ◌∷◌, ◌++◌, length, take, drop, codes, refl, sym, ap, ◌∙◌, arith, length-append, inl, inr}
use Rattle.std.proofs.lemmas.Bool.{cases_lt}
use Rattle.std.proofs.lemmas.List.{append_assoc, append-nil, nil_from_length, take_all, drop_all, drop-drop, take-append-le, drop-append-le}
use Rattle.std.specs.List.{flat_map, range_with_len}
use Rattle.hex.specs.Hex.{encode_lower, encode_with}
use Rattle.info_text.specs.Dumps.{hex_line, line_at, hex_lines}

-- the texts of n numbers from a + 1 on are those that another function has from a on
shifted : (f g : ℕ → List ℕ) → ((i : ℕ) → f (i + 1) ≡ g i) → (a n : ℕ)
    → flat_map f (range_with_len (a + 1) n) ≡ flat_map g (range_with_len a n)
shifted f g same a zero = refl
shifted f g same a (suc n) = rw (same a, shifted f g same (a + 1) n) refl

-- a cut is 32 bytes, or the last
module _ (all bytes rest : List ℕ) (parts : all ≡ bytes ++ rest) (size : length bytes ≡ min 32 (length all)) where
  cut : (take 32 all ≡ bytes) × (drop 32 all ≡ rest)
  cut =
      let sum = ap length parts ∙ length-append bytes rest in
      elim (cases_lt (length all) 32) [
        | inl short ↦
            let none : rest ≡ [] = nil_from_length rest (omega arith) in
            let whole : all ≡ bytes = parts ∙ ap (λ (r : List ℕ). bytes ++ r) none ∙ append-nil bytes in
            (take_all 32 all (omega arith) ∙ whole, drop_all 32 all (omega arith) ∙ sym none)
        | inr long ↦ (
          ap (take 32) parts ∙ take-append-le 32 bytes rest (omega arith) ∙ take_all 32 bytes (omega arith),
          ap (drop 32) parts ∙ drop-append-le 32 bytes rest (omega arith)
              ∙ ap (λ (l : List ℕ). l ++ rest) (drop_all 32 bytes (omega arith)),
        )
      ]

  count : 0 < length all → (length all + 31) / 32 ≡ suc ((length rest + 31) / 32)
  count some = let sum = ap length parts ∙ length-append bytes rest in omega arith

  later : (i : ℕ) → line_at all (i + 1) ≡ line_at rest i
  later i =
      let at : 32 * (i + 1) ≡ 32 + 32 * i = omega arith in
      ap (λ (l : List ℕ). hex_line (take 32 l))
      (ap (λ (k : ℕ). drop k all) at ∙ sym (drop-drop (32 * i) 32 all) ∙ ap (drop (32 * i)) cut.1)

  -- the first line has these bytes, and the others the rest
  pub next_line : 0 < length all → hex_lines all ≡ hex_line bytes ++ hex_lines rest
  next_line some =
      ap (λ (n : ℕ). flat_map (line_at all) (range_with_len 0 n)) (count some)
      ∙ rw (cut.0, shifted (line_at all) (line_at rest) later 0 ((length rest + 31) / 32)) refl

-- the digits of bytes and then of others
pub encode_append : (bytes rest : List ℕ) → encode_lower (bytes ++ rest) ≡ encode_lower bytes ++ encode_lower rest
unfolding encode_with
encode_append [] rest = refl
encode_append (byte ∷ bytes) rest = rw (encode_append bytes rest) refl

-- a line of bytes and then of others has the digits of the first, and then is the line of the others
pub line_append : (bytes rest : List ℕ) → hex_line (bytes ++ rest) ≡ encode_lower bytes ++ hex_line rest
line_append bytes rest = rw (encode_append bytes rest, append_assoc) refl

-- that of no bytes
pub empty_line : hex_line [] ≡ codes "\n"
unfolding encode_with
empty_line = refl
