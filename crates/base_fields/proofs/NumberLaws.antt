-- What a number's word has.
use Rattle.std.proofs.Common.{◌≡◌, ℕ, ◌^◌, ◌<◌, ◌≤◌, Bool, true, false, ◌&&◌, Some, subst, nat_le, List, length, Result, Ok, refl, arith, rules}
use Rattle.std.specs.Char.{is_ascii_digit}
use Rattle.std.specs.List.{list_all}
use Rattle.std.specs.Str.{IsUtf8}
use Rattle.std.specs.Str.Parse.{digits_value, ParsesUnsigned}
use Rattle.std.proofs.lemmas.Bool.{and_parts}
use Rattle.std.proofs.lemmas.Bool.Decides.{nat_tests}
use Rattle.std.proofs.lemmas.List.Elements.{All-weaker}
use Rattle.std.proofs.lemmas.List.Sums.{AllPass-from_list_all}
use Rattle.std.proofs.lemmas.Str.{IsUtf8-from_ascii}
use Rattle.std.proofs.lemmas.Str.Ascii.{IsAscii-from_all}
use Rattle.std.proofs.lemmas.Str.Parse.{IsNumeralModel, numerals_by_value, parse_gives, digits_value_short}
use Rattle.base_fields.specs.Numbers.{is_number_word, number_of}

-- such a word has 1 to 9 bytes, each a digit
pub tests_from_number : (word : List ℕ) → is_number_word word ≡ true → (0 < length word) × (length word ≤ 9) × (list_all is_ascii_digit word ≡ true)
unfolding is_number_word
tests_from_number word is =
    let sized = and_parts (nat_le 1 (length word) && nat_le (length word) 9) (list_all is_ascii_digit word) is in
    (grind (arith, nat_tests, sized.0), grind (arith, nat_tests, sized.0), sized.1)

-- this crate's words for digits and their value, for the lemmas on `parse`
own : IsNumeralModel (λ ds. list_all is_ascii_digit ds ≡ true) (digits_value 10)
own = numerals_by_value _ (search rules)

-- nine digits are below a thousand million
pub small_from_number : (word : List ℕ) → is_number_word word ≡ true → digits_value 10 word < 10 ^ 9
small_from_number word is =
    let has = tests_from_number word is in digits_value_short own word 9 has.2 has.1

-- `parse` reads such a word
pub parse_from_number : {E : Type 0} (word : List ℕ) (r : Result ℕ E) → ParsesUnsigned 32 10 word r → is_number_word word ≡ true → r ≡ Ok (digits_value 10 word)
parse_from_number word r parsed is =
    let has = tests_from_number word is in
    let small = small_from_number word is in
    parse_gives own 32 word r parsed has.2 has.0 (omega arith)

-- a digit is ASCII
low : (byte : ℕ) → is_ascii_digit byte ≡ true → byte < 128
low byte is = grind (arith, nat_tests)

-- such a word is text
pub text_from_number : (word : List ℕ) → is_number_word word ≡ true → IsUtf8 word
text_from_number word is =
    IsUtf8-from_ascii word (IsAscii-from_all word (All-weaker (λ byte. is_ascii_digit byte ≡ true) (λ c. c < 128) low word (AllPass-from_list_all is_ascii_digit word (tests_from_number word is).2)))

-- the number of a word is below a thousand million
pub small_from_number_of : (word : List ℕ) (n : ℕ) → number_of word ≡ Some n → n < 10 ^ 9
small_from_number_of word n is = read (is_number_word word) refl
  where
    read : (b : Bool) → is_number_word word ≡ b → n < 10 ^ 9
    read true passes = let value : digits_value 10 word ≡ n = cc in subst (λ (m : ℕ). m < 10 ^ 9) value (small_from_number word passes)
    read false passes = cc
