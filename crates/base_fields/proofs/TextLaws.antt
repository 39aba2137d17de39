-- What the bytes before a text's first zero are.
use Rattle.std.proofs.Common.{◌≡◌, ◌≢◌, ℕ, ◌<◌, ◌≤◌, false, ◌==◌, All, List, ◌∷◌, ◌++◌, length, get_or, refl, sym, ap, ◌∙◌, arith}
use Rattle.std.specs.List.{position_or_len}
use Rattle.std.proofs.lemmas.Bool.Decides.{nat_tests}
use Rattle.std.proofs.lemmas.List.{length-take, length-append, take_at, take_all, get_or-take, get_or_append_left, get_or_at}
use Rattle.std.proofs.lemmas.List.Elements.{All-from_get_or, All-same}
use Rattle.std.proofs.lemmas.List.Sums.{fails_before_first}
use Rattle.base_fields.specs.Texts.{until_zero}
use Rattle.base_fields.proofs.Cuts.{before_first_is}

-- they are no more than all
pub length_until_zero : (bytes : List ℕ) → length (until_zero bytes) ≤ length bytes
length_until_zero bytes = omega (arith, length-take (position_or_len (λ byte. byte == 0) bytes) bytes)

-- none of them is zero
pub text_until_zero : (bytes : List ℕ) → All (λ c. c ≢ 0) (until_zero bytes)
text_until_zero bytes =
    let end = position_or_len (λ byte. byte == 0) bytes in
    All-from_get_or (λ c. c ≢ 0) (until_zero bytes) 0 (λ k within.
    let before : k < end = omega (arith, within, length-take end bytes) in
    let other : (get_or bytes k 0 == 0) ≡ false = fails_before_first (λ byte. byte == 0) bytes k 0 before in
    let same : get_or (until_zero bytes) k 0 ≡ get_or bytes k 0 = get_or-take end bytes k 0 before in
    grind (arith, nat_tests, other, same))

-- bytes that are those before a zero have none
pub text_from_until_zero : (text bytes : List ℕ) → text ≡ until_zero bytes → All (λ c. c ≢ 0) text
text_from_until_zero text bytes are = All-same (λ c. c ≢ 0) text (until_zero bytes) are (text_until_zero bytes)

-- a byte that isn't zero fails the test for zero
other_byte : (byte : ℕ) → byte ≢ 0 → (byte == 0) ≡ false
other_byte byte other = grind (arith, nat_tests)

-- a text with a zero behind it ends there, whatever follows
pub until_zero_of_ended : (text rest : List ℕ) → All (λ c. c ≢ 0) text → until_zero (text ++ 0 ∷ rest) ≡ text
until_zero_of_ended text rest is_text =
    let n = length text in
    let all = text ++ 0 ∷ rest in
    let most : n ≤ length all = omega (arith, length-append text (0 ∷ rest)) in
    let before : (k : ℕ) → k < n → (get_or all k 0 == 0) ≡ false =
    λ k low. rw (get_or_append_left text (0 ∷ rest) 0 k low) (other_byte (get_or text k 0) (is_text k 0 low)) in
    let at = λ (_ : n < length all). ap (λ byte. byte == 0) (get_or_at text 0 rest 0 n refl) in
    sym (before_first_is (λ byte. byte == 0) all n most before at) ∙ take_at text (0 ∷ rest) n refl

-- a text alone is all of it
pub until_zero_of_text : (text : List ℕ) → All (λ c. c ≢ 0) text → until_zero text ≡ text
until_zero_of_text text is_text =
    let before = λ (k : ℕ) (low : k < length text). other_byte (get_or text k 0) (is_text k 0 low) in
    sym (before_first_is (λ byte. byte == 0) text (length text) (omega arith) before (λ past. absurd (omega arith)))
    ∙ take_all (length text) text (omega arith)
