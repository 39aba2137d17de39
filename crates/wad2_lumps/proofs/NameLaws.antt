-- What a cleaned name is.
use Rattle.std.proofs.Common.{◌≡◌, ◌≢◌, ℕ, ◌≤◌, All, List, [], ◌∷◌, length, take, refl, sym, ap, ◌∙◌, arith}
use Rattle.std.specs.Char.{to_ascii_lowercase}
use Rattle.std.specs.Str.{str_to_ascii_lowercase}
use Rattle.std.proofs.lemmas.Bool.Decides.{nat_tests}
use Rattle.std.proofs.lemmas.List.{length-map, length-take, take_all}
use Rattle.std.proofs.lemmas.List.Elements.{All-map, All-weaker}
use Rattle.std.proofs.lemmas.Str.Ascii.{lowercase-lowercase}
use Rattle.base_fields.specs.Texts.{until_zero}
use Rattle.base_fields.proofs.TextLaws.{length_until_zero, text_until_zero, until_zero_of_text}
use Rattle.wad2_lumps.specs.Names.{cleaned}

-- lower case has no new zero
lower_text : (c : ℕ) → c ≢ 0 → to_ascii_lowercase c ≢ 0
lower_text c other = grind (arith, nat_tests)

lower-lower : (name : List ℕ) → str_to_ascii_lowercase (str_to_ascii_lowercase name) ≡ str_to_ascii_lowercase name
lower-lower [] = refl
lower-lower (c ∷ name) = cc (lowercase-lowercase c, lower-lower name)

-- it has no zero
pub text_cleaned : (name : List ℕ) → All (λ c. c ≢ 0) (cleaned name)
text_cleaned name =
    let cut = until_zero (take 16 name) in
    All-map (λ c. c ≢ 0) to_ascii_lowercase cut
    (All-weaker (λ c. c ≢ 0) (λ c. to_ascii_lowercase c ≢ 0) lower_text cut (text_until_zero (take 16 name)))

-- it has 16 bytes at most
pub length-cleaned : (name : List ℕ) → length (cleaned name) ≤ 16
length-cleaned name =
    let cut = until_zero (take 16 name) in
    omega (arith, length-map cut to_ascii_lowercase, length_until_zero (take 16 name), length-take 16 name)

-- it is clean
pub cleaned-cleaned : (name : List ℕ) → cleaned (cleaned name) ≡ cleaned name
cleaned-cleaned name =
    let whole : take 16 (cleaned name) ≡ cleaned name = take_all 16 (cleaned name) (length-cleaned name) in
    let text : until_zero (cleaned name) ≡ cleaned name = until_zero_of_text (cleaned name) (text_cleaned name) in
    ap str_to_ascii_lowercase (ap until_zero whole ∙ text) ∙ lower-lower (until_zero (take 16 name))

-- what is its own cleaned name has no zero
pub text_from_clean : (name : List ℕ) → cleaned name ≡ name → All (λ c. c ≢ 0) name
text_from_clean name same = rw (sym same) (text_cleaned name)
