-- What the definitions give at words that tell.
use Rattle.std.proofs.Common.{◌≡◌, ℕ, true, false, pos, negsuc, List, [], ◌∷◌, replicate, Some, None, codes, refl}
use Rattle.base_fields.specs.Faults.{first_fault}
use Rattle.base_fields.specs.Fields.{u16_in, i16_in, u32_in, i32_in, u32_bytes, with_field}
use Rattle.base_fields.specs.Names.{is_game_name, lawful_name, base_of}
use Rattle.base_fields.specs.Numbers.{is_number_word, number_of}

-- lawful names
abbrev is_name : List ℕ → Type 0
is_name word = lawful_name word ≡ Some word

plain : is_name (codes "a")
unfolding is_game_name
plain = refl

empty_part : is_name (codes "a//b")
unfolding is_game_name
empty_part = refl

one_dot : is_name (codes "./a")
unfolding is_game_name
one_dot = refl

two_dots_and_more : is_name (codes "..a")
unfolding is_game_name
two_dots_and_more = refl

slash_at_the_end : is_name (codes "a/")
unfolding is_game_name
slash_at_the_end = refl

longest : is_name (replicate 63 97)
unfolding is_game_name
longest = refl

-- words that are no names
abbrev is_no_name : List ℕ → Type 0
is_no_name word = lawful_name word ≡ None

empty : is_no_name (codes "")
unfolding is_game_name
empty = refl

too_long : is_no_name (replicate 64 97)
unfolding is_game_name
too_long = refl

up_alone : is_no_name (codes "..")
unfolding is_game_name
up_alone = refl

up_first : is_no_name (codes "../a")
unfolding is_game_name
up_first = refl

up_last : is_no_name (codes "a/..")
unfolding is_game_name
up_last = refl

up_between : is_no_name (codes "a/../b")
unfolding is_game_name
up_between = refl

slash_first : is_no_name (codes "/a")
unfolding is_game_name
slash_first = refl

colon : is_no_name (codes "c:a")
unfolding is_game_name
colon = refl

backslash : is_no_name (97 ∷ 92 ∷ 98 ∷ [])
unfolding is_game_name
backslash = refl

zero_byte : is_no_name (97 ∷ 0 ∷ [])
unfolding is_game_name
zero_byte = refl

past_printable : is_no_name (97 ∷ 127 ∷ [])
unfolding is_game_name
past_printable = refl

-- bases
base_in_folder : base_of (codes "maps/m0.bsp") ≡ codes "m0"
unfolding base_of
base_in_folder = refl

base_of_bare_ending : base_of (codes ".cfg") ≡ codes "?"
unfolding base_of
base_of_bare_ending = refl

base_of_folder : base_of (codes "a/") ≡ codes "?"
unfolding base_of
base_of_folder = refl

base_at_first_dot : base_of (codes "a.b.c") ≡ codes "a"
unfolding base_of
base_at_first_dot = refl

base_of_dotted_folder : base_of (codes "x/y.z/w.v") ≡ codes "w"
unfolding base_of
base_of_dotted_folder = refl

-- numbers
leading_zeros : number_of (codes "007") ≡ Some 7
unfolding is_number_word
leading_zeros = refl

nine_digits : number_of (codes "999999999") ≡ Some 999999999
unfolding is_number_word
nine_digits = refl

no_digit : number_of (codes "") ≡ None
unfolding is_number_word
no_digit = refl

ten_digits : number_of (codes "0000000001") ≡ None
unfolding is_number_word
ten_digits = refl

letter : number_of (codes "1a") ≡ None
unfolding is_number_word
letter = refl

sign : number_of (codes "+5") ≡ None
unfolding is_number_word
sign = refl

-- numbers in bytes
abbrev some_bytes : List ℕ
some_bytes = 1 ∷ 2 ∷ 3 ∷ 4 ∷ 255 ∷ 255 ∷ 255 ∷ 128 ∷ []

low_byte_first : u32_in some_bytes 0 ≡ 0x04030201
unfolding u32_in
low_byte_first = refl

two_bytes : u16_in some_bytes 1 ≡ 0x0302
unfolding u16_in
two_bytes = refl

all_ones : i16_in some_bytes 4 ≡ negsuc 0
unfolding u16_in
all_ones = refl

below_the_sign : i32_in some_bytes 0 ≡ pos 0x04030201
unfolding u32_in
below_the_sign = refl

put_in_the_middle : with_field some_bytes 2 (u32_bytes 0x0a0b0c0d) ≡ 1 ∷ 2 ∷ 13 ∷ 12 ∷ 11 ∷ 10 ∷ 255 ∷ 128 ∷ []
put_in_the_middle = refl

-- the first test that is true counts
first_of_two : first_fault {F = ℕ} ((false, 1) ∷ (true, 2) ∷ (true, 3) ∷ []) ≡ Some 2
first_of_two = refl

no_fault : first_fault {F = ℕ} ((false, 1) ∷ (false, 2) ∷ []) ≡ None
no_fault = refl
