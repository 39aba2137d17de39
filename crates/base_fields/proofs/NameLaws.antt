-- What a lawful name has.
use Rattle.std.proofs.Common.{◌≡◌, ◌≢◌, ℕ, ◌<◌, ◌≤◌, Bool, true, false, not, ◌&&◌, ◌==◌, nat_le, nat_eq, cond, All, List, [], ◌∷◌, ◌++◌, ◌+◌, length, length-append, codes, Some, None, refl, lit<, lit≤, arith}
use Rattle.std.specs.List.{list_all, starts_with}
use Rattle.std.proofs.lemmas.Bool.{and_parts}
use Rattle.std.proofs.lemmas.Bool.Decides.{nat_tests}
use Rattle.std.proofs.lemmas.List.Elements.{All-weaker, All-take, All-drop, All-nil, All-cons}
use Rattle.std.proofs.lemmas.List.{append_assoc}
use Rattle.std.proofs.lemmas.List.Sums.{AllPass-from_list_all}
use Rattle.std.proofs.lemmas.Grind.{common_steps}
use Rattle.base_fields.specs.Names.{is_name_byte, steps_up, is_game_name, lawful_name, joined_name, stem_of, base_of}

-- a lawful name passes each of the tests
pub tests_from_name : (word : List ℕ) → is_game_name word ≡ true → ((nat_le 1 (length word) && nat_le (length word) 63) ≡ true) × (list_all is_name_byte word ≡ true) × (not (starts_with nat_eq word (codes "/")) ≡ true) × (not (steps_up word) ≡ true)
unfolding is_game_name
tests_from_name word is =
    let front = and_parts _ _ is in
    let middle = and_parts _ _ front.0 in
    let first = and_parts _ _ middle.0 in
    (first.0, first.1, middle.1, front.1)

-- a lawful name has 1 to 63 bytes
pub length_from_name : (word : List ℕ) → is_game_name word ≡ true → (0 < length word) × (length word ≤ 63)
length_from_name word is = let sized = (tests_from_name word is).0 in grind (arith, nat_tests, sized)

-- more than 63 bytes are none
pub no_long_name : (word : List ℕ) → 63 < length word → is_game_name word ≡ false
no_long_name word long = by (is_game_name word) refl
  where
    by : (b : Bool) → is_game_name word ≡ b → is_game_name word ≡ false
    by true is = absurd (omega (arith, long, (length_from_name word is).1))
    by false is = is

-- bytes that are no lawful name don't become one where they are put together, and an empty word becomes none
pub joined_none : (front word back : List ℕ) → is_game_name (front ++ (word ++ back)) ≡ false → joined_name front word back ≡ None
joined_none front [] back is = refl
joined_none front (byte ∷ word) back is = rw is

pub joined_empty : (front word back : List ℕ) → length word ≡ 0 → joined_name front word back ≡ None
joined_empty front [] back none = refl
joined_empty front (byte ∷ word) back none = absurd (omega (arith, none))

pub joined_long : (front word back : List ℕ) → 63 < length front + length word + length back → joined_name front word back ≡ None
joined_long front word back long = joined_none front word back (no_long_name (front ++ (word ++ back)) (omega (arith, long, length-append front (word ++ back), length-append word back)))

pub joined_past : (front word back : List ℕ) → 63 < length (front ++ word) + length back → joined_name front word back ≡ None
joined_past front word back long = joined_long front word back (omega (arith, long, length-append front word))

pub joined_some : (front word back : List ℕ) → (length word ≡ 0 → ⊥) → is_game_name (front ++ (word ++ back)) ≡ true → joined_name front word back ≡ Some (front ++ (word ++ back))
joined_some front [] back some is = absurd (some refl)
joined_some front (byte ∷ word) back some is = rw is

pub ruleset joining = (joined_none, joined_empty, joined_long, joined_past, joined_some, length_from_name, append_assoc)

-- no byte of a name is zero
some_byte : (byte : ℕ) → is_name_byte byte ≡ true → byte ≢ 0
some_byte byte is = grind (arith, nat_tests)

-- a lawful name has no zero byte
pub text_from_name : (word : List ℕ) → is_game_name word ≡ true → All (λ c. c ≢ 0) word
text_from_name word is =
    All-weaker (λ byte. is_name_byte byte ≡ true) (λ c. c ≢ 0) some_byte word (AllPass-from_list_all is_name_byte word (tests_from_name word is).1)

-- what `lawful_name` gives, both ways
pub lawful_name_yes : (word : List ℕ) → is_game_name word ≡ true → lawful_name word ≡ Some word
lawful_name_yes word is = rw is

pub lawful_name_no : (word : List ℕ) → is_game_name word ≡ false → lawful_name word ≡ None
lawful_name_no word is = rw is

-- the name that a word is taken as is that word, and passes the test
pub name_from_lawful : (word name : List ℕ) → lawful_name word ≡ Some name → (name ≡ word) × (is_game_name name ≡ true)
name_from_lawful word name taken_as = taken (is_game_name word) refl
  where
    taken : (b : Bool) → is_game_name word ≡ b → (name ≡ word) × (is_game_name name ≡ true)
    taken true is = let same : name ≡ word = cc in (same, cc)
    taken false is = cc

-- the stem or `?`, whichever is taken, has 1 to 63 bytes and no zero byte
sized_either : (b : Bool) (stem : List ℕ) → (length stem == 0) ≡ b → length stem ≤ 63 → (0 < length (cond b (codes "?") stem)) × (length (cond b (codes "?") stem) ≤ 63)
sized_either true stem is most = (lit< tt, lit≤ tt)
sized_either false stem is most = (grind (arith, nat_tests, is), most)

text_either : (b : Bool) (stem : List ℕ) → All (λ c. c ≢ 0) stem → All (λ c. c ≢ 0) (cond b (codes "?") stem)
text_either true stem text = All-cons (λ c. c ≢ 0) 63 [] (omega arith) (All-nil (λ c. c ≢ 0))
text_either false stem text = text

-- a lawful name's base has 1 to 63 bytes
pub length_from_base : (word : List ℕ) → is_game_name word ≡ true → (0 < length (base_of word)) × (length (base_of word) ≤ 63)
unfolding base_of
length_from_base word is =
    let most : length (stem_of word) ≤ 63 = grind (arith, common_steps, length_from_name word is) in
    sized_either (length (stem_of word) == 0) (stem_of word) refl most

-- and none of them is zero
pub text_from_base : (word : List ℕ) → is_game_name word ≡ true → All (λ c. c ≢ 0) (base_of word)
unfolding base_of
text_from_base word is =
    text_either (length (stem_of word) == 0) (stem_of word) (All-take (λ c. c ≢ 0) _ _ (All-drop (λ c. c ≢ 0) _ word (text_from_name word is)))
