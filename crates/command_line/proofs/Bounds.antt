-- The words as their bytes, and the bounds of what they ask for.
use Rattle.std.proofs.Common.{◌≡◌, ℕ, ◌+◌, ◌*◌, ◌<◌, ◌≤◌, Bool, true, false, List, [], ◌∷◌, ◌++◌, length, take, map, get_or, All, count_by, refl, sym, ap, subst, ◌∙◌, lit≤, arith}
use Rattle.std.specs.List.{flat_map}
use Rattle.std.proofs.lemmas.List.{take-map, map_more, length-append}
use Rattle.std.proofs.lemmas.List.Elements.{All-head, All-tail}
use Rattle.std.proofs.lemmas.List.Sums.{sum_by-cons}
use Rattle.command_line.specs.declared.reading.Quantity.{Quantity}
use Rattle.command_line.specs.declared.reading.Quantity.TheVariants.{Heap, Zone, Speed}
use Rattle.command_line.specs.declared.words.Request.{Request}
use Rattle.command_line.specs.CommandLine.{least_of, greatest_of, default_of, Setting, IsSetting, option_words, sets, given_or, asked, IsAsked}
use Rattle.command_line.proofs.Readings.{weight}
use Rattle.command_line.proofs.Takes.{own_quantity}
use Rattle.command_line.proofs.Finishes.{length_options}

-- the bytes of one word more
pub next_word : {X : Type 0} (bytes_of : X → List ℕ) (words : List X) (number : ℕ) (word : X) (bytes : List ℕ) → number < length words → word ≡ get_or words number word → bytes ≡ bytes_of word → take (number + 1) (map bytes_of words) ≡ take number (map bytes_of words) ++ bytes ∷ []
next_word bytes_of words number word bytes inside is same =
    take-map bytes_of (number + 1) words
    ∙ map_more bytes_of words number word inside
    ∙ ap (λ w. map bytes_of (take number words) ++ w ∷ []) (sym (same ∙ ap bytes_of is))
    ∙ ap (λ w. w ++ bytes ∷ []) (sym (take-map bytes_of number words))

-- what the options give a quantity lies in its range
pub record InRange (quantity : Quantity) (n : ℕ) : Type 0 where
  pub least : least_of quantity ≤ n
  pub most : n ≤ greatest_of quantity

default_in_range : (quantity : Quantity) → InRange quantity (default_of quantity)
default_in_range Heap = record { least = lit≤ tt; most = lit≤ tt }
default_in_range Zone = record { least = lit≤ tt; most = lit≤ tt }
default_in_range Speed = record { least = lit≤ tt; most = lit≤ tt }

given_in_range : (quantity : Quantity) (settings : List Setting) → All IsSetting settings → InRange quantity (given_or quantity settings)
given_in_range quantity [] all = default_in_range quantity
given_in_range quantity (s ∷ settings) all = by (sets quantity s) refl (given_in_range quantity settings (All-tail IsSetting s settings all))
  where
    by : (b : Bool) → sets quantity s ≡ b → InRange quantity (given_or quantity settings) → InRange quantity (given_or quantity (s ∷ settings))
    by true is later =
        let own = All-head IsSetting s settings all in
        let here : InRange quantity s.number = subst (λ q. InRange q s.number) (own_quantity s.quantity quantity is) (record { least = own.least; most = own.greatest }) in
        rw is here
    by false is later = rw is later

pub record AreInRange (request : Request) : Type 0 where
  pub heap : InRange Heap request.heap
  pub zone : InRange Zone request.zone
  pub speed : InRange Speed request.speed

pub ranges_from_asked : (words : List (List ℕ)) (most : ℕ) (request : Request) → IsAsked words most request → AreInRange request
ranges_from_asked words most request a = subst (λ r. AreInRange r) (sym a.asks) (record {
  heap = given_in_range Heap a.settings a.line.lawful;
  zone = given_in_range Zone a.settings a.line.lawful;
  speed = given_in_range Speed a.settings a.line.lawful;
})

-- there are three options at most
length_settings : (settings : List Setting) → length settings ≡ count_by (sets Heap) settings + count_by (sets Zone) settings + count_by (sets Speed) settings
length_settings [] = refl
length_settings (s ∷ settings) = by s.quantity refl (length_settings settings)
  where
    by : (quantity : Quantity) → s.quantity ≡ quantity → length settings ≡ count_by (sets Heap) settings + count_by (sets Zone) settings + count_by (sets Speed) settings → length (s ∷ settings) ≡ count_by (sets Heap) (s ∷ settings) + count_by (sets Zone) (s ∷ settings) + count_by (sets Speed) (s ∷ settings)
    by quantity is later = omega (arith, later, sum_by-cons (weight Heap) s settings, sum_by-cons (weight Zone) s settings, sum_by-cons (weight Speed) s settings, one_of quantity is)
      where
        one_of : (quantity : Quantity) → s.quantity ≡ quantity → weight Heap s + weight Zone s + weight Speed s ≡ 1
        one_of Heap is = rw is refl
        one_of Zone is = rw is refl
        one_of Speed is = rw is refl

pub first_from_asked : (words : List (List ℕ)) (most : ℕ) (request : Request) → IsAsked words most request → request.first ≤ 6
first_from_asked words most request a =
    let first : 2 * length a.settings ≤ 6 = omega (arith, length_settings a.settings, a.line.once Heap, a.line.once Zone, a.line.once Speed) in
    subst (λ (r : Request). r.first ≤ 6) (sym a.asks) first

-- the folder words are the last ones, and there are 1 to `most` of them
pub record Counted (count most : ℕ) (request : Request) : Type 0 where
  pub all : request.first + request.folders ≡ count
  pub some : 1 ≤ request.folders
  pub few : request.folders ≤ most

pub counted_from_asked : (words : List (List ℕ)) (most : ℕ) (request : Request) (count : ℕ) → length words ≡ count → IsAsked words most request → Counted count most request
counted_from_asked words most request count counted a =
    let all : 2 * length a.settings + length a.folders ≡ count =
    omega (arith, counted, ap length a.line.joined, length-append (flat_map option_words a.settings) a.folders, length_options a.settings) in
    let counts : Counted count most (asked a.settings a.folders) = record { all = all; some = a.line.some; few = a.line.few } in
    subst (λ r. Counted count most r) (sym a.asks) counts
