-- The walk over the chunks.
use Rattle.std.proofs.Common.{◌≡◌, ℕ, zero, suc, ◌+◌, ◌-◌, ◌≤◌, Bool, true, false, cond, List, [], ◌∷◌, length, codes}
use Rattle.std.proofs.Common.{Option, Some, None, refl, sym, ap, ◌∙◌, arith}
use Rattle.std.specs.Prelude.{IfSome, option_and_then, is_none}
use Rattle.std.specs.List.{find, AllByRecursion}
use Rattle.std.specs.Option.{option_or}
use Rattle.std.proofs.lemmas.Bool.Decides.{nat_tests}
use Rattle.wav_load.specs.declared.chunks.Places.{Places}
use Rattle.wav_load.specs.Chunks.{stands, is_chunk, behind, chunks_within, chunks_from, first_chunk, places_in, named}
use Rattle.wav_load.specs.Chunks.{noted, AreInside}

further : (bytes : List ℕ) (p : ℕ) → p + 8 ≤ behind bytes p
unfolding behind
further bytes p = omega arith

no_chunk : (bytes : List ℕ) (p : ℕ) → length bytes ≤ p → is_chunk bytes p ≡ false
unfolding is_chunk
no_chunk bytes p past = grind (arith, nat_tests)

chunk_inside : (bytes : List ℕ) (p : ℕ) → is_chunk bytes p ≡ true → p + 8 ≤ length bytes
unfolding is_chunk
chunk_inside bytes p is = grind (arith, nat_tests)

-- more turns than there are bytes behind the place give no more chunks
enough : (n m : ℕ) (bytes : List ℕ) (p : ℕ) → length bytes ≤ p + n → length bytes ≤ p + m
    → chunks_within n bytes p ≡ chunks_within m bytes p
unfolding chunks_within
enough zero zero bytes p a b = refl
enough zero (suc m) bytes p a b = rw (no_chunk bytes p (omega arith)) refl
enough (suc n) zero bytes p a b = rw (no_chunk bytes p (omega arith)) refl
enough (suc n) (suc m) bytes p a b =
    ap (λ (ps : List ℕ). cond (is_chunk bytes p) (p ∷ ps) [])
    (enough n m bytes (behind bytes p) (omega (arith, further bytes p)) (omega (arith, further bytes p)))

chunk_turn : (n k : ℕ) (bytes : List ℕ) (p : ℕ) → n ≡ suc k → is_chunk bytes p ≡ true
    → chunks_within n bytes p ≡ p ∷ chunks_within k bytes (behind bytes p)
unfolding chunks_within
chunk_turn n k bytes p is_suc is = rw (is_suc, is) refl

-- a place with a chunk is the first, and those behind it follow
pub chunks_from-chunk : (bytes : List ℕ) (p : ℕ) → is_chunk bytes p ≡ true
    → chunks_from bytes p ≡ p ∷ chunks_from bytes (behind bytes p)
unfolding chunks_from
chunks_from-chunk bytes p is =
    let inside = chunk_inside bytes p is in
    let k = length bytes - 1 in
    chunk_turn (length bytes) k bytes p (omega arith) is
    ∙ ap (λ (ps : List ℕ). p ∷ ps)
    (enough k (length bytes) bytes (behind bytes p) (omega (arith, further bytes p)) (omega arith))

-- a place with none ends them
pub chunks_from-end : (bytes : List ℕ) (p : ℕ) → is_chunk bytes p ≡ false → chunks_from bytes p ≡ []
unfolding chunks_from chunks_within
chunks_from-end bytes p none =
    let turn : chunks_within (suc (length bytes)) bytes p ≡ [] = rw none refl in
    enough (length bytes) (suc (length bytes)) bytes p (omega arith) (omega arith) ∙ turn

first_chunk-chunk : (bytes name : List ℕ) (p : ℕ) → is_chunk bytes p ≡ true
    → first_chunk bytes name p ≡ cond (stands bytes name p) (Some p) (first_chunk bytes name (behind bytes p))
unfolding first_chunk
first_chunk-chunk bytes name p is = ap (find (stands bytes name)) (chunks_from-chunk bytes p is)

first_chunk-end : (bytes name : List ℕ) (p : ℕ) → is_chunk bytes p ≡ false → first_chunk bytes name p ≡ None
unfolding first_chunk
first_chunk-end bytes name p none = ap (find (stands bytes name)) (chunks_from-end bytes p none)

-- what is found from a place on, with what was found before it
abbrev left : List ℕ → Option ℕ → List ℕ → ℕ → Option ℕ
left bytes found name p = option_or found (first_chunk bytes name p)

abbrev list_from : List ℕ → Option ℕ → ℕ → Option ℕ
list_from bytes None p =
    option_and_then (λ cue. first_chunk bytes (codes "LIST") (behind bytes cue)) (first_chunk bytes (codes "cue ") p)
list_from bytes (Some cue) p = first_chunk bytes (codes "LIST") p

abbrev pub ahead : List ℕ → Places → ℕ → Places
ahead bytes places p = record {
  fmt = left bytes places.fmt (codes "fmt ") p;
  cue = left bytes places.cue (codes "cue ") p;
  list = option_or places.list (list_from bytes places.cue p);
  samples = left bytes places.samples (codes "data") p;
}

left_step : (bytes name : List ℕ) (found : Option ℕ) (p : ℕ) → is_chunk bytes p ≡ true
    → left bytes (named bytes found name p) name (behind bytes p) ≡ left bytes found name p
left_step bytes name (Some q) p is = refl
left_step bytes name None p is =
    let first = first_chunk-chunk bytes name p is in
    let step : (b : Bool) → option_or (cond b (Some p) None) (first_chunk bytes name (behind bytes p)) ≡ cond b
    (Some p) (first_chunk bytes name (behind bytes p))
    = λ b. elim b as (λ v. option_or (cond v (Some p) None) (first_chunk bytes name (behind bytes p)) ≡ cond v
    (Some p) (first_chunk bytes name (behind bytes p))) [ true ↦ refl | false ↦ refl ] in
    step (stands bytes name p) ∙ sym first

list_step : (bytes : List ℕ) (cue list : Option ℕ) (p : ℕ) → is_chunk bytes p ≡ true
    → option_or (cond (is_none cue) list (named bytes list (codes "LIST") p))
    (list_from bytes (named bytes cue (codes "cue ") p) (behind bytes p)) ≡ option_or list (list_from bytes cue p)
list_step bytes (Some c) list p is = left_step bytes (codes "LIST") list p is
list_step bytes None list p is =
    let first = first_chunk-chunk bytes (codes "cue ") p is in
    let behind_cue : ℕ → Option ℕ = λ cue. first_chunk bytes (codes "LIST") (behind bytes cue) in
    let step : (b : Bool) → list_from bytes (cond b (Some p) None) (behind bytes p) ≡ option_and_then behind_cue
    (cond b (Some p) (first_chunk bytes (codes "cue ") (behind bytes p)))
    = λ b. elim b as (λ v. list_from bytes (cond v (Some p) None) (behind bytes p) ≡ option_and_then behind_cue
    (cond v (Some p) (first_chunk bytes (codes "cue ") (behind bytes p)))) [ true ↦ refl | false ↦ refl ] in
    ap (option_or list) (step (stands bytes (codes "cue ") p) ∙ ap (option_and_then behind_cue) (sym first))

abbrev places_of : Option ℕ → Option ℕ → Option ℕ → Option ℕ → Places
places_of a b c d = record { fmt = a; cue = b; list = c; samples = d }

same_places : (a b c d e f g h : Option ℕ) → a ≡ e → b ≡ f → c ≡ g → d ≡ h → places_of a b c d ≡ places_of e f g h
same_places a b c d e f g h p q r s = cc

-- a chunk that is noted is no longer ahead
pub goes_on : (bytes : List ℕ) (places total : Places) (p : ℕ) → is_chunk bytes p ≡ true
    → ahead bytes places p ≡ total → ahead bytes (noted bytes places p) (behind bytes p) ≡ total
goes_on bytes places total p is so_far =
    same_places _ _ _ _ _ _ _ _
    (left_step bytes (codes "fmt ") places.fmt p is)
    (left_step bytes (codes "cue ") places.cue p is)
    (list_step bytes places.cue places.list p is)
    (left_step bytes (codes "data") places.samples p is)
    ∙ so_far

left_end : (bytes name : List ℕ) (found : Option ℕ) (p : ℕ) → is_chunk bytes p ≡ false → left bytes found name p ≡ found
left_end bytes name (Some q) p none = refl
left_end bytes name None p none = first_chunk-end bytes name p none

list_end : (bytes : List ℕ) (cue list : Option ℕ) (p : ℕ) → is_chunk bytes p ≡ false
    → option_or list (list_from bytes cue p) ≡ list
list_end bytes (Some c) list p none = left_end bytes (codes "LIST") list p none
list_end bytes None (Some q) p none = refl
list_end bytes None None p none =
    ap (option_and_then (λ cue. first_chunk bytes (codes "LIST") (behind bytes cue)))
    (first_chunk-end bytes (codes "cue ") p none)

-- where no chunk is ahead, all was found
pub ends : (bytes : List ℕ) (places total : Places) (p : ℕ) → is_chunk bytes p ≡ false → ahead bytes places p ≡ total
    → places ≡ total
ends bytes places total p none so_far =
    sym (same_places _ _ _ _ _ _ _ _
    (left_end bytes (codes "fmt ") places.fmt p none)
    (left_end bytes (codes "cue ") places.cue p none)
    (list_end bytes places.cue places.list p none)
    (left_end bytes (codes "data") places.samples p none))
    ∙ so_far

-- from the first place on all is ahead
pub begins : (bytes : List ℕ)
    → ahead bytes (record { fmt = None; cue = None; list = None; samples = None }) 12 ≡ places_in bytes
unfolding places_in
begins bytes = refl

-- a chunk that is found stands inside
within_inside : (n : ℕ) (bytes : List ℕ) (p : ℕ) → AllByRecursion (λ q. q + 8 ≤ length bytes) (chunks_within n bytes p)
unfolding chunks_within
within_inside zero bytes p = tt
within_inside (suc n) bytes p =
    let case : (b : Bool) → is_chunk bytes p ≡ b → AllByRecursion (λ q. q + 8 ≤ length bytes)
    (cond b (p ∷ chunks_within n bytes (behind bytes p)) [])
    = λ b. elim b as (λ v. is_chunk bytes p ≡ v → AllByRecursion (λ q. q + 8 ≤ length bytes)
    (cond v (p ∷ chunks_within n bytes (behind bytes p)) [])) [
      | true ↦ λ is. (chunk_inside bytes p is, within_inside n bytes (behind bytes p))
      | false ↦ λ _. tt
    ] in
    case (is_chunk bytes p) refl

pub find_holds : {A : Type 0} (P : A → Type 0) (p : A → Bool) (xs : List A) → AllByRecursion P xs → IfSome (find p xs) P
find_holds P p [] all = tt
find_holds P p (x ∷ xs) all =
    elim (p x) as (λ b. IfSome (cond b (Some x) (find p xs)) P) [ true ↦ all.0 | false ↦ find_holds P p xs all.1 ]

first_inside : (bytes name : List ℕ) (p : ℕ) → IfSome (first_chunk bytes name p) (λ q. q + 8 ≤ length bytes)
unfolding first_chunk chunks_from
first_inside bytes name p =
    find_holds (λ q. q + 8 ≤ length bytes) (stands bytes name) (chunks_within (length bytes) bytes p)
    (within_inside (length bytes) bytes p)

then_inside : (P : ℕ → Type 0) (f : ℕ → Option ℕ) (o : Option ℕ) → ((q : ℕ) → IfSome (f q) P)
    → IfSome (option_and_then f o) P
then_inside P f None all = tt
then_inside P f (Some q) all = all q

pub are_inside : (bytes : List ℕ) → AreInside (length bytes) (places_in bytes)
unfolding places_in
are_inside bytes = record {
  fmt = first_inside bytes (codes "fmt ") 12;
  cue = first_inside bytes (codes "cue ") 12;
  list = then_inside (λ q. q + 8 ≤ length bytes) (λ cue. first_chunk bytes (codes "LIST") (behind bytes cue))
      (first_chunk bytes (codes "cue ") 12) (λ q. first_inside bytes (codes "LIST") (behind bytes q));
  samples = first_inside bytes (codes "data") 12;
}

pub ruleset walk_laws = (goes_on, ends, begins)
