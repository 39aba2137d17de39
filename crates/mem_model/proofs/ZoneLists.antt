-- Lists of zone blocks: their parts, their neighbours, and the one that is chosen.
use Rattle.std.proofs.Common.{◌≡◌, ℕ, suc, zero, ◌+◌, ◌-◌, ◌<◌, ◌≤◌, List, [], ◌∷◌, ◌++◌, Option, Some, None, Bool, true, false, leb, cond, length, take, drop, refl, sym, ap, ◌∙◌, arith, ◌⊎◌, inl, inr, subst}
use Rattle.std.specs.Prelude.{◌%◌, slice_get, map, IsTrue, not, ◌&&◌}
use Rattle.std.specs.Option.{option_map}
use Rattle.std.specs.List.{AllByRecursion}
use Rattle.std.proofs.lemmas.List.{length-take-le}
use Rattle.std.proofs.lemmas.Option.{slice_get_within}
use Rattle.std.proofs.lemmas.Bool.{cases_lt, leb-true}
use Rattle.std.proofs.Math.Nat.{mod-eq_of_lt, add-mod_right}
use Rattle.mem_model.specs.Blocks.{ZoneBlock}
use Rattle.mem_model.specs.Places.{least, lesser}
use Rattle.mem_model.specs.Memory.{Zone}
use Rattle.mem_model.specs.Zone.{size_of_zone, free_positions, distance, position_after, chosen}
use Rattle.mem_model.specs.Laid.{NotBothFree, AllNeighbours}

pub size_of_zone-append : (xs ys : List ZoneBlock) → size_of_zone (xs ++ ys) ≡ size_of_zone xs + size_of_zone ys
size_of_zone-append [] ys = omega arith
size_of_zone-append (x ∷ xs) ys = omega (arith, size_of_zone-append xs ys)

-- a list is what stands before a position, what stands there, and what stands behind
pub parted : {X : Type 0} (xs : List X) (i : ℕ) (x : X) → slice_get xs i ≡ Some x → xs ≡ take i xs ++ x ∷ drop (suc i) xs
parted [] i x h = absurd (cc)
parted (y ∷ ys) zero x h = let same : y ≡ x = cc in ap (λ z. z ∷ ys) same
parted (y ∷ ys) (suc i) x h = ap (λ zs. y ∷ zs) (parted ys i x h)

-- as many stand before it
pub length-before : {X : Type 0} (xs : List X) (i : ℕ) (x : X) → slice_get xs i ≡ Some x → length (take i xs) ≡ i
length-before xs i x h = length-take-le i xs (let inside = slice_get_within xs i x h in omega (arith, inside))

-- what stands behind others
pub get_behind : {X : Type 0} (front rest : List X) (k j : ℕ) → k ≡ j + length front → slice_get (front ++ rest) k ≡ slice_get rest j
get_behind [] rest k j e = let same : k ≡ j = omega (arith, e) in ap (slice_get rest) same
get_behind (x ∷ xs) rest zero j e = absurd (omega (arith, e))
get_behind (x ∷ xs) rest (suc k) j e = get_behind xs rest k j (omega (arith, e))

pub drop_behind : {X : Type 0} (front rest : List X) (k j : ℕ) → k ≡ j + length front → drop k (front ++ rest) ≡ drop j rest
drop_behind [] rest k j e = let same : k ≡ j = omega (arith, e) in ap (λ n. drop n rest) same
drop_behind (x ∷ xs) rest zero j e = absurd (omega (arith, e))
drop_behind (x ∷ xs) rest (suc k) j e = drop_behind xs rest k j (omega (arith, e))

-- the last of a list that has one
pub last_parted : {X : Type 0} (xs : List X) (i : ℕ) → length xs ≡ suc i → (front : List X) × (x : X) × (xs ≡ front ++ x ∷ []) × (length front ≡ i)
last_parted [] i e = absurd (omega (arith, e))
last_parted (x ∷ []) i e = ([], x, refl, omega (arith, e))
last_parted (x ∷ y ∷ ys) zero e = absurd (omega (arith, e))
last_parted (x ∷ y ∷ ys) (suc i) e =
    let rest = last_parted (y ∷ ys) i (omega (arith, e)) in
    (x ∷ rest.0, rest.1, ap (λ zs. x ∷ zs) rest.2, omega (arith, rest.3))

pub all-parts : {X : Type 0} (P : X → Type 0) (xs ys : List X) → AllByRecursion P (xs ++ ys) → AllByRecursion P xs × AllByRecursion P ys
all-parts P [] ys p = (tt, p)
all-parts P (x ∷ xs) ys p = let rest = all-parts P xs ys p.1 in ((p.0, rest.0), rest.1)

-- neighbours on both sides of a block
pub neighbours-parts : (front rest : List ZoneBlock) (b : ZoneBlock) → AllNeighbours NotBothFree (front ++ b ∷ rest) → AllNeighbours NotBothFree (front ++ b ∷ []) × AllNeighbours NotBothFree (b ∷ rest)
neighbours-parts [] rest b p = (tt, p)
neighbours-parts (a ∷ []) rest b p = ((p.0, tt), p.1)
neighbours-parts (a ∷ c ∷ cs) rest b p = let parts = neighbours-parts (c ∷ cs) rest b p.1 in ((p.0, parts.0), parts.1)

pub neighbours-join : (front rest : List ZoneBlock) (b : ZoneBlock) → AllNeighbours NotBothFree (front ++ b ∷ []) → AllNeighbours NotBothFree (b ∷ rest) → AllNeighbours NotBothFree (front ++ b ∷ rest)
neighbours-join [] rest b p q = q
neighbours-join (a ∷ []) rest b p q = (p.0, q)
neighbours-join (a ∷ c ∷ cs) rest b p q = (p.0, neighbours-join (c ∷ cs) rest b p.1 q)

-- those before a block
pub neighbours-before : (front : List ZoneBlock) (b : ZoneBlock) → AllNeighbours NotBothFree (front ++ b ∷ []) → AllNeighbours NotBothFree front
neighbours-before [] b p = tt
neighbours-before (a ∷ []) b p = tt
neighbours-before (a ∷ c ∷ cs) b p = (p.0, neighbours-before (c ∷ cs) b p.1)

-- those behind it
pub neighbours-behind : (rest : List ZoneBlock) (b : ZoneBlock) → AllNeighbours NotBothFree (b ∷ rest) → AllNeighbours NotBothFree rest
neighbours-behind [] b p = tt
neighbours-behind (c ∷ cs) b p = p.1

-- one that is free where the other is, in its place
pub alike-last : (front : List ZoneBlock) (b c : ZoneBlock) → (IsTrue b.used → IsTrue c.used) → AllNeighbours NotBothFree (front ++ b ∷ []) → AllNeighbours NotBothFree (front ++ c ∷ [])
alike-last [] b c h p = tt
alike-last (a ∷ []) b c h p = (elim p.0 [ inl first ↦ inl first | inr second ↦ inr (h second) ], tt)
alike-last (a ∷ d ∷ ds) b c h p = (p.0, alike-last (d ∷ ds) b c h p.1)

pub alike-first : (rest : List ZoneBlock) (b c : ZoneBlock) → (IsTrue b.used → IsTrue c.used) → AllNeighbours NotBothFree (b ∷ rest) → AllNeighbours NotBothFree (c ∷ rest)
alike-first [] b c h p = tt
alike-first (a ∷ others) b c h p = (elim p.0 [ inl first ↦ inl (h first) | inr second ↦ inr second ], p.1)

-- a used one fits behind any, and before any
pub used-last : (front : List ZoneBlock) (c : ZoneBlock) → IsTrue c.used → AllNeighbours NotBothFree front → AllNeighbours NotBothFree (front ++ c ∷ [])
used-last [] c h p = tt
used-last (a ∷ []) c h p = (inr h, tt)
used-last (a ∷ d ∷ ds) c h p = (p.0, used-last (d ∷ ds) c h p.1)

pub used-first : (rest : List ZoneBlock) (c : ZoneBlock) → IsTrue c.used → AllNeighbours NotBothFree rest → AllNeighbours NotBothFree (c ∷ rest)
used-first [] c h p = tt
used-first (a ∷ others) c h p = (inl h, p)

pub used-second : (b c : ZoneBlock) (rest : List ZoneBlock) → c.used ≡ true → AllNeighbours NotBothFree (c ∷ rest) → AllNeighbours NotBothFree (b ∷ c ∷ rest)
used-second b c rest e p = (inr e, p)

lesser_is : (n : ℕ) (rest : Option ℕ) (d : ℕ) → lesser n rest ≡ d → (n ≡ d) ⊎ (rest ≡ Some d)
lesser_is n None d e = inl e
lesser_is n (Some k) d e = elim (cases_lt k n) [
  | inl below ↦ inr (ap Some (omega (arith, e, below)))
  | inr above ↦ inl (omega (arith, e, above))
]

-- the least of some images is that of one of them
least_image : (f : ℕ → ℕ) (P : ℕ → Type 0) (xs : List ℕ) (d : ℕ) → AllByRecursion P xs → least (map f xs) ≡ Some d → (x : ℕ) × P x × (f x ≡ d)
least_image f P [] d p h = absurd (cc)
least_image f P (x ∷ xs) d p h =
    let here : lesser (f x) (least (map f xs)) ≡ d = cc in
    elim (lesser_is (f x) (least (map f xs)) d here) [
      | inl same ↦ (x, p.0, same)
      | inr less ↦ least_image f P xs d p.1 less
    ]

-- The position has a free block of this size at least.
pub record IsFit (blocks : List ZoneBlock) (need i : ℕ) : Type 0 where
  pub b : ZoneBlock
  pub there : slice_get blocks i ≡ Some b
  pub free : b.used ≡ false
  pub large : need ≤ b.size

all_fit : (whole bs : List ZoneBlock) (need i : ℕ) → ((j : ℕ) → slice_get whole (j + i) ≡ slice_get bs j) → AllByRecursion (IsFit whole need) (free_positions i need bs)
all_fit whole [] need i reads = tt
all_fit whole (b ∷ bs) need i reads =
    let rest = all_fit whole bs need (suc i) (λ j. let same : j + suc i ≡ suc j + i = omega arith in ap (slice_get whole) same ∙ reads (suc j)) in
    let first : slice_get whole i ≡ Some b = let same : i ≡ 0 + i = omega arith in ap (slice_get whole) same ∙ reads 0 in
    fit_or b.used (leb need b.size) refl refl first rest
  where
    fit_or : (used large : Bool) → b.used ≡ used → leb need b.size ≡ large → slice_get whole i ≡ Some b → AllByRecursion (IsFit whole need) (free_positions (suc i) need bs) →
        AllByRecursion (IsFit whole need) (cond (not used && large) (i ∷ free_positions (suc i) need bs) (free_positions (suc i) need bs))
    fit_or true large e f first rest = rest
    fit_or false false e f first rest = rest
    fit_or false true e f first rest = (record { b = b; there = first; free = e; large = leb-true need b.size f }, rest)

-- from a position to its distance and back
pub position_back : (z : Zone) (i : ℕ) → i ≤ length z.blocks → z.rover ≤ length z.blocks → position_after z (distance z i) ≡ i
position_back z i inside rover = ring (suc (length z.blocks)) z.rover i (omega (arith, rover)) (omega (arith, inside))
  where
    ring : (n r k : ℕ) → r ≤ n → k < n → (r + (k + (n - r)) % n) % n ≡ k
    ring n r k h l = elim (cases_lt k r) [
      | inl before ↦
          let small : (k + (n - r)) % n ≡ k + (n - r) = mod-eq_of_lt (omega arith) in
          let whole : r + (k + (n - r)) ≡ k + n = omega arith in
          ap (λ d. (r + d) % n) small ∙ ap (λ d. d % n) whole ∙ add-mod_right k n ∙ mod-eq_of_lt l
      | inr behind ↦
          let whole : k + (n - r) ≡ (k - r) + n = omega arith in
          let small : (k - r) % n ≡ k - r = mod-eq_of_lt (omega arith) in
          let back : r + (k - r) ≡ k = omega arith in
          ap (λ d. (r + d % n) % n) whole ∙ ap (λ d. (r + d) % n) (add-mod_right (k - r) n ∙ small) ∙ ap (λ d. d % n) back ∙ mod-eq_of_lt l
    ]

mapped_some : {X Y : Type 0} (f : X → Y) (o : Option X) (y : Y) → option_map f o ≡ Some y → (x : X) × (o ≡ Some x) × (y ≡ f x)
mapped_some f None y h = absurd (cc)
mapped_some f (Some x) y h = (x, refl, cc)

-- The chosen position has a free block that is large enough.
pub chosen_fits : (z : Zone) (need i : ℕ) → z.rover ≤ length z.blocks → chosen z need ≡ Some i → IsFit z.blocks need i
unfolding chosen
chosen_fits z need i rover h =
    let some = mapped_some (position_after z) (least (map (distance z) (free_positions 0 need z.blocks))) i h in
    let image = least_image (distance z) (IsFit z.blocks need) (free_positions 0 need z.blocks) some.0 (all_fit z.blocks z.blocks need 0 (λ j. let same : j + 0 ≡ j = omega arith in ap (slice_get z.blocks) same)) some.1 in
    let inside = slice_get_within z.blocks image.0 image.1.b image.1.there in
    let same : image.0 ≡ i = sym (position_back z image.0 (omega (arith, inside)) rover) ∙ ap (position_after z) image.2 ∙ sym some.2 in
    subst (IsFit z.blocks need) same image.1
