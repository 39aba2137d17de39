-- The ring from the rover as two walks: from the rover to the end, and from the start to the rover.
use Rattle.std.proofs.Common.{◌≡◌, ℕ, suc, ◌+◌, ◌-◌, ◌<◌, ◌≤◌, List, [], ◌∷◌, ◌++◌, Option, Some, None, Bool, true, false, cond, length, take, drop, refl, sym, ap, ◌∙◌, arith}
use Rattle.std.specs.Prelude.{◌%◌, slice_get, position, map, IfSome, IsSomeAnd, ◌^◌}
use Rattle.std.specs.List.{AllByRecursion}
use Rattle.std.specs.Option.{option_map}
use Rattle.std.proofs.lemmas.List.{map-append, take-append-drop, append-nil, length-take-le, length-drop}
use Rattle.std.proofs.lemmas.List.Quantifiers.{position-Some}
use Rattle.std.proofs.lemmas.Option.{slice_get_within}
use Rattle.std.proofs.Math.Nat.{mod-eq_of_lt, add-mod_right, min-eq_left, min-eq_right}
use Rattle.mem_model.specs.Blocks.{ZoneBlock}
use Rattle.mem_model.specs.Places.{least, lesser}
use Rattle.mem_model.specs.Memory.{Zone}
use Rattle.mem_model.specs.Zone.{free_positions, distance, position_after, chosen, size_of_zone}
use Rattle.mem_model.specs.Plain.{is_fit}
use Rattle.mem_model.proofs.ZoneLists.{position_back, chosen_fits}
use Rattle.mem_model.proofs.ZonePlaces.{position-cons, inside_zone}

free_positions-append : (i need : ℕ) (xs ys : List ZoneBlock) → free_positions i need (xs ++ ys) ≡ free_positions i need xs ++ free_positions (i + length xs) need ys
free_positions-append i need [] ys = let same : i ≡ i + 0 = omega arith in ap (λ n. free_positions n need ys) same
free_positions-append i need (x ∷ xs) ys =
    let next : suc i + length xs ≡ i + suc (length xs) = omega arith in
    let rest : free_positions (suc i) need (xs ++ ys) ≡ free_positions (suc i) need xs ++ free_positions (i + suc (length xs)) need ys = free_positions-append (suc i) need xs ys ∙ ap (λ n. free_positions (suc i) need xs ++ free_positions n need ys) next in
    elim (is_fit need x) as (λ t. cond t (i ∷ free_positions (suc i) need (xs ++ ys)) (free_positions (suc i) need (xs ++ ys)) ≡ cond t (i ∷ free_positions (suc i) need xs) (free_positions (suc i) need xs) ++ free_positions (i + suc (length xs)) need ys) [
      | true ↦ ap (λ ns. i ∷ ns) rest
      | false ↦ rest
    ]

least_first : (n : ℕ) (o : Option ℕ) (f : ℕ → ℕ) → ((k : ℕ) → o ≡ Some k → n ≤ f k) → lesser n (option_map f o) ≡ n
least_first n None f h = refl
least_first n (Some k) f h = min-eq_left (h k refl)

shifted : (f : ℕ → ℕ) (i : ℕ) (o : Option ℕ) → option_map (λ k. f (suc i + k)) o ≡ option_map (λ k. f (i + k)) (option_map suc o)
shifted f i None = refl
shifted f i (Some k) = let same : suc i + k ≡ i + suc k = omega arith in ap (λ n. Some (f n)) same

-- where the images rise, the least of them is that of the first
least_rising : (f : ℕ → ℕ) (i need : ℕ) (blocks : List ZoneBlock) → ((j k : ℕ) → i ≤ j → j ≤ k → k < i + length blocks → f j ≤ f k) →
    least (map f (free_positions i need blocks)) ≡ option_map (λ k. f (i + k)) (position (is_fit need) blocks)
least_rising f i need [] rise = refl
least_rising f i need (b ∷ bs) rise =
    let rest = least_rising f (suc i) need bs (λ j k low order high. rise j k (omega (arith, low)) order (omega (arith, high))) in
    let head : f i ≡ f (i + 0) = let same : i ≡ i + 0 = omega arith in ap f same in
    let first : lesser (f i) (least (map f (free_positions (suc i) need bs))) ≡ f (i + 0) = ap (lesser (f i)) rest ∙ least_first (f i) (position (is_fit need) bs) (λ k. f (suc i + k)) (λ k at. rise i (suc i + k) (omega arith) (omega arith) (omega (arith, (position-Some (is_fit need) bs k b at).0))) ∙ head in
    elim (is_fit need b) as (λ t. least (map f (cond t (i ∷ free_positions (suc i) need bs) (free_positions (suc i) need bs))) ≡ option_map (λ k. f (i + k)) (cond t (Some 0) (option_map suc (position (is_fit need) bs)))) [
      | true ↦ ap Some first
      | false ↦ rest ∙ shifted f i (position (is_fit need) bs)
    ] ∙ ap (option_map (λ k. f (i + k))) (sym (position-cons (is_fit need) b bs))

none_fits : (i need : ℕ) (blocks : List ZoneBlock) → position (is_fit need) blocks ≡ None → free_positions i need blocks ≡ []
none_fits i need [] h = refl
none_fits i need (b ∷ bs) h = by_fit (is_fit need b) (none_fits (suc i) need bs) (sym (position-cons (is_fit need) b bs) ∙ h)
  where
    without : (o : Option ℕ) → option_map suc o ≡ None → o ≡ None
    without None e = refl
    without (Some k) e = absurd (cc)

    by_fit : (t : Bool) → (position (is_fit need) bs ≡ None → free_positions (suc i) need bs ≡ []) → cond t (Some 0) (option_map suc (position (is_fit need) bs)) ≡ None → cond t (i ∷ free_positions (suc i) need bs) (free_positions (suc i) need bs) ≡ []
    by_fit true rest e = absurd (cc)
    by_fit false rest e = rest (without (position (is_fit need) bs) e)

all_far : (f : ℕ → ℕ) (d i need : ℕ) (blocks : List ZoneBlock) → ((k : ℕ) → k < i + length blocks → d ≤ f k) → AllByRecursion (λ n. d ≤ n) (map f (free_positions i need blocks))
all_far f d i need [] far = tt
all_far f d i need (b ∷ bs) far =
    let rest = all_far f d (suc i) need bs (λ k h. far k (omega (arith, h))) in
    elim (is_fit need b) as (λ t. AllByRecursion (λ n. d ≤ n) (map f (cond t (i ∷ free_positions (suc i) need bs) (free_positions (suc i) need bs)))) [
      | true ↦ (far i (omega arith), rest)
      | false ↦ rest
    ]

least_behind : (xs ys : List ℕ) (d : ℕ) → AllByRecursion (λ n. d ≤ n) xs → least ys ≡ Some d → least (xs ++ ys) ≡ Some d
least_behind [] ys d far h = h
least_behind (x ∷ xs) ys d far h = ap (λ o. Some (lesser x o)) (least_behind xs ys d far.1 h) ∙ ap Some (min-eq_right far.0)

-- how far a position at or behind the rover is, and one before it
distance_behind : (n r i : ℕ) → r ≤ i → i < n → r ≤ n → (i + (suc n - r)) % suc n ≡ i - r
distance_behind n r i order inside rover =
    let whole : i + (suc n - r) ≡ (i - r) + suc n = omega arith in
    let small : i - r < suc n = omega arith in
    ap (λ d. d % suc n) whole ∙ add-mod_right (i - r) (suc n) ∙ mod-eq_of_lt small

distance_before : (n r i : ℕ) → i < r → r ≤ n → (i + (suc n - r)) % suc n ≡ i + (suc n - r)
distance_before n r i order rover = mod-eq_of_lt (omega arith)

-- The ring, from the start to the rover and on.
parts : (z : Zone) (need : ℕ) → z.rover ≤ length z.blocks →
    map (distance z) (free_positions 0 need z.blocks) ≡ map (distance z) (free_positions 0 need (take z.rover z.blocks)) ++ map (distance z) (free_positions z.rover need (drop z.rover z.blocks))
parts z need rover =
    let front = take z.rover z.blocks in
    let rest = drop z.rover z.blocks in
    let start : 0 + length front ≡ z.rover = omega (arith, length-take-le z.rover z.blocks rover) in
    ap (λ blocks. map (distance z) (free_positions 0 need blocks)) (sym (take-append-drop z.rover z.blocks))
    ∙ ap (map (distance z)) (free_positions-append 0 need front rest ∙ ap (λ n. free_positions 0 need front ++ free_positions n need rest) start)
    ∙ map-append (distance z) (free_positions 0 need front) (free_positions z.rover need rest)

-- A block at or behind the rover that fits is chosen before all others.
pub chosen_behind : (z : Zone) (need k : ℕ) → z.rover ≤ length z.blocks → position (is_fit need) (drop z.rover z.blocks) ≡ Some k → chosen z need ≡ Some (z.rover + k)
unfolding chosen
chosen_behind z need k rover at =
    let n = length z.blocks in
    let r = z.rover in
    let rest = drop r z.blocks in
    let whole : r + length rest ≡ n = omega (arith, length-drop r z.blocks) in
    let inside = (position-Some (is_fit need) rest k (record { size = 0; used = false; bytes = [] }) at).0 in
    let far : AllByRecursion (λ d. k ≤ d) (map (distance z) (free_positions 0 need (take r z.blocks))) =
    all_far (distance z) k 0 need (take r z.blocks) (λ j h. let before : j < r = omega (arith, h, length-take-le r z.blocks rover) in omega (arith, distance_before n r j before rover, inside, whole)) in
    let near : least (map (distance z) (free_positions r need rest)) ≡ Some k =
    least_rising (distance z) r need rest (λ i j low order high. omega (arith, distance_behind n r i low (omega (arith, order, high, whole)) rover, distance_behind n r j (omega (arith, low, order)) (omega (arith, high, whole)) rover))
    ∙ ap (option_map (λ d. distance z (r + d))) at
    ∙ ap Some (omega (arith, distance_behind n r (r + k) (omega arith) (omega (arith, inside, whole)) rover)) in
    let back : position_after z k ≡ r + k = mod-eq_of_lt (omega (arith, inside, whole)) in
    ap (λ ds. option_map (position_after z) (least ds)) (parts z need rover) ∙ ap (option_map (position_after z)) (least_behind _ _ k far near) ∙ ap Some back

returned : (z : Zone) (blocks : List ZoneBlock) (need : ℕ) → z.rover ≤ length z.blocks → length blocks ≤ length z.blocks → option_map (position_after z) (option_map (λ k. distance z (0 + k)) (position (is_fit need) blocks)) ≡ position (is_fit need) blocks
returned z blocks need rover short = by_found (position (is_fit need) blocks) (λ k at. (position-Some (is_fit need) blocks k (record { size = 0; used = false; bytes = [] }) at).0)
  where
    by_found : (o : Option ℕ) → ((k : ℕ) → o ≡ Some k → k < length blocks) → option_map (position_after z) (option_map (λ k. distance z (0 + k)) o) ≡ o
    by_found None small = refl
    by_found (Some k) small =
        let same : 0 + k ≡ k = omega arith in
        ap (λ n. Some (position_after z (distance z n))) same ∙ ap Some (position_back z k (omega (arith, small k refl, short)) rover)

-- Where there is none, the first one before the rover is.
pub chosen_before : (z : Zone) (need : ℕ) → z.rover ≤ length z.blocks → position (is_fit need) (drop z.rover z.blocks) ≡ None → chosen z need ≡ position (is_fit need) (take z.rover z.blocks)
unfolding chosen
chosen_before z need rover at =
    let n = length z.blocks in
    let r = z.rover in
    let front = take r z.blocks in
    let long = length-take-le r z.blocks rover in
    let none : map (distance z) (free_positions r need (drop r z.blocks)) ≡ [] = ap (map (distance z)) (none_fits r need (drop r z.blocks) at) in
    let alone : map (distance z) (free_positions 0 need z.blocks) ≡ map (distance z) (free_positions 0 need front) =
    parts z need rover ∙ ap (λ ds. map (distance z) (free_positions 0 need front) ++ ds) none ∙ append-nil _ in
    ap (λ ds. option_map (position_after z) (least ds)) alone
    ∙ ap (option_map (position_after z)) (least_rising (distance z) 0 need front (λ i j low order high. omega (arith, distance_before n r i (omega (arith, order, high, long)) rover, distance_before n r j (omega (arith, high, long)) rover)))
    ∙ returned z front need rover (omega (arith, long, rover))

-- The block that is chosen is one of the zone's, and large enough.
pub record IsLarge (z : Zone) (need : ℕ) (found : Option ℕ) : Type 0 where
  pub small : IfSome found (λ i. need ≤ 2 ^ 26)
  pub inside : IfSome found (λ i. i < length z.blocks)
  pub fits : IfSome found (λ i. IsSomeAnd (slice_get z.blocks i) (λ b. need ≤ b.size))

pub chosen_large : (z : Zone) (need : ℕ) (found : Option ℕ) → z.rover ≤ length z.blocks → 48 + size_of_zone z.blocks ≤ 2 ^ 26 → chosen z need ≡ found → IsLarge z need found
chosen_large z need None rover small h = record { small = tt; inside = tt; fits = tt }
chosen_large z need (Some i) rover small h =
    let fit = chosen_fits z need i rover h in
    record {
      small = omega (arith, small, fit.large, inside_zone z.blocks i fit.b fit.there);
      inside = slice_get_within z.blocks i fit.b fit.there;
      fits = rw fit.there fit.large;
    }
