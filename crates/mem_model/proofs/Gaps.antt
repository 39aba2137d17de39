-- The hop and the fit of a block are first gaps.
use Rattle.std.proofs.Common.{◌≡◌, ℕ, ◌+◌, ◌<◌, ◌≤◌, Bool, true, false, cond, List, [], ◌∷◌, Option, Some, None, filter, map, leb, refl, ap, ◌∙◌, inl, inr, arith}
use Rattle.std.specs.Prelude.{◌&&◌, ◌||◌}
use Rattle.std.specs.List.{AllByRecursion}
use Rattle.std.proofs.lemmas.Bool.{leb-true, le-leb, lt-leb, cases_Bool, cond_both}
use Rattle.mem_model.specs.Blocks.{CacheBlock}
use Rattle.mem_model.specs.Places.{end_of, is_clear, has_above, least, lesser, hop, fit}
use Rattle.mem_model.specs.Gaps.{start_of, gap_from, size_of_cache, HasSize}
use Rattle.mem_model.specs.Laid.{AreBetween}
use Rattle.mem_model.proofs.CacheBlocks.{between-spans}
use Rattle.mem_model.proofs.CacheMoves.{least_among, ends_above}

-- A test of places, by the blocks from some on: none of the others counts.
record IsTest (test : List CacheBlock → ℕ → Bool) (size top high : ℕ) : Type 0 where
  -- before the first of the blocks, it asks whether the place is far enough below
  here : (place : ℕ) (blocks : List CacheBlock) → AreBetween place high blocks → AllByRecursion HasSize blocks → test blocks place ≡ leb (place + size) (start_of top blocks)
  -- behind a block that block doesn't count
  past : (b : CacheBlock) (blocks : List CacheBlock) (place : ℕ) → 0 < b.size → end_of b ≤ place → test (b ∷ blocks) place ≡ test blocks place

lesser_first : (p : ℕ → Bool) (start : ℕ) (ns : List ℕ) (o : Option ℕ) → AllByRecursion (λ n. start ≤ n) ns → least (filter p ns) ≡ o → lesser start o ≡ start
lesser_first p start ns None a e = refl
lesser_first p start ns (Some k) a e = omega (arith, least_among (λ n. start ≤ n) p ns k a e)

-- The least place that passes is the first gap.
least_gap : (test : List CacheBlock → ℕ → Bool) (p : ℕ → Bool) (size top high start : ℕ) (blocks : List CacheBlock) → IsTest test size top high → AreBetween start high blocks → AllByRecursion HasSize blocks →
    ((place : ℕ) → start ≤ place → p place ≡ test blocks place) → least (filter p (start ∷ map end_of blocks)) ≡ gap_from start size top blocks
least_gap test p size top high start [] is a s same =
    let first : p start ≡ leb (start + size) top = same start (omega arith) ∙ is.here start [] a s in
    rw first (elim (leb (start + size) top) as (λ t. least (cond t (start ∷ []) []) ≡ cond t (Some start) None) [ true ↦ refl | false ↦ refl ])
least_gap test p size top high start (b ∷ bs) is a s same =
    let first : p start ≡ leb (start + size) b.place = same start (omega arith) ∙ is.here start (b ∷ bs) a s in
    let rest = least_gap test p size top high (end_of b) bs is a.1 s.1 (λ place h. same place (omega (arith, a.0)) ∙ is.past b bs place s.0 h) in
    rw first (elim (leb (start + size) b.place) as (λ t. least (cond t (start ∷ filter p (map end_of (b ∷ bs))) (filter p (map end_of (b ∷ bs)))) ≡ cond t (Some start) (gap_from (end_of b) size top bs)) [
      | true ↦ ap Some (lesser_first p start (map end_of (b ∷ bs)) (least (filter p (map end_of (b ∷ bs)))) (ends_above start start high (b ∷ bs) (omega arith) a) refl)
      | false ↦ rest
    ])

-- below the first block all is clear
pub clear_front : (blocks : List CacheBlock) (place size low high : ℕ) → AreBetween low high blocks → AllByRecursion HasSize blocks → place + size ≤ low → is_clear blocks place size ≡ true
clear_front [] place size low high a s h = refl
clear_front (b ∷ bs) place size low high a s h = rw (le-leb (place + size) b.place (omega (arith, a.0))) (clear_front bs place size (end_of b) high a.1 s.1 (omega (arith, a.0)))

clear_here : (b : CacheBlock) (bs : List CacheBlock) (place size high : ℕ) → AreBetween place high (b ∷ bs) → AllByRecursion HasSize (b ∷ bs) → is_clear (b ∷ bs) place size ≡ leb (place + size) b.place
clear_here b bs place size high a s =
    elim (cases_Bool (leb (place + size) b.place)) [
      | inl fits ↦ rw fits (clear_front bs place size (end_of b) high a.1 s.1 (omega (arith, leb-true (place + size) b.place fits)))
      | inr short ↦ rw (short, lt-leb (end_of b) place (omega (arith, a.0, s.0))) refl
    ]

true_or : (t : Bool) → (true || t) ≡ true
true_or t = refl

and_true : (t : Bool) → (t && true) ≡ t
and_true true = refl
and_true false = refl

hop_test : ℕ → ℕ → List CacheBlock → ℕ → Bool
hop_test size top blocks place = is_clear blocks place size && (has_above blocks place || leb (place + size) top)

hop_here : (size top high place : ℕ) (blocks : List CacheBlock) → AreBetween place high blocks → AllByRecursion HasSize blocks → hop_test size top blocks place ≡ leb (place + size) (start_of top blocks)
unfolding hop_test
hop_here size top high place [] a s = refl
hop_here size top high place (b ∷ bs) a s = rw (clear_here b bs place size high a s, le-leb place b.place (omega (arith, a.0))) (and_true (leb (place + size) b.place))

hop_past : (size top : ℕ) (b : CacheBlock) (blocks : List CacheBlock) (place : ℕ) → 0 < b.size → end_of b ≤ place → hop_test size top (b ∷ blocks) place ≡ hop_test size top blocks place
unfolding hop_test
hop_past size top b blocks place s h =
    rw (le-leb (end_of b) place h, lt-leb place b.place (omega arith)) (ap (λ t. t && (has_above blocks place || leb (place + size) top)) (ap (λ t. t && is_clear blocks place size) (or_true (leb (place + size) b.place)))) where
      or_true : (t : Bool) → (t || true) ≡ true
      or_true true = refl
      or_true false = refl

-- The hop is the first gap behind the lowest block.
pub hop_gap : (x : CacheBlock) (xs : List CacheBlock) (b : CacheBlock) (low high top : ℕ) → AreBetween low high (x ∷ xs) → AllByRecursion HasSize (x ∷ xs) → hop (x ∷ xs) b top ≡ gap_from (end_of x) b.size top xs
unfolding hop hop_test
hop_gap x xs b low high top a s =
    least_gap (hop_test b.size top) (hop_test b.size top (x ∷ xs)) b.size top high (end_of x) xs
    (record { here = λ place blocks. hop_here b.size top high place blocks; past = λ c blocks place. hop_past b.size top c blocks place })
    a.1 s.1 (λ place h. hop_past b.size top x xs place s.0 h)

fit_test : ℕ → ℕ → List CacheBlock → ℕ → Bool
fit_test size top blocks place = leb (place + size) top && is_clear blocks place size

fit_first : (size top place : ℕ) (b : CacheBlock) (bs : List CacheBlock) (t : Bool) → AreBetween place top (b ∷ bs) → leb (place + size) b.place ≡ t → (leb (place + size) top && t) ≡ t
fit_first size top place b bs true a e = rw (le-leb (place + size) top (omega (arith, leb-true (place + size) b.place e, between-spans bs (end_of b) top a.1))) refl
fit_first size top place b bs false a e = elim (leb (place + size) top) as (λ t. (t && false) ≡ false) [ true ↦ refl | false ↦ refl ]

fit_here : (size top place : ℕ) (blocks : List CacheBlock) → AreBetween place top blocks → AllByRecursion HasSize blocks → fit_test size top blocks place ≡ leb (place + size) (start_of top blocks)
unfolding fit_test
fit_here size top place [] a s = and_true (leb (place + size) top)
fit_here size top place (b ∷ bs) a s = rw (clear_here b bs place size top a s) (fit_first size top place b bs (leb (place + size) b.place) a refl)

fit_past : (size top : ℕ) (b : CacheBlock) (blocks : List CacheBlock) (place : ℕ) → 0 < b.size → end_of b ≤ place → fit_test size top (b ∷ blocks) place ≡ fit_test size top blocks place
unfolding fit_test
fit_past size top b blocks place s h =
    rw (le-leb (end_of b) place h) (ap (λ t. leb (place + size) top && (t && is_clear blocks place size)) (or_true (leb (place + size) b.place))) where
      or_true : (t : Bool) → (t || true) ≡ true
      or_true true = refl
      or_true false = refl

-- The fit is the first gap from the bottom on.
pub fit_gap : (blocks : List CacheBlock) (bottom top size : ℕ) → AreBetween bottom top blocks → AllByRecursion HasSize blocks → fit blocks bottom top size ≡ gap_from bottom size top blocks
unfolding fit fit_test
fit_gap blocks bottom top size a s =
    least_gap (fit_test size top) (fit_test size top blocks) size top top bottom blocks
    (record { here = λ place rest. fit_here size top place rest; past = λ c rest place. fit_past size top c rest place })
    a s (λ place h. refl)

-- The blocks lie between the two places.
pub filled : (blocks : List CacheBlock) (start top : ℕ) → AreBetween start top blocks → start + size_of_cache blocks ≤ top
filled [] start top a = omega (arith, a)
filled (c ∷ cs) start top a = omega (arith, a.0, filled cs (end_of c) top a.1)

-- A gap is as large as the room that the blocks leave at most.
pub gap_room : (blocks : List CacheBlock) (start size top place : ℕ) → AreBetween start top blocks → gap_from start size top blocks ≡ Some place → (start + size) + size_of_cache blocks ≤ top
gap_room [] start size top place a h =
    cond_both (leb (start + size) top) (Some start) None (λ o. o ≡ Some place → (start + size) + 0 ≤ top) (λ e g. omega (arith, leb-true (start + size) top e)) (λ e g. absurd (cc)) h
gap_room (b ∷ bs) start size top place a h =
    cond_both (leb (start + size) b.place) (Some start) (gap_from (end_of b) size top bs) (λ o. o ≡ Some place → (start + size) + (b.size + size_of_cache bs) ≤ top)
    (λ e g. omega (arith, leb-true (start + size) b.place e, filled bs (end_of b) top a.1))
    (λ e g. omega (arith, a.0, gap_room bs (end_of b) size top place a.1 g)) h

-- so where they leave less, there is none
pub gap_crowded : (blocks : List CacheBlock) (start size top : ℕ) → AreBetween start top blocks → top < (start + size) + size_of_cache blocks → gap_from start size top blocks ≡ None
gap_crowded blocks start size top a h = crowded (gap_from start size top blocks) refl where
  crowded : (o : Option ℕ) → gap_from start size top blocks ≡ o → o ≡ None
  crowded None e = refl
  crowded (Some place) e = absurd (omega (arith, gap_room blocks start size top place a e))
