-- How many frames there are up to the greatest.
use Rattle.std.proofs.Common.{◌≡◌, ℕ, zero, suc, ◌+◌, ◌-◌, ◌<◌, inl, inr, cond, eqb, List, [], ◌∷◌, ◌++◌}
use Rattle.std.proofs.Common.{length, get_or, take, filter, Bool, true, false, not, Option, Some, None, is_some}
use Rattle.std.proofs.Common.{refl, sym, ap, ◌∙◌, arith}
use Rattle.std.specs.List.{range_with_len}
use Rattle.std.specs.Option.{option_eq}
use Rattle.std.proofs.lemmas.List.{take_more, length-take-le, length-take, get_or-take}
use Rattle.std.proofs.lemmas.List.FromFn.{filter_of_map_range_with_len_more}
use Rattle.std.proofs.lemmas.List.{map-id}
use Rattle.std.proofs.lemmas.Bool.Decides.{eqb_tells, nat_tests}
use Rattle.bsp29_tables.specs.Cycles.{span, lacking_from, lacking_below}
use Rattle.bsp29_tables.specs.Sound.{IsWhole}

span-push_some : (xs : List (Option ℕ)) (v : ℕ) → span (xs ++ Some v ∷ []) ≡ length xs + 1
unfolding span
span-push_some [] v = refl
span-push_some (y ∷ xs) v =
    let some : eqb (length xs + 1) 0 ≡ false = grind (arith, nat_tests) in
    rw (span-push_some xs v, some) (omega arith)

span-push_none : (xs : List (Option ℕ)) → span (xs ++ None ∷ []) ≡ span xs
unfolding span
span-push_none [] = refl
span-push_none (y ∷ xs) = rw (span-push_none xs) refl

pub span_more : (frames : List (Option ℕ)) (j n : ℕ) → j < length frames → n ≡ span (take j frames)
    → cond (is_some (get_or frames j None)) (j + 1) n ≡ span (take (j + 1) frames)
span_more frames j n lt is = rw (take_more frames j None lt) (by_cases (get_or frames j None))
  where
    by_cases : (x : Option ℕ) → cond (is_some x) (j + 1) n ≡ span (take j frames ++ x ∷ [])
    by_cases (Some v) =
        let len : length (take j frames) ≡ j = length-take-le j frames (omega arith) in
        sym (span-push_some (take j frames) v ∙ ap (λ k. k + 1) len)
    by_cases None = is ∙ sym (span-push_none (take j frames))

-- a frame that is there is below it
pub span_above : (frames : List (Option ℕ)) (j t : ℕ) → get_or frames j None ≡ Some t → j < span frames
unfolding span
span_above [] j t is = absurd cc
span_above (x ∷ xs) zero t is =
    elim (eqb_tells (span xs) 0) [
      | inl none ↦ rw (none.0, is) (omega arith)
      | inr some ↦ rw some.0 (omega arith)
    ]
span_above (x ∷ xs) (suc j) t is =
    let below = span_above xs j t is in
    elim (eqb_tells (span xs) 0) [
      | inl none ↦ absurd (omega (arith, none.1))
      | inr some ↦ rw some.0 (omega arith)
    ]

-- one more number is kept, or isn't
pub filter_range_more : (p : ℕ → Bool) (n : ℕ)
    → filter p (range_with_len 0 (n + 1)) ≡ filter p (range_with_len 0 n) ++ cond (p n) (n ∷ []) []
filter_range_more p n =
    rw (map-id (range_with_len 0 (n + 1)), map-id (range_with_len 0 n))
    at (filter_of_map_range_with_len_more p (λ k. k) 0 n n (omega arith))

pub same_option : (frame : Option ℕ) (texture : ℕ) → false ≡ not (option_eq eqb frame (Some texture))
    → frame ≡ Some texture
same_option None texture e = absurd cc
same_option (Some other) texture e =
    elim (eqb_tells other texture) [
      | inl same ↦ ap Some same.1
      | inr another ↦ absurd (let is = another.0 in let n : false ≡ true = e ∙ ap not is in cc)
    ]

-- ---- no frame is lacking where each frame before one that is there is there

stands_below : (frame : ℕ) (xs : List (Option ℕ)) → lacking_from frame xs ≡ None → (j : ℕ) → j < length xs
    → is_some (get_or xs j None) ≡ true
stands_below frame [] e j lt = absurd (omega (arith, lt))
stands_below frame (None ∷ xs) e j lt = absurd cc
stands_below frame (Some x ∷ xs) e zero lt = refl
stands_below frame (Some x ∷ xs) e (suc j) lt = stands_below (frame + 1) xs e j (omega (arith, lt))

none_lacking : (frame : ℕ) (xs : List (Option ℕ))
    → ((j : ℕ) → j < length xs → is_some (get_or xs j None) ≡ true) → lacking_from frame xs ≡ None
none_lacking frame [] all = refl
none_lacking frame (None ∷ xs) all = absurd (let here = all 0 (omega arith) in cc)
none_lacking frame (Some x ∷ xs) all = none_lacking (frame + 1) xs (λ j lt. all (suc j) (omega (arith, lt)))

some_above : (frames : List (Option ℕ)) (k : ℕ) → is_some (get_or frames k None) ≡ true → k < span frames
some_above frames k there = by (get_or frames k None) refl there
  where
    by : (frame : Option ℕ) → get_or frames k None ≡ frame → is_some frame ≡ true → k < span frames
    by None is some = absurd cc
    by (Some t) is some = span_above frames k t is

only_here : (frame : Option ℕ) → cond (is_some frame) 1 0 ≡ 0 + 1 → is_some frame ≡ true
only_here None e = absurd (omega (arith, e))
only_here (Some t) e = refl

not_here : (frame : Option ℕ) (k : ℕ) → cond (is_some frame) 1 0 ≡ suc k + 1 → ⊥
not_here None k e = omega (arith, e)
not_here (Some t) k e = omega (arith, e)

-- the greatest frame is there
greatest : (frames : List (Option ℕ)) (k : ℕ) → span frames ≡ k + 1
    → (k < length frames) × (is_some (get_or frames k None) ≡ true)
unfolding span
greatest [] k e = absurd (omega (arith, e))
greatest (x ∷ xs) zero e =
    elim (eqb_tells (span xs) 0) [
      | inl none ↦ (omega arith, only_here x (rw none.0 at e))
      | inr some ↦ absurd (let more = rw some.0 at e in some.1 (omega (arith, more)))
    ]
greatest (x ∷ xs) (suc k) e =
    elim (eqb_tells (span xs) 0) [
      | inl none ↦ absurd (not_here x k (rw none.0 at e))
      | inr some ↦
          let more = rw some.0 at e in
          let rest = greatest xs k (omega (arith, more)) in
          (omega (arith, rest.0), rest.1)
    ]

pub whole_from_none : (first : ℕ) (frames : List (Option ℕ)) → lacking_below first frames ≡ None → IsWhole frames
unfolding lacking_below
whole_from_none first frames e j k lt there =
    let count = span frames in
    let above = some_above frames k there in
    let top = greatest frames (count - 1) (omega (arith, above)) in
    let long = length-take count frames in
    let under : j < length (take count frames) = omega (arith, long, top.0, above, lt) in
    rw (get_or-take count frames j None (omega (arith, above, lt))) at (stands_below first (take count frames) e j under)

pub none_from_whole : (first : ℕ) (frames : List (Option ℕ)) → IsWhole frames → lacking_below first frames ≡ None
unfolding lacking_below
none_from_whole first frames whole =
    let count = span frames in
    none_lacking first (take count frames) (λ j lt.
    let long = length-take count frames in
    let under : j < count = omega (arith, long, lt) in
    let top = greatest frames (count - 1) (omega (arith, under)) in
    let there : is_some (get_or frames j None) ≡ true =
    elim (eqb_tells j (count - 1)) [
      | inl last ↦ rw last.1 top.1
      | inr other ↦ whole j (count - 1) (omega (arith, under, other.1)) top.1
    ] in
    rw (get_or-take count frames j None under) there)
