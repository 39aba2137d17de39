-- What a search among the places where blocks end comes to.
use Rattle.std.proofs.Common.{◌≡◌, ◌≢◌, ℕ, suc, zero, ◌+◌, ◌-◌, ◌<◌, ◌≤◌, List, [], ◌∷◌, Some, None, length, take, set, get_or, refl, sym, ap, ◌∙◌, subst, true, false, arith, add-one, zero-add, eq-eqb, inl, inr}
use Rattle.std.specs.Prelude.{slice_get, Option, Result, Ok, Err, MatchOption, MatchResult, IsSome}
use Rattle.std.specs.Option.{option_map}
use Rattle.std.specs.Result.{result_ok}
use Rattle.std.specs.List.{AllByRecursion}
use Rattle.std.specs.List.Sorted.{IsBinarySearchResult}
use Rattle.std.specs.Ordering.{nat_cmp}
use Rattle.std.proofs.lemmas.Bool.{cases_lt, ne_eqb}
use Rattle.std.proofs.lemmas.Bool.Decides.{eqb_tells}
use Rattle.std.proofs.lemmas.List.Sorted.{searched}
use Rattle.std.proofs.lemmas.Option.{slice_get-get_or}
use Rattle.mem_model.specs.Blocks.{HunkBlock}
use Rattle.mem_model.specs.Memory.{size_of}
use Rattle.mem_model.specs.Hunk.{bytes_from, bytes_above, bytes_down, with_bytes_down, with_bytes_from, with_bytes, cut_from, cut_above}
use Rattle.mem_model.specs.Laid.{IsHunkBlock, AreLowBlocks}
use Rattle.mem_model.specs.Plain.{ends_from, IsAt, IsCut, IsHighAt, IsHighCut}
use Rattle.mem_model.proofs.Ends.{length-ends}

-- where the blocks begin, and where the last of them ends
abbrev bounds : ℕ → List HunkBlock → List ℕ
bounds start blocks = start ∷ ends_from start blocks

ends-zone : (zone : HunkBlock) (blocks : List HunkBlock) → ends_from 0 (zone ∷ blocks) ≡ bounds zone.size blocks
ends-zone zone blocks = ap (λ n. bounds n blocks) (zero-add zone.size)

least_end : (start : ℕ) (blocks : List HunkBlock) (i end : ℕ) → AllByRecursion IsHunkBlock blocks → slice_get (ends_from start blocks) i ≡ Some end → start + 16 ≤ end
least_end start [] i end laid h = absurd (cc)
least_end start (b ∷ bs) zero end laid h = let same : start + b.size ≡ end = cc in omega (arith, same, laid.0.header)
least_end start (b ∷ bs) (suc i) end laid h = omega (arith, least_end (start + b.size) bs i end laid.1 h, laid.0.header)

rising : (start : ℕ) (blocks : List HunkBlock) → AllByRecursion IsHunkBlock blocks → (i j : ℕ) → i ≤ j → j < length (bounds start blocks) → get_or (bounds start blocks) i 0 ≤ get_or (bounds start blocks) j 0
rising start blocks laid zero zero h l = omega arith
rising start blocks laid zero (suc j) h l =
    omega (arith, least_end start blocks j (get_or (ends_from start blocks) j 0) laid (slice_get-get_or (ends_from start blocks) j 0 (omega (arith, l))))
rising start blocks laid (suc i) zero h l = absurd (omega (arith, h))
rising start [] laid (suc i) (suc j) h l = absurd (omega (arith, l))
rising start (b ∷ bs) laid (suc i) (suc j) h l = rising (start + b.size) bs laid.1 i j (omega (arith, h)) (omega (arith, l))

read_at : (start : ℕ) (blocks : List HunkBlock) (i header place : ℕ) (b : HunkBlock) → AllByRecursion IsHunkBlock blocks → header + 16 ≡ place → slice_get (bounds start blocks) i ≡ Some header → slice_get blocks i ≡ Some b →
    bytes_from start blocks place ≡ Some b.bytes
read_at start [] i header place b laid e h is = absurd (cc)
read_at start (c ∷ cs) zero header place b laid e h is =
    let here : start ≡ header = cc in
    let same : c ≡ b = cc in
    rw (eq-eqb (start + 16) place (omega (arith, here, e))) (ap (λ (x : HunkBlock). Some x.bytes) same)
read_at start (c ∷ cs) (suc i) header place b laid e h is =
    rw (ne_eqb (start + 16) place (λ same. absurd (omega (arith, same, e, least_end start (c ∷ cs) i header laid h))))
    (read_at (start + c.size) cs i header place b laid.1 e h is)

written_at : (start : ℕ) (blocks : List HunkBlock) (i header place : ℕ) (b : HunkBlock) (bytes : List ℕ) → AllByRecursion IsHunkBlock blocks → header + 16 ≡ place → slice_get (bounds start blocks) i ≡ Some header → slice_get blocks i ≡ Some b →
    with_bytes_from start blocks place bytes ≡ set blocks i (with_bytes b bytes)
written_at start [] i header place b bytes laid e h is = absurd (cc)
written_at start (c ∷ cs) zero header place b bytes laid e h is =
    let here : start ≡ header = cc in
    let same : c ≡ b = cc in
    rw (eq-eqb (start + 16) place (omega (arith, here, e))) (ap (λ (x : HunkBlock). with_bytes x bytes ∷ cs) same)
written_at start (c ∷ cs) (suc i) header place b bytes laid e h is =
    rw (ne_eqb (start + 16) place (λ same. absurd (omega (arith, same, e, least_end start (c ∷ cs) i header laid h))))
    (ap (λ xs. c ∷ xs) (written_at (start + c.size) cs i header place b bytes laid.1 e h is))

-- no payload lies behind the last end
inside_at : (start : ℕ) (blocks : List HunkBlock) (i header place : ℕ) → AllByRecursion IsHunkBlock blocks → header + 16 ≡ place → slice_get (bounds start blocks) i ≡ Some header → IsSome (bytes_from start blocks place) → i < length blocks
inside_at start [] i header place laid e h there = absurd (cc)
inside_at start (c ∷ cs) zero header place laid e h there = omega arith
inside_at start (c ∷ cs) (suc i) header place laid e h there =
    let off = ne_eqb (start + 16) place (λ same. absurd (omega (arith, same, e, least_end start (c ∷ cs) i header laid h))) in
    let rest : IsSome (bytes_from (start + c.size) cs place) = rw off at there in
    omega (arith, inside_at (start + c.size) cs i header place laid.1 e h rest)

unread : (start : ℕ) (blocks : List HunkBlock) (place : ℕ) → ((k : ℕ) → k < length (bounds start blocks) → get_or (bounds start blocks) k 0 + 16 ≢ place) → bytes_from start blocks place ≡ None
unread start [] place off = refl
unread start (c ∷ cs) place off = rw (ne_eqb (start + 16) place (off 0 (omega arith))) (unread (start + c.size) cs place (λ k l. off (suc k) (omega (arith, l))))

pub payload_least : (low : List HunkBlock) (place : ℕ) → IsSome (bytes_above low place) → 16 ≤ place
payload_least [] place there = absurd (cc)
payload_least (zone ∷ blocks) place there = elim (cases_lt place 16) [
  | inl below ↦ let none = unread zone.size blocks place (λ k l same. absurd (omega (arith, same, below))) in let empty : false ≡ true = rw none at there in cc
  | inr above ↦ above
]

-- The block of a payload's place stands behind the one that ends where its header is.
pub low_found : (low : List HunkBlock) (header place : ℕ) (r : Result ℕ ℕ) → AreLowBlocks low → header + 16 ≡ place → IsSome (bytes_above low place) → IsBinarySearchResult (λ y. nat_cmp y header) (ends_from 0 low) r →
    MatchResult r (λ i. IsAt low place (i + 1)) (λ i. ⊥)
low_found [] header place r laid e there found = absurd laid
low_found (zone ∷ blocks) header place r laid e there found = by_result r (searched (bounds zone.size blocks) header r (subst (λ ends. IsBinarySearchResult (λ y. nat_cmp y header) ends r) (ends-zone zone blocks) found) (rising zone.size blocks laid.1))
  where
    by_result : (q : Result ℕ ℕ) → MatchResult q (λ i. (i < length (bounds zone.size blocks)) × (get_or (bounds zone.size blocks) i 0 ≡ header)) (λ i. (i ≤ length (bounds zone.size blocks)) × ((k : ℕ) → k < i → get_or (bounds zone.size blocks) k 0 < header) × ((k : ℕ) → i ≤ k → k < length (bounds zone.size blocks) → header < get_or (bounds zone.size blocks) k 0)) →
        MatchResult q (λ i. IsAt (zone ∷ blocks) place (i + 1)) (λ i. ⊥)
    by_result (Ok i) at =
        let here : slice_get (bounds zone.size blocks) i ≡ Some header = slice_get-get_or (bounds zone.size blocks) i 0 at.0 ∙ ap Some at.1 in
        rw add-one (record {
          inside = omega (arith, inside_at zone.size blocks i header place laid.1 e here there);
          reads = λ b is. read_at zone.size blocks i header place b laid.1 e here is;
          writes = λ b bytes is. ap (λ xs. zone ∷ xs) (written_at zone.size blocks i header place b bytes laid.1 e here is);
        })
    by_result (Err i) at =
        let none = unread zone.size blocks place (λ k l same. elim (cases_lt k i) [
          | inl before ↦ absurd (omega (arith, at.1 k before, same, e))
          | inr behind ↦ absurd (omega (arith, at.2 k behind l, same, e))
        ]) in
        let empty : false ≡ true = rw none at there in cc

kept_at : (start : ℕ) (blocks : List HunkBlock) (i mark : ℕ) → AllByRecursion IsHunkBlock blocks → slice_get (bounds start blocks) i ≡ Some mark → cut_from start blocks mark ≡ Some (take i blocks)
kept_at start [] zero mark laid h = let here : start ≡ mark = cc in rw (eq-eqb start mark here) refl
kept_at start [] (suc i) mark laid h = absurd (cc)
kept_at start (c ∷ cs) zero mark laid h = let here : start ≡ mark = cc in rw (eq-eqb start mark here) refl
kept_at start (c ∷ cs) (suc i) mark laid h =
    rw (ne_eqb start mark (λ same. absurd (omega (arith, same, least_end start (c ∷ cs) i mark laid h))))
    (ap (option_map (λ kept. c ∷ kept)) (kept_at (start + c.size) cs i mark laid.1 h))

ends_at : (start : ℕ) (blocks : List HunkBlock) (i mark : ℕ) → slice_get (bounds start blocks) i ≡ Some mark → start + size_of (take i blocks) ≡ mark
ends_at start blocks zero mark h = let here : start ≡ mark = cc in omega (arith, here)
ends_at start [] (suc i) mark h = absurd (cc)
ends_at start (c ∷ cs) (suc i) mark h = omega (arith, ends_at (start + c.size) cs i mark h)

uncut : (start : ℕ) (blocks : List HunkBlock) (mark : ℕ) → ((k : ℕ) → k < length (bounds start blocks) → get_or (bounds start blocks) k 0 ≢ mark) → cut_from start blocks mark ≡ None
uncut start [] mark off = rw (ne_eqb start mark (off 0 (omega arith))) refl
uncut start (c ∷ cs) mark off =
    rw (ne_eqb start mark (off 0 (omega arith))) (ap (option_map (λ kept. c ∷ kept)) (uncut (start + c.size) cs mark (λ k l. off (suc k) (omega (arith, l)))))

-- A mark keeps the low blocks up to the one that ends there.
pub low_cut : (low : List HunkBlock) (mark : ℕ) (r : Result ℕ ℕ) (last : Option ℕ) → AreLowBlocks low → IsBinarySearchResult (λ y. nat_cmp y mark) (ends_from 0 low) r → last ≡ result_ok r →
    MatchOption last (cut_above low mark ≡ None) (λ i. IsCut low mark (i + 1))
low_cut [] mark r last laid found is = absurd laid
low_cut (zone ∷ blocks) mark r last laid found is = rw is (by_result r (searched (bounds zone.size blocks) mark r (subst (λ ends. IsBinarySearchResult (λ y. nat_cmp y mark) ends r) (ends-zone zone blocks) found) (rising zone.size blocks laid.1)))
  where
    by_result : (q : Result ℕ ℕ) → MatchResult q (λ i. (i < length (bounds zone.size blocks)) × (get_or (bounds zone.size blocks) i 0 ≡ mark)) (λ i. (i ≤ length (bounds zone.size blocks)) × ((k : ℕ) → k < i → get_or (bounds zone.size blocks) k 0 < mark) × ((k : ℕ) → i ≤ k → k < length (bounds zone.size blocks) → mark < get_or (bounds zone.size blocks) k 0)) →
        MatchOption (result_ok q) (cut_above (zone ∷ blocks) mark ≡ None) (λ i. IsCut (zone ∷ blocks) mark (i + 1))
    by_result (Ok i) at =
        let here : slice_get (bounds zone.size blocks) i ≡ Some mark = slice_get-get_or (bounds zone.size blocks) i 0 at.0 ∙ ap Some at.1 in
        rw add-one (record {
          some = omega arith;
          kept = ap (option_map (λ kept. zone ∷ kept)) (kept_at zone.size blocks i mark laid.1 here);
          ends = ends_at zone.size blocks i mark here;
        })
    by_result (Err i) at = ap (option_map (λ kept. zone ∷ kept)) (uncut zone.size blocks mark (λ k l same. elim (cases_lt k i) [
      | inl before ↦ absurd (omega (arith, at.1 k before, same))
      | inr behind ↦ absurd (omega (arith, at.2 k behind l, same))
    ]))

-- So with the high blocks, at a mark that keeps one.
pub high_cut : (high : List HunkBlock) (mark : ℕ) (r : Result ℕ ℕ) (last : Option ℕ) → AllByRecursion IsHunkBlock high → mark ≢ 0 → IsBinarySearchResult (λ y. nat_cmp y mark) (ends_from 0 high) r → last ≡ result_ok r →
    MatchOption last (cut_from 0 high mark ≡ None) (λ i. IsHighCut high mark (i + 1))
high_cut high mark r last laid some found is =
    rw is (by_result r (searched (ends_from 0 high) mark r found (λ i j h l. rising 0 high laid (suc i) (suc j) (omega (arith, h)) (omega (arith, l)))))
  where
    by_result : (q : Result ℕ ℕ) → MatchResult q (λ i. (i < length (ends_from 0 high)) × (get_or (ends_from 0 high) i 0 ≡ mark)) (λ i. (i ≤ length (ends_from 0 high)) × ((k : ℕ) → k < i → get_or (ends_from 0 high) k 0 < mark) × ((k : ℕ) → i ≤ k → k < length (ends_from 0 high) → mark < get_or (ends_from 0 high) k 0)) →
        MatchOption (result_ok q) (cut_from 0 high mark ≡ None) (λ i. IsHighCut high mark (i + 1))
    by_result (Ok i) at =
        let here : slice_get (bounds 0 high) (suc i) ≡ Some mark = slice_get-get_or (ends_from 0 high) i 0 at.0 ∙ ap Some at.1 in
        rw add-one (record {
          kept = kept_at 0 high (suc i) mark laid here;
          ends = omega (arith, ends_at 0 high (suc i) mark here);
        })
    by_result (Err i) at = uncut 0 high mark off
      where
        off : (k : ℕ) → k < length (bounds 0 high) → get_or (bounds 0 high) k 0 ≢ mark
        off zero l same = absurd (some (sym same))
        off (suc k) l same = elim (cases_lt k i) [
          | inl before ↦ absurd (omega (arith, at.1 k before, same))
          | inr behind ↦ absurd (omega (arith, at.2 k behind (omega (arith, l)), same))
        ]

-- The mark 0 keeps no high block.
pub high_cut-none : (high : List HunkBlock) (mark : ℕ) → mark ≡ 0 → IsHighCut high mark 0
high_cut-none [] mark e = rw e (record { kept = refl; ends = refl })
high_cut-none (b ∷ bs) mark e = rw e (record { kept = refl; ends = refl })

-- The blocks that lie downwards from `end` end from `start` on: what is read and written at a place where one of them ends.
read_down : (end start : ℕ) (blocks : List HunkBlock) (i mark place : ℕ) (b : HunkBlock) → AllByRecursion IsHunkBlock blocks → size_of blocks ≤ end → mark + place ≡ (end + start) + 16 → slice_get (ends_from start blocks) i ≡ Some mark → slice_get blocks i ≡ Some b →
    bytes_down end blocks place ≡ Some b.bytes
read_down end start [] i mark place b laid fits e h is = absurd (cc)
read_down end start (c ∷ cs) zero mark place b laid fits e h is =
    let here : start + c.size ≡ mark = cc in
    let same : c ≡ b = cc in
    rw (eq-eqb ((end - c.size) + 16) place (omega (arith, here, e, fits))) (ap (λ (x : HunkBlock). Some x.bytes) same)
read_down end start (c ∷ cs) (suc i) mark place b laid fits e h is =
    rw (ne_eqb ((end - c.size) + 16) place (λ same. absurd (omega (arith, same, e, fits, least_end (start + c.size) cs i mark laid.1 h))))
    (read_down (end - c.size) (start + c.size) cs i mark place b laid.1 (omega (arith, fits)) (omega (arith, e, fits)) h is)

written_down : (end start : ℕ) (blocks : List HunkBlock) (i mark place : ℕ) (b : HunkBlock) (bytes : List ℕ) → AllByRecursion IsHunkBlock blocks → size_of blocks ≤ end → mark + place ≡ (end + start) + 16 → slice_get (ends_from start blocks) i ≡ Some mark → slice_get blocks i ≡ Some b →
    with_bytes_down end blocks place bytes ≡ set blocks i (with_bytes b bytes)
written_down end start [] i mark place b bytes laid fits e h is = absurd (cc)
written_down end start (c ∷ cs) zero mark place b bytes laid fits e h is =
    let here : start + c.size ≡ mark = cc in
    let same : c ≡ b = cc in
    rw (eq-eqb ((end - c.size) + 16) place (omega (arith, here, e, fits))) (ap (λ (x : HunkBlock). with_bytes x bytes ∷ cs) same)
written_down end start (c ∷ cs) (suc i) mark place b bytes laid fits e h is =
    rw (ne_eqb ((end - c.size) + 16) place (λ same. absurd (omega (arith, same, e, fits, least_end (start + c.size) cs i mark laid.1 h))))
    (ap (λ xs. c ∷ xs) (written_down (end - c.size) (start + c.size) cs i mark place b bytes laid.1 (omega (arith, fits)) (omega (arith, e, fits)) h is))

unread_down : (end start : ℕ) (blocks : List HunkBlock) (place : ℕ) → size_of blocks ≤ end → ((k : ℕ) → k < length (ends_from start blocks) → get_or (ends_from start blocks) k 0 + place ≢ (end + start) + 16) → bytes_down end blocks place ≡ None
unread_down end start [] place fits off = refl
unread_down end start (c ∷ cs) place fits off =
    rw (ne_eqb ((end - c.size) + 16) place (λ same. (let here : (start + c.size) + place ≡ (end + start) + 16 = omega (arith, same, fits) in off 0 (omega arith) here)))
    (unread_down (end - c.size) (start + c.size) cs place (omega (arith, fits)) (λ k l same. off (suc k) (omega (arith, l)) (omega (arith, same, fits))))

-- No payload lies further up than the header's size behind the end.
pub payload_most : (end : ℕ) (blocks : List HunkBlock) (place : ℕ) → IsSome (bytes_down end blocks place) → place ≤ end + 16
payload_most end [] place there = absurd (cc)
payload_most end (b ∷ bs) place there = elim (eqb_tells ((end - b.size) + 16) place) [
  | inl at ↦ omega (arith, at.1)
  | inr off ↦ let rest : IsSome (bytes_down (end - b.size) bs place) = rw off.0 at there in omega (arith, payload_most (end - b.size) bs place rest)
]

-- The high block of a payload's place is the one that ends as far below the arena's end as its header is.
pub high_found : (top : ℕ) (high : List HunkBlock) (mark place : ℕ) (r : Result ℕ ℕ) → AllByRecursion IsHunkBlock high → size_of high ≤ top → mark + place ≡ top + 16 → IsSome (bytes_down top high place) → IsBinarySearchResult (λ y. nat_cmp y mark) (ends_from 0 high) r →
    MatchResult r (λ i. IsHighAt top high place i) (λ i. ⊥)
high_found top high mark place r laid fits e there found =
    by_result r (searched (ends_from 0 high) mark r found (λ i j h l. rising 0 high laid (suc i) (suc j) (omega (arith, h)) (omega (arith, l))))
  where
    by_result : (q : Result ℕ ℕ) → MatchResult q (λ i. (i < length (ends_from 0 high)) × (get_or (ends_from 0 high) i 0 ≡ mark)) (λ i. (i ≤ length (ends_from 0 high)) × ((k : ℕ) → k < i → get_or (ends_from 0 high) k 0 < mark) × ((k : ℕ) → i ≤ k → k < length (ends_from 0 high) → mark < get_or (ends_from 0 high) k 0)) →
        MatchResult q (λ i. IsHighAt top high place i) (λ i. ⊥)
    by_result (Ok i) at =
        let here : slice_get (ends_from 0 high) i ≡ Some mark = slice_get-get_or (ends_from 0 high) i 0 at.0 ∙ ap Some at.1 in
        record {
          inside = omega (arith, at.0, length-ends 0 high);
          reads = λ b is. read_down top 0 high i mark place b laid fits (omega (arith, e)) here is;
          writes = λ b bytes is. written_down top 0 high i mark place b bytes laid fits (omega (arith, e)) here is;
        }
    by_result (Err i) at =
        let none = unread_down top 0 high place fits (λ k l same. elim (cases_lt k i) [
          | inl before ↦ absurd (omega (arith, at.1 k before, same, e))
          | inr behind ↦ absurd (omega (arith, at.2 k behind l, same, e))
        ]) in
        let empty : false ≡ true = rw none at there in cc
