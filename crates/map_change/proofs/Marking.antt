-- Marks of the low hunk stay marks over what is done to the memory.
use Prim.Native.Nat.{zero, suc}
use Rattle.std.proofs.Common.{◌≡◌, ℕ, ◌+◌, ◌<◌, ◌≤◌, List, [], ◌∷◌, ◌++◌, length, take, drop, Bool, true, false, cond, eqb, ltb, Option, Some, None, option_map, Result, Ok, inl, inr, ◌⊎◌, refl, sym, ◌∙◌, ap, subst, arith, length-append}
use Rattle.std.specs.List.{AllByRecursion}
use Rattle.std.proofs.lemmas.List.{take-append-le, take-append-drop}
use Rattle.std.proofs.lemmas.Bool.{cases_lt}
use Rattle.std.proofs.lemmas.Bool.Decides.{nat_tests}
use Rattle.mem_model.specs.Blocks.{HunkBlock}
use Rattle.mem_model.specs.Memory.{Memory, size_of, room}
use Rattle.mem_model.specs.Answer.{Answered, Gives, with_event}
use Rattle.mem_model.specs.Event.{Event, Shortage}
use Rattle.mem_model.specs.Places.{hunk_need}
use Rattle.mem_model.specs.Hunk.{hunk_block, with_low, cut_from, cut_above}
use Rattle.mem_model.specs.Operations.{low_alloc, low_free, low_cut}
use Rattle.mem_model.specs.Laid.{IsHunkBlock, AreLowBlocks}
use Rattle.mem_model.proofs.Laying.{size_of-take, low-take}
use Rattle.mem_model.proofs.Cuts.{cut_whole}
use Rattle.map_change.specs.Marks.{IsLowMark}

-- where the low hunk ends
pub mark_at_end : (low : List HunkBlock) → AreLowBlocks low → IsLowMark low (size_of low)
mark_at_end [] laid = absurd laid
mark_at_end (zone ∷ blocks) laid = record {
  count = length (zone ∷ blocks);
  some = omega arith;
  inside = omega arith;
  ends = ap size_of (take_whole (zone ∷ blocks));
}
  where
    take_whole : (xs : List HunkBlock) → take (length xs) xs ≡ xs
    take_whole [] = refl
    take_whole (x ∷ xs) = ap (λ (l : List HunkBlock). x ∷ l) (take_whole xs)

pub mark_within : (low : List HunkBlock) (mark : ℕ) → IsLowMark low mark → mark ≤ size_of low
mark_within low mark is = omega (arith, size_of-take is.count low, is.ends)

-- more blocks above it
pub mark_below : (low more : List HunkBlock) (mark : ℕ) → IsLowMark low mark → IsLowMark (low ++ more) mark
mark_below low more mark is = record {
  count = is.count;
  some = is.some;
  inside = omega (arith, is.inside, length-append low more);
  ends = ap size_of (take-append-le is.count low more is.inside) ∙ is.ends;
}

low-with_event : (m : Memory) (event : Event) → (with_event m event).low ≡ m.low
low-with_event m event = by (ltb (length m.events) m.event_room)
  where
    by : (t : Bool) → (cond t (record m { events = m.events ++ event ∷ [] }) m).low ≡ m.low
    by true = refl
    by false = refl

either : {A : Type 0} (t : Bool) (a b : Answered A) (P : Memory → Type 0) → P a.after → P b.after → P (cond t a b).after
either true a b P one other = one
either false a b P one other = other

-- a low block was asked for
pub mark_alloc : (m : Memory) (size mark : ℕ) (name : List ℕ) → IsLowMark m.low mark → IsLowMark (low_alloc m size name).after.low mark
unfolding low_alloc with_low
mark_alloc m size mark name is =
    subst (λ l. IsLowMark l mark) (sym (low-with_event _ _)) (either (ltb (room m) (hunk_need size)) _ _ (λ n. IsLowMark n.low mark) is (mark_below m.low (hunk_block (hunk_need size) name ∷ []) mark is))

pub mark_given : (m n : Memory) (size mark : ℕ) (name : List ℕ) (frugal : Bool) (reply : Option (Result ℕ Shortage)) → Gives (low_alloc m size name) frugal m reply n → IsLowMark m.low mark → IsLowMark n.low mark
mark_given m n size mark name frugal None gives is = subst (λ (x : Memory). IsLowMark x.low mark) (sym gives.after) is
mark_given m n size mark name frugal (Some reply) gives is = subst (λ (x : Memory). IsLowMark x.low mark) (sym gives.after) (mark_alloc m size mark name is)

-- what a cut keeps: so many of the first blocks, which end at the mark
record IsKept (start to : ℕ) (blocks kept : List HunkBlock) : Type 0 where
  inside : length kept ≤ length blocks
  is : kept ≡ take (length kept) blocks
  ends : start + size_of kept ≡ to

kept_none : (start to : ℕ) (blocks : List HunkBlock) → eqb start to ≡ true → IsKept start to blocks []
kept_none start to blocks same = record { inside = omega arith; is = refl; ends = let e : start ≡ to = grind (arith, nat_tests) in omega (arith, e) }

kept_more : (start to : ℕ) (b : HunkBlock) (bs kept : List HunkBlock) → IsKept (start + b.size) to bs kept → IsKept start to (b ∷ bs) (b ∷ kept)
kept_more start to b bs kept k = record { inside = omega (arith, k.inside); is = ap (λ l. b ∷ l) k.is; ends = omega (arith, k.ends) }

cut_keeps : (start : ℕ) (blocks : List HunkBlock) (to : ℕ) (kept : List HunkBlock) → cut_from start blocks to ≡ Some kept → IsKept start to blocks kept
cut_keeps start [] to kept is = by (eqb start to) refl is
  where
    by : (t : Bool) → eqb start to ≡ t → cond t (Some []) None ≡ Some kept → IsKept start to [] kept
    by true test same = let empty : [] ≡ kept = cc (same) in subst (λ l. IsKept start to [] l) empty (kept_none start to [] test)
    by false test same = absurd (cc)
cut_keeps start (b ∷ bs) to kept is = by (eqb start to) refl (cut_from (start + b.size) bs to) (cut_keeps (start + b.size) bs to) is
  where
    by : (t : Bool) → eqb start to ≡ t → (rest : Option (List HunkBlock)) → ((k : List HunkBlock) → rest ≡ Some k → IsKept (start + b.size) to bs k) → cond t (Some []) (option_map (λ k. b ∷ k) rest) ≡ Some kept → IsKept start to (b ∷ bs) kept
    by true test rest later same = let empty : [] ≡ kept = cc (same) in subst (λ l. IsKept start to (b ∷ bs) l) empty (kept_none start to (b ∷ bs) test)
    by false test None later same = absurd (cc)
    by false test (Some k) later same = let more : b ∷ k ≡ kept = cc (same) in subst (λ l. IsKept start to (b ∷ bs) l) more (kept_more start to b bs k (later k refl))

size_more : (k n : ℕ) (blocks : List HunkBlock) → AllByRecursion IsHunkBlock blocks → k < n → n ≤ length blocks → size_of (take k blocks) < size_of (take n blocks)
size_more k zero blocks all less inside = absurd (omega arith)
size_more k (suc n) [] all less inside = absurd (omega arith)
size_more zero (suc n) (b ∷ bs) all less inside = omega (arith, all.0.header)
size_more (suc k) (suc n) (b ∷ bs) all less inside = omega (arith, size_more k n bs all.1 (omega arith) (omega arith))

take_fewer : (n k : ℕ) (xs : List HunkBlock) → n ≤ k → take n (take k xs) ≡ take n xs
take_fewer zero k xs less = refl
take_fewer (suc n) zero xs less = absurd (omega arith)
take_fewer (suc n) (suc k) [] less = refl
take_fewer (suc n) (suc k) (x ∷ xs) less = ap (λ (l : List HunkBlock). x ∷ l) (take_fewer n k xs (omega arith))

-- the low hunk was cut at a mark that isn't below
mark_cut : (zone : HunkBlock) (blocks kept : List HunkBlock) (to mark : ℕ) → AllByRecursion IsHunkBlock blocks → IsKept zone.size to blocks kept → mark ≤ to → (n : ℕ) → n ≤ length blocks → zone.size + size_of (take n blocks) ≡ mark → IsLowMark (zone ∷ kept) mark
mark_cut zone blocks kept to mark all is above n inside ends =
    let within : n ≤ length kept = fewer (cases_lt (length kept) n) in
    let front : take n kept ≡ take n blocks = ap (take n) is.is ∙ take_fewer n (length kept) blocks within in
    record {
      count = suc n;
      some = omega arith;
      inside = omega (arith, within);
      ends = ap (λ (l : List HunkBlock). zone.size + size_of l) front ∙ ends;
    }
  where
    fewer : (length kept < n) ⊎ (n ≤ length kept) → n ≤ length kept
    fewer (inr less) = less
    fewer (inl more) = absurd (omega (arith, size_more (length kept) n blocks all more inside, ap size_of is.is, is.ends, ends, above))

pub mark_freed : (m : Memory) (to mark : ℕ) → AreLowBlocks m.low → IsLowMark m.low mark → mark ≤ to → IsLowMark (low_free m to).after.low mark
unfolding low_free
mark_freed m to mark laid is above = subst (λ l. IsLowMark l mark) (sym (low-with_event _ _)) (by m.low laid is (cut_above m.low to) refl)
  where
    cut : (zone : HunkBlock) (blocks kept : List HunkBlock) → AllByRecursion IsHunkBlock blocks → (n : ℕ) → 0 < n → n ≤ length (zone ∷ blocks) → size_of (take n (zone ∷ blocks)) ≡ mark → IsKept zone.size to blocks kept → IsLowMark (zone ∷ kept) mark
    cut zone blocks kept all zero some inside ends k = absurd (omega (arith, some))
    cut zone blocks kept all (suc n) some inside ends k = mark_cut zone blocks kept to mark all k above n (omega (arith, inside)) ends

    kept_by : (zone : HunkBlock) (blocks : List HunkBlock) → AllByRecursion IsHunkBlock blocks → IsLowMark (zone ∷ blocks) mark → (rest : Option (List HunkBlock)) → ((k : List HunkBlock) → rest ≡ Some k → IsKept zone.size to blocks k)
        → (kept : List HunkBlock) → option_map (λ k. zone ∷ k) rest ≡ Some kept → IsLowMark kept mark
    kept_by zone blocks all is None each kept same = absurd (cc)
    kept_by zone blocks all is (Some k) each kept same =
        let more : zone ∷ k ≡ kept = cc (same) in
        subst (λ l. IsLowMark l mark) more (cut zone blocks k all is.count is.some is.inside is.ends (each k refl))

    by : (low : List HunkBlock) → AreLowBlocks low → IsLowMark low mark → (kept : Option (List HunkBlock)) → cut_above low to ≡ kept → IsLowMark (low_cut (record m { low = low }) to kept).after.low mark
    by low laid is None same = is
    by [] laid is (Some kept) same = absurd laid
    by (zone ∷ blocks) laid is (Some kept) same = kept_by zone blocks laid.1 is (cut_from zone.size blocks to) (cut_keeps zone.size blocks to) kept same

-- The low hunk can be freed to such a mark.
pub mark_lawful : (m : Memory) (mark : ℕ) → AreLowBlocks m.low → IsLowMark m.low mark → (low_free m mark).answer ≡ Ok tt
unfolding low_free
mark_lawful m mark laid is =
    let kept : cut_above m.low mark ≡ Some (take is.count m.low) =
    ap (λ (l : List HunkBlock). cut_above l mark) (sym (take-append-drop is.count m.low)) ∙ cut_whole (take is.count m.low) (drop is.count m.low) mark (low-take is.count m.low is.some laid) is.ends in
    ap (λ (k : Option (List HunkBlock)). (low_cut m mark k).answer) kept
