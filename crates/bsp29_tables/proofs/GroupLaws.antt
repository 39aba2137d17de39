-- The texture that counts for a frame of a group stands last among those that aren't behind the frame.
use Rattle.std.proofs.Common.{◌≡◌, ℕ, ◌-◌, ◌≤◌, ◌<◌, inl, inr, Bool, true, false, cond, ◌&&◌}
use Rattle.std.proofs.Common.{List, length, get_or, drop, filter, Option, Some, None, is_some}
use Rattle.std.proofs.Common.{refl, sym, ap, ◌∙◌, arith}
use Rattle.std.specs.Prelude.{bytes_eq, ◌==◌}
use Rattle.std.specs.List.{range_with_len, All}
use Rattle.std.specs.List.Sorted.{IsSortedBy, IsPartitionedBy, IsPartitionPoint, IsPermutation}
use Rattle.std.specs.Fn.{ComputesKey}
use denote.Param.Members.{Mut}
use denote.Ref.{Bor}
use Rattle.std.specs.Cmp.{IsTotalOrder, IsStrictWeakOrder}
use Rattle.std.specs.Cmp.Lexicographic.{slice_cmp}
use Rattle.std.specs.Ordering.{nat_cmp, ordering_then, ordering_reverse, is_lt, is_le, is_eq, is_gt}
use Rattle.std.specs.declared.cmp.Ordering.{Ordering}
use Rattle.std.specs.declared.cmp.Ordering.TheVariants.{Less, Equal, Greater}
use Rattle.std.proofs.lemmas.Bool.Decides.{eqb_tells, leb_tells}
use Rattle.std.proofs.lemmas.Cmp.{nat_cmp_total, nat_list_cmp_total, on_total, then_total, tied_itself, upto, ranked}
use Rattle.std.proofs.lemmas.List.{get_or_default}
use Rattle.std.proofs.lemmas.List.Sorted.{sorted_far, ranks_by, All-permutation, Contains-permutation}
use Rattle.std.proofs.lemmas.List.Elements.{All-filter, filter_passes}
use Rattle.std.proofs.lemmas.List.FromFn.{length-range_with_len, get_or-range_with_len}
use Rattle.std.proofs.lemmas.Map.Text.{is_eq-slice_cmp}
use Rattle.std.proofs.lemmas.Slice.Eq.{bytes_eq-Decides}
use Rattle.bsp29_tables.specs.Textures.{texture_count}
use Rattle.bsp29_tables.specs.Cycles.{name_of, is_animating, frame_told, frame_of, is_frame, is_member, group_of, shown_of}
use Rattle.bsp29_tables.specs.Grouped.{frame_or_zero, frame_cmp, texture_cmp, IsShown, IsGrouped}
use Rattle.bsp29_tables.proofs.LastLaws.{last_none, last_some, kept}

-- ---- the order is one

-- a frame of a group: its bytes and the frame
abbrev Place : Type 0
Place = List ℕ × ℕ

abbrev place_of : List ℕ → Place
place_of name = (drop 2 name, frame_or_zero (frame_of name))

abbrev place_cmp : Place → Place → Ordering
place_cmp a b = ordering_then (slice_cmp nat_cmp a.0 b.0) (nat_cmp a.1 b.1)

place_total : IsTotalOrder place_cmp
place_total = then_total (on_total (λ (a : Place). a.0) nat_list_cmp_total) (on_total (λ (a : Place). a.1) nat_cmp_total)

texture_total : (lump : List ℕ) → IsTotalOrder (texture_cmp lump)
unfolding texture_cmp frame_cmp
texture_total lump = then_total (on_total (λ texture. place_of (name_of lump texture)) place_total) nat_cmp_total

pub texture_ranks : (lump : List ℕ) → IsStrictWeakOrder (λ a b. is_lt (texture_cmp lump a b))
texture_ranks lump = ranks_by (texture_total lump) (λ (a : ℕ). a)

not_behind : (o next : Ordering) → is_lt (ordering_then o next) ≡ false → is_gt (ordering_reverse o) ≡ false
not_behind Less next e = absurd cc
not_behind Equal next e = refl
not_behind Greater next e = refl

le_from_gt : (o : Ordering) → is_gt o ≡ false → is_le o ≡ true
le_from_gt Less e = refl
le_from_gt Equal e = refl
le_from_gt Greater e = absurd cc

gt_from_le : (o : Ordering) → is_le o ≡ true → is_gt o ≡ false
gt_from_le Less e = refl
gt_from_le Equal e = refl
gt_from_le Greater e = absurd cc

-- where one texture isn't behind the frame, none before it is
pub parted : (lump order rest : List ℕ) (frame : ℕ) → IsGrouped lump order
    → IsPartitionedBy (λ texture. is_le (frame_cmp (name_of lump texture) rest frame)) order
unfolding frame_cmp texture_cmp
parted lump order rest frame so i j d le lt is =
    let first = place_of (name_of lump (get_or order i d)) in
    let second = place_of (name_of lump (get_or order j d)) in
    let up = sorted_far (λ a b. is_lt (texture_cmp lump a b)) (texture_ranks lump) order so.sorted i j d le lt in
    let under : is_gt (place_cmp first second) ≡ false =
    ap is_gt (place_total.antisymm first second) ∙ not_behind (place_cmp second first) _ up in
    le_from_gt _ (upto place_total first second (rest, frame) under (gt_from_le (place_cmp second (rest, frame)) is))

-- ---- the textures that may count

both_true : (a b : Bool) → (a && b) ≡ true → (a ≡ true) × (b ≡ true)
both_true true b e = (refl, e)
both_true false b e = absurd cc

not_true : (a : Bool) → (a ≡ true → ⊥) → a ≡ false
not_true true other = absurd (other refl)
not_true false other = refl

same_bytes : (xs ys : List ℕ) → bytes_eq xs ys ≡ true → xs ≡ ys
same_bytes xs ys e = (bytes_eq-Decides xs ys).0 e

frame_is : (frame : ℕ) (told : Option ℕ) → is_frame frame told ≡ true → told ≡ Some frame
frame_is frame None e = absurd cc
frame_is frame (Some other) e =
    elim (eqb_tells other frame) [ inl same ↦ ap Some same.1 | inr another ↦ absurd (let h = another.0 in cc) ]

tied : (first second : Ordering) → ordering_then first second ≡ Equal → (first ≡ Equal) × (second ≡ Equal)
tied Less second e = absurd cc
tied Equal second e = (refl, e)
tied Greater second e = absurd cc

-- a texture of the group with the frame
record IsCandidate (lump rest : List ℕ) (frame texture : ℕ) : Type 0 where
  shown : frame_of (name_of lump texture) ≡ Some frame
  group : drop 2 (name_of lump texture) ≡ rest

candidate : (lump rest : List ℕ) (frame texture : ℕ) → is_member rest (name_of lump texture) ≡ true
    → is_frame frame (frame_of (name_of lump texture)) ≡ true → IsCandidate lump rest frame texture
candidate lump rest frame texture member has =
    record {
      shown = frame_is frame _ has;
      group = same_bytes _ _ (both_true (is_animating (name_of lump texture)) _ member).1;
    }

candidate_ties : (lump rest : List ℕ) (frame texture : ℕ) → IsCandidate lump rest frame texture
    → frame_cmp (name_of lump texture) rest frame ≡ Equal
unfolding frame_cmp
candidate_ties lump rest frame texture is =
    rw (is.shown, is.group, tied_itself nat_list_cmp_total rest, tied_itself nat_cmp_total frame) refl

shown_frame : (told : Option ℕ) (frame : ℕ) → is_some told ≡ true → nat_cmp (frame_or_zero told) frame ≡ Equal
    → told ≡ Some frame
shown_frame None frame some e = absurd cc
shown_frame (Some other) frame some e = ap Some (ranked other frame Equal (sym e))

ties_candidate : (lump rest : List ℕ) (frame texture : ℕ) → IsShown lump texture
    → frame_cmp (name_of lump texture) rest frame ≡ Equal → IsCandidate lump rest frame texture
unfolding frame_cmp
ties_candidate lump rest frame texture shown e =
    let both = tied (slice_cmp nat_cmp (drop 2 (name_of lump texture)) rest) _ e in
    let same : bytes_eq (drop 2 (name_of lump texture)) rest ≡ true =
    sym (is_eq-slice_cmp (drop 2 (name_of lump texture)) rest) ∙ ap is_eq both.0 in
    record { shown = shown_frame _ frame shown.frame both.1; group = same_bytes _ _ same }

animating : (name : List ℕ) (frame : ℕ) → frame_of name ≡ Some frame → is_animating name ≡ true
animating name frame e = by (is_animating name) (frame_told _) e
  where
    by : (b : Bool) (told : Option ℕ) → cond b told None ≡ Some frame → b ≡ true
    by true told e = refl
    by false told e = absurd cc

same_itself : (xs : List ℕ) → bytes_eq xs xs ≡ true
same_itself xs = (bytes_eq-Decides xs xs).1 refl

candidate_member : (lump rest : List ℕ) (frame texture : ℕ) → IsCandidate lump rest frame texture
    → is_member rest (name_of lump texture) ≡ true
candidate_member lump rest frame texture is =
    rw (animating _ frame is.shown, is.group, same_itself rest) refl

candidate_frame : (lump rest : List ℕ) (frame texture : ℕ) → IsCandidate lump rest frame texture
    → is_frame frame (frame_of (name_of lump texture)) ≡ true
candidate_frame lump rest frame texture is = rw is.shown (same_number frame)
  where
    same_number : (n : ℕ) → (n == n) ≡ true
    same_number n = elim (eqb_tells n n) [ inl same ↦ same.0 | inr another ↦ absurd (another.1 refl) ]

-- ---- the one that counts

-- the textures before the end aren't behind the frame, and the others are
pub record IsEnd (lump order rest : List ℕ) (frame end : ℕ) : Type 0 where
  pub within : end ≤ length order
  pub before : (k : ℕ) (d : ℕ) → k < end → is_le (frame_cmp (name_of lump (get_or order k d)) rest frame) ≡ true
  pub behind : (k : ℕ) (d : ℕ) → end ≤ k → k < length order
      → is_le (frame_cmp (name_of lump (get_or order k d)) rest frame) ≡ false

-- the partition point of the test is the end
pub end_from_point : {F : Type 0} {g : Mut F (Bor ℕ × Unit {0}) Bool} {f : F} {lump order rest : List ℕ}
    {frame end : ℕ} → IsGrouped lump order → end ≤ length order
    → ((test : ℕ → Bool) → ComputesKey g test f → IsPartitionedBy test order
    → IsPartitionPoint (λ t. test t ≡ true) (λ t. test t ≡ false) order end)
    → ComputesKey g (λ t. is_le (frame_cmp (name_of lump t) rest frame)) f → IsEnd lump order rest frame end
end_from_point {lump = lump} {order = order} {rest = rest} {frame = frame} so within parts tests =
    let point = parts (λ t. is_le (frame_cmp (name_of lump t) rest frame)) tests (parted lump order rest frame so) in
    record {
      within = within;
      before = λ k d lt. point.0 k d (omega arith) lt;
      behind = λ k d le lt. point.1 k d le lt;
    }

-- the last before the end has the frame where any has, and no texture that has it has a greater number
record IsAfter (lump order rest : List ℕ) (frame end texture : ℕ) : Type 0 where
  some : 0 < end
  ties : frame_cmp (name_of lump (get_or order (end - 1) 0)) rest frame ≡ Equal
  least : texture ≤ get_or order (end - 1) 0

not_less_is : (a b : ℕ) (o : Ordering) → o ≡ nat_cmp a b → is_lt o ≡ false → b ≤ a
not_less_is a b Less e other = absurd cc
not_less_is a b Equal e other = let same = ranked a b Equal e in omega arith
not_less_is a b Greater e other = let above = ranked a b Greater e in omega arith

last_ties : (o : Ordering) (a b : ℕ) → is_le o ≡ true → is_lt (ordering_then o (nat_cmp a b)) ≡ false
    → (o ≡ Equal) × (b ≤ a)
last_ties Less a b le not_less = absurd cc
last_ties Equal a b le not_less = (refl, not_less_is a b (nat_cmp a b) refl not_less)
last_ties Greater a b le not_less = absurd cc

after : {lump order rest : List ℕ} {frame end : ℕ} (texture : ℕ) → IsGrouped lump order
    → IsEnd lump order rest frame end → texture < texture_count lump → IsCandidate lump rest frame texture
    → IsAfter lump order rest frame end texture
unfolding texture_cmp
after {lump} {order} {rest} {frame} {end} texture so at_end there is =
    let shown : IsShown lump texture = record { there = there; frame = rw is.shown refl } in
    let place = so.whole texture shown in
    let k = place.0 in
    let ties = candidate_ties lump rest frame texture is in
    let stands : get_or order k 0 ≡ texture = get_or_default order k 0 texture place.1 ∙ place.2 in
    let here = ap (λ t. is_le (frame_cmp (name_of lump t) rest frame)) stands ∙ ap is_le ties in
    let before : k < end = inside k here place.1 in
    let last = get_or order (end - 1) 0 in
    let up : is_lt (texture_cmp lump last texture) ≡ false =
    rw stands at (sorted_far (λ a b. is_lt (texture_cmp lump a b)) (texture_ranks lump) order so.sorted k (end - 1) 0
    (omega arith) (omega (arith, at_end.within))) in
    let same = last_ties (frame_cmp (name_of lump last) rest frame) last texture
    (at_end.before (end - 1) 0 (omega arith)) (rw (is.group, is.shown) at up) in
    record { some = omega arith; ties = same.0; least = same.1 }
  where
    inside : (k : ℕ) → is_le (frame_cmp (name_of lump (get_or order k 0)) rest frame) ≡ true → k < length order → k < end
    inside k is lt =
        elim (leb_tells end k) [
          | inl beyond ↦ absurd (let other = at_end.behind k 0 beyond.1 lt in cc)
          | inr within ↦ within.1
        ]

pub none_before : {lump order rest : List ℕ} {frame end : ℕ} → IsGrouped lump order → IsEnd lump order rest frame end
    → end ≡ 0 → shown_of lump rest frame ≡ None
unfolding shown_of group_of
none_before {lump} {order} {rest} {frame} {end} so at_end nothing =
    last_none _ _ None 0 (texture_count lump) (λ k from below member.
    not_true _ (λ has.
    let h = (after k so at_end (omega (arith, below)) (candidate lump rest frame k member has)).some in omega arith))

pub none_ties : {lump order rest : List ℕ} {frame end : ℕ} → IsGrouped lump order → IsEnd lump order rest frame end
    → is_eq (frame_cmp (name_of lump (get_or order (end - 1) 0)) rest frame) ≡ false → shown_of lump rest frame ≡ None
unfolding shown_of group_of
none_ties {lump} {order} {rest} {frame} {end} so at_end other =
    last_none _ _ None 0 (texture_count lump) (λ k from below member.
    not_true _ (λ has.
    let h = (after k so at_end (omega (arith, below)) (candidate lump rest frame k member has)).ties in
    let e : is_eq Equal ≡ false = ap is_eq (sym h) ∙ other in cc))

equal_from_is : (o : Ordering) → is_eq o ≡ true → o ≡ Equal
equal_from_is Less e = absurd cc
equal_from_is Equal e = refl
equal_from_is Greater e = absurd cc

pub last_counts : {lump order rest : List ℕ} {frame end : ℕ} → IsGrouped lump order → IsEnd lump order rest frame end
    → 0 < end → is_eq (frame_cmp (name_of lump (get_or order (end - 1) 0)) rest frame) ≡ true
    → shown_of lump rest frame ≡ Some (get_or order (end - 1) 0)
unfolding shown_of group_of
last_counts {lump} {order} {rest} {frame} {end} so at_end some is =
    let last = get_or order (end - 1) 0 in
    let shown : IsShown lump last = so.shown (end - 1) 0 (omega (arith, at_end.within)) in
    let has = ties_candidate lump rest frame last shown (equal_from_is _ is) in
    last_some _ _ 0 (texture_count lump) last (omega arith) (omega (arith, shown.there))
    (candidate_member lump rest frame last has) (candidate_frame lump rest frame last has)
    (λ k later below member.
    not_true _ (λ told.
    let h = (after k so at_end (omega (arith, below)) (candidate lump rest frame k member told)).least in omega arith)) None

-- ---- the order that sorting makes

abbrev has_frame : List ℕ → ℕ → Bool
has_frame lump texture = is_some (frame_of (name_of lump texture))

pub grouped_from : (lump xs ys : List ℕ)
    → xs ≡ filter (λ texture. is_some (frame_of (name_of lump texture))) (range_with_len 0 (texture_count lump))
    → IsPermutation xs ys → IsSortedBy (λ first second. is_lt (texture_cmp lump first second)) ys → IsGrouped lump ys
grouped_from lump xs ys is same sorted =
    let all = range_with_len 0 (texture_count lump) in
    let below : All (λ t. t < texture_count lump) all =
    λ k d lt.
    let under : k < texture_count lump = rw length-range_with_len at lt in
    rw (get_or-range_with_len 0 (texture_count lump) k d under) (omega arith) in
    let there : All (λ t. t < texture_count lump) xs =
    rw is (All-filter (has_frame lump) (λ t. t < texture_count lump) all below) in
    let frame : All (λ t. has_frame lump t ≡ true) xs = rw is (filter_passes (has_frame lump) all) in
    let shown : All (IsShown lump) xs = λ k d lt. record { there = there k d lt; frame = frame k d lt } in
    record {
      shown = All-permutation (IsShown lump) xs ys same shown;
      whole = λ t shows.
          Contains-permutation xs ys t same
          (rw is (kept (has_frame lump) 0 (texture_count lump) t (omega arith) (omega (arith, shows.there)) shows.frame));
      sorted = sorted;
    }
