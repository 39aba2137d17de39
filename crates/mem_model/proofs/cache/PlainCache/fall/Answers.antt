use Rattle.std.proofs.Common.{◌≡◌, ◌∙◌, ◌<◌, ◌+◌, ◌++◌, ◌∷◌, List, [], Some, None, length, ap, sym, refl, subst, arith}
use Rattle.std.specs.Prelude.{◌^◌}
use Rattle.mem_model.specs.Blocks.{CacheBlock}
use Rattle.mem_model.specs.Memory.{Cache, cache_of}
use Rattle.mem_model.specs.Places.{end_of}
use Rattle.mem_model.specs.Cache.{moved, without, highest_above}
use Rattle.mem_model.specs.Gaps.{IsGap, gap_from, size_of_cache}
use Rattle.mem_model.specs.Turns.{IsMove, IsFall}
use Rattle.mem_model.specs.Laid.{IsCache}
use Rattle.mem_model.proofs.Gaps.{filled}
use Rattle.mem_model.proofs.CacheBlocks.{between-spans}
use Rattle.mem_model.proofs.Falls.{IsHigh, above_last, fall_alone, fall_none, fall_later, fall_crowded, high_size, high_middle, is_highest}
use Rattle.mem_model.proofs.cache.PlainCache.fall.Goals as goal
use Rattle.mem_model.proofs.cache.PlainCache.fall.Goals.{After-split_first, In_ok-first}

whole : (c : After-split_first) → c.self.inside.cells.items ≡ c.in_ok-last.front.now ++ c.in_ok-last.last.now ∷ []
whole c = sym c.deref.ensures.value ∙ c.in_ok-last.ensures.cases.0

whole_now : (c : After-split_first) → c.args.self.now.blocks ≡ c.in_ok-last.front.now ++ c.in_ok-last.last.now ∷ []
whole_now c = sym (ap (λ (m : Cache). m.blocks) c.self.view_is) ∙ whole c

-- the last block is the highest, and ends above the top
highest : (c : After-split_first) → (b : CacheBlock) × (highest_above c.args.top c.args.self.now.blocks ≡ Some b)
highest c = is_highest c.args.top c.args.self.now.blocks c.requires.above

high : (c : After-split_first) → (front : List CacheBlock) → c.in_ok-last.front.now ≡ front → IsHigh c.args.top front c.in_ok-last.last.now c.self.inside.recency.items
high c front e = record {
  order = subst (λ blocks. IsCache (cache_of blocks c.self.inside.recency.items) (2 ^ 32) 0 (2 ^ 26)) (whole c ∙ ap (λ xs. xs ++ c.in_ok-last.last.now ∷ []) e) c.self.invariant.order;
  above = (above_last c.args.top c.in_ok-last.front.now c.in_ok-last.last.now (highest c).0 (ap (highest_above c.args.top) (sym (whole_now c)) ∙ (highest c).1)).1;
  small = c.requires.small;
}

-- what holds of the last block holds of the block that the clause names
named : (c : After-split_first) (front : List CacheBlock) → c.in_ok-last.front.now ≡ front → (P : Cache → CacheBlock → Type 0) → P (cache_of (front ++ c.in_ok-last.last.now ∷ []) c.self.inside.recency.items) c.in_ok-last.last.now →
    (b : CacheBlock) → highest_above c.args.top c.args.self.now.blocks ≡ Some b → P c.args.self.now b
named c front is P p b e =
    let same = (above_last c.args.top c.in_ok-last.front.now c.in_ok-last.last.now b (ap (highest_above c.args.top) (sym (whole_now c)) ∙ e)).0 in
    subst (P c.args.self.now) same (subst (λ m. P m c.in_ok-last.last.now) (ap (λ blocks. cache_of blocks c.self.inside.recency.items) (sym (whole c ∙ ap (λ xs. xs ++ c.in_ok-last.last.now ∷ []) is)) ∙ c.self.view_is) p)

none_left : (xs : List CacheBlock) → length xs ≡ 0 → xs ≡ []
none_left [] h = refl
none_left (x ∷ xs) h = absurd (omega arith)

pub returns-in_err-first : goal.returns-in_err-first
returns-in_err-first c =
    let d = (goal.at.returns-in_err-first c).After-split_first in
    let alone = none_left c.in_ok-last.front.now c.in_err-first.ensures.cases in
    rw c.from_residual-in_err-first.ensures (named d [] alone (λ m x. IsFall c.args.top m (without m x.user)) (fall_alone (high d [] alone)))

front : (c : In_ok-first) → c.in_ok-last.front.now ≡ c.in_ok-first.first.now ∷ c.in_ok-first.middle.now
front c = c.in_ok-first.ensures.cases.0

pub overflow_add-place : goal.overflow_add-place
overflow_add-place c =
    let d = goal.at.overflow_add-place c in
    let h = high d.After-split_first (c.in_ok-first.first.now ∷ c.in_ok-first.middle.now) (front d.In_ok-first) in
    omega (arith, c.place.ensures, h.order.between.0, between-spans (c.in_ok-first.middle.now ++ c.in_ok-last.last.now ∷ []) (end_of c.in_ok-first.first.now) (2 ^ 26) h.order.between.1, c.self.invariant.used, filled c.self.inside.cells.items 0 (2 ^ 26) c.self.invariant.order.between)

pub returns-then-place-self : goal.returns-then-place-self
returns-then-place-self c =
    let d = goal.at.returns-then-place-self c in
    let is = front d.In_ok-first in
    let h = high d.After-split_first (c.in_ok-first.first.now ∷ c.in_ok-first.middle.now) is in
    let full : c.in_ok-last.last.now.place < c.in_ok-first.first.now.place + size_of_cache (c.in_ok-first.first.now ∷ (c.in_ok-first.middle.now ++ c.in_ok-last.last.now ∷ [])) =
    omega (arith, c.if-place-self.true, c.place.ensures, c.place-2.ensures, c.self.invariant.used, ap size_of_cache (whole d.After-split_first ∙ ap (λ xs. xs ++ c.in_ok-last.last.now ∷ []) is)) in
    named d.After-split_first (c.in_ok-first.first.now ∷ c.in_ok-first.middle.now) is (λ m x. IsFall c.args.top m (without m x.user)) (fall_none h (fall_crowded h full))

pub end-requires : goal.end-requires
end-requires c =
    let d = goal.at.end-requires c in
    let h = high d.After-split_first (c.in_ok-first.first.now ∷ c.in_ok-first.middle.now) (front d.In_ok-first) in
    between-spans (c.in_ok-first.middle.now ++ c.in_ok-last.last.now ∷ []) (end_of c.in_ok-first.first.now) (2 ^ 26) h.order.between.1

pub first_gap-requires-clause-sized : goal.first_gap-requires-clause-sized
first_gap-requires-clause-sized c =
    let d = goal.at.first_gap-requires-clause-sized c in
    (high_middle (high d.After-split_first (c.in_ok-first.first.now ∷ c.in_ok-first.middle.now) (front d.In_ok-first))).1

pub first_gap-requires-clause-between : goal.first_gap-requires-clause-between
first_gap-requires-clause-between c =
    let d = goal.at.first_gap-requires-clause-between c in
    rw (c.end.ensures, c.place-3.ensures) (high_middle (high d.After-split_first (c.in_ok-first.first.now ∷ c.in_ok-first.middle.now) (front d.In_ok-first))).0

pub first_gap-requires-clause-small : goal.first_gap-requires-clause-small
first_gap-requires-clause-small c =
    let d = goal.at.first_gap-requires-clause-small c in
    let ends = (high_middle (high d.After-split_first (c.in_ok-first.first.now ∷ c.in_ok-first.middle.now) (front d.In_ok-first))).2 in
    (omega (arith, c.size.ensures, ends), omega (arith, c.place-3.ensures, ends))

pub first_gap-requires-clause-some : goal.first_gap-requires-clause-some
first_gap-requires-clause-some c =
    let d = goal.at.first_gap-requires-clause-some c in
    omega (arith, c.size.ensures, high_size (high d.After-split_first (c.in_ok-first.first.now ∷ c.in_ok-first.middle.now) (front d.In_ok-first)))

pub returns-in_err-gap : goal.returns-in_err-gap
returns-in_err-gap c =
    let d = goal.at.returns-in_err-gap c in
    let is = front d.In_ok-first in
    let h = high d.After-split_first (c.in_ok-first.first.now ∷ c.in_ok-first.middle.now) is in
    let none : gap_from (end_of c.in_ok-first.first.now) c.in_ok-last.last.now.size c.in_ok-last.last.now.place c.in_ok-first.middle.now ≡ None = rw (c.end.ensures, c.size.ensures, c.place-3.ensures) at c.in_err-gap.ensures in
    rw c.from_residual-in_err-gap.ensures (named d.After-split_first (c.in_ok-first.first.now ∷ c.in_ok-first.middle.now) is (λ m x. IsFall c.args.top m (without m x.user)) (fall_none h none))

pub returns : goal.returns
returns c =
    let d = goal.at.returns c in
    let is = front d.In_ok-first in
    let h = high d.After-split_first (c.in_ok-first.first.now ∷ c.in_ok-first.middle.now) is in
    let gap : IsGap c.in_ok-first.middle.now (end_of c.in_ok-first.first.now) c.in_ok-last.last.now.size c.in_ok-last.last.now.place c.in_ok-gap.gap.at c.in_ok-gap.gap.place = rw (c.end.ensures, c.size.ensures, c.place-3.ensures) at c.in_ok-gap.ensures in
    let turn = fall_later h c.in_ok-gap.gap.at (c.in_ok-gap.gap.at + 1) c.in_ok-gap.gap.place (omega arith) gap in
    named d.After-split_first (c.in_ok-first.first.now ∷ c.in_ok-first.middle.now) is (λ m x. IsMove m.blocks x (c.in_ok-gap.gap.at + 1) c.in_ok-gap.gap.place × IsFall c.args.top m (moved m x c.in_ok-gap.gap.place)) (turn.move, turn.fall)
