use Rattle.std.proofs.Common.{◌≡◌, ◌∙◌, ◌<◌, ◌≤◌, ◌+◌, ◌-◌, ◌*◌, ◌/◌, ◌∷◌, ℕ, suc, List, ap, sym, subst, arith}
use Rattle.std.specs.Prelude.{◌^◌, IsSome, MatchOption}
use Rattle.mem_model.specs.Blocks.{CacheBlock}
use Rattle.mem_model.specs.Memory.{Cache, cache_of}
use Rattle.mem_model.specs.Cache.{moved, without, lowest_below}
use Rattle.mem_model.specs.Gaps.{start_of, size_of_cache}
use Rattle.mem_model.specs.Turns.{IsMove, IsRise}
use Rattle.mem_model.specs.Laid.{IsCache, AreBetween}
use Rattle.mem_model.proofs.Gaps.{filled}
use Rattle.mem_model.proofs.Rises.{IsLow, rise_inside, rise_later, rise_none, rise_crowded, low_start, low_sized, below_low, match_map, hops}
use Rattle.mem_model.proofs.cache.PlainCache.rise.Goals as goal
use Rattle.mem_model.proofs.cache.PlainCache.rise.Goals.{After-start_of-limit}

whole : (c : After-start_of-limit) → c.self.inside.cells.items ≡ c.in_ok-first.first.now ∷ c.in_ok-first.rest.now
whole c = sym c.deref.ensures.value ∙ c.in_ok-first.ensures.cases.0

whole_now : (c : After-start_of-limit) → c.args.self.now.blocks ≡ c.in_ok-first.first.now ∷ c.in_ok-first.rest.now
whole_now c = sym (ap (λ (m : Cache). m.blocks) c.self.view_is) ∙ whole c

low : (c : After-start_of-limit) → IsLow c.args.bottom c.args.top c.in_ok-first.first.now c.in_ok-first.rest.now c.self.inside.recency.items
low c = record {
  order = subst (λ blocks. IsCache (cache_of blocks c.self.inside.recency.items) (2 ^ 32) 0 (2 ^ 26)) (whole c) c.self.invariant.order;
  between = subst (λ blocks. AreBetween 0 c.args.top blocks) (whole_now c) c.requires.between;
  below = below_low c.args.bottom c.in_ok-first.first.now c.in_ok-first.rest.now (subst (λ blocks. IsSome (lowest_below c.args.bottom blocks)) (whole_now c) c.requires.below);
  bounds = c.requires.bounds.0;
  small = c.requires.bounds.1;
}

-- what holds of the first block holds of the block that the clause names
named : (c : After-start_of-limit) (P : Cache → CacheBlock → Type 0) → P (cache_of (c.in_ok-first.first.now ∷ c.in_ok-first.rest.now) c.self.inside.recency.items) c.in_ok-first.first.now →
    (b : CacheBlock) (bs : List CacheBlock) → c.args.self.now.blocks ≡ b ∷ bs → P c.args.self.now b
named c P p b bs e =
    let first : c.in_ok-first.first.now ∷ c.in_ok-first.rest.now ≡ b ∷ bs = sym (whole_now c) ∙ e in
    let same : c.in_ok-first.first.now ≡ b = cc in
    subst (P c.args.self.now) same (subst (λ m. P m c.in_ok-first.first.now) (ap (λ blocks. cache_of blocks c.self.inside.recency.items) (sym (whole c)) ∙ c.self.view_is) p)

-- how often the block may hop, less one
times : After-start_of-limit → ℕ
times c = (c.args.bottom - c.in_ok-first.first.now.place - 1) / c.in_ok-first.first.now.size

below : (c : After-start_of-limit) → c.in_ok-first.first.now.place + times c * c.in_ok-first.first.now.size < c.args.bottom
unfolding times
below c = hops c.args.bottom c.in_ok-first.first.now.place c.in_ok-first.first.now.size (omega (arith, (low_sized (low c)).0)) (low c).below

place : (c : After-start_of-limit) → c.place-start.result + ((c.args.bottom - c.place-start.result - 1) / c.size-size.result + 1) * c.size-size.result ≡ c.in_ok-first.first.now.place + suc (times c) * c.in_ok-first.first.now.size
unfolding times
place c = rw (c.place-start.ensures, c.size-size.ensures) (omega arith)

pub overflow_add-place-2 : goal.overflow_add-place-2
overflow_add-place-2 c = omega (arith, place c, below c, (low_start (low c)).0, (low_start (low c)).1, c.requires.bounds, c.size-size.ensures)

pub returns-then-place-size : goal.returns-then-place-size
returns-then-place-size c =
    let d = (goal.at.returns-then-place-size c).After-start_of-limit in
    let fits : d.in_ok-first.first.now.place + suc (suc (times d)) * d.in_ok-first.first.now.size ≤ start_of d.args.top d.in_ok-first.rest.now = omega (arith, place d, c.if-place-size.true, c.size-size.ensures, c.start_of-limit.ensures) in
    let turn = rise_inside (low d) (times d) (below d) fits in
    rw (place d) (named d (λ m x. IsMove m.blocks x 0 (d.in_ok-first.first.now.place + suc (times d) * d.in_ok-first.first.now.size) × IsRise d.args.bottom d.args.top m (moved m x (d.in_ok-first.first.now.place + suc (times d) * d.in_ok-first.first.now.size)))
    (turn.move, turn.rise))

pub overflow_add-limit : goal.overflow_add-limit
overflow_add-limit c = omega (arith, (low_start (low (goal.at.overflow_add-limit c).After-start_of-limit)).1, c.requires.bounds, c.start_of-limit.ensures, c.self.invariant.used, filled c.self.inside.cells.items 0 (2 ^ 26) c.self.invariant.order.between)

short : (c : After-start_of-limit) → c.start_of-limit.result < c.place-start.result + ((c.args.bottom - c.place-start.result - 1) / c.size-size.result + 1) * c.size-size.result + c.size-size.result →
    start_of c.args.top c.in_ok-first.rest.now < c.in_ok-first.first.now.place + suc (suc (times c)) * c.in_ok-first.first.now.size
short c h = omega (arith, place c, h, c.size-size.ensures, c.start_of-limit.ensures)

pub returns-then-limit-self : goal.returns-then-limit-self
returns-then-limit-self c =
    let d = (goal.at.returns-then-limit-self c).After-start_of-limit in
    let full : d.args.top < start_of d.args.top d.in_ok-first.rest.now + size_of_cache (d.in_ok-first.first.now ∷ d.in_ok-first.rest.now) = omega (arith, c.if-limit-self.true, c.start_of-limit.ensures, c.self.invariant.used, ap size_of_cache (whole d)) in
    named d (λ m x. IsRise d.args.bottom d.args.top m (without m x.user)) (rise_none (low d) (times d) (below d) (short d c.if-place-size.false) (rise_crowded (low d) full))

pub first_gap-requires-clause-sized : goal.first_gap-requires-clause-sized
first_gap-requires-clause-sized c = (low_sized (low (goal.at.first_gap-requires-clause-sized c).After-start_of-limit)).1

pub returns : goal.returns
returns c =
    let d = (goal.at.returns c).After-start_of-limit in
    named d (λ m x. MatchOption c.first_gap.result (IsRise d.args.bottom d.args.top m (without m x.user)) (λ gap. IsMove m.blocks x gap.at gap.place × IsRise d.args.bottom d.args.top m (moved m x gap.place)))
    (match_map c.first_gap.result
    (λ none. rise_none (low d) (times d) (below d) (short d c.if-place-size.false) (rw (c.start_of-limit.ensures, c.size-size.ensures) at none))
    (λ gap found. (let turn = rise_later (low d) (times d) gap.at gap.place (below d) (short d c.if-place-size.false) (rw (c.start_of-limit.ensures, c.size-size.ensures) at found) in (turn.move, turn.rise)))
    c.first_gap.ensures)
