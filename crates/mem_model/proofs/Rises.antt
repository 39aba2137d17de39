-- The turns of a push up, as the plain cache takes them.
use Rattle.std.proofs.Common.{◌≡◌, ℕ, suc, ◌+◌, ◌-◌, ◌*◌, ◌<◌, ◌≤◌, ◌^◌, Bool, true, false, List, [], ◌∷◌, Option, Some, None, leb, ltb, refl, sym, ap, subst, ◌∙◌, arith, rules, ◌/◌}
use Rattle.std.specs.Prelude.{◌&&◌, ◌||◌, IsSome, MatchOption, slice_get, is_some}
use Rattle.std.specs.List.{AllByRecursion}
use Rattle.std.proofs.lemmas.Bool.{le-leb, ltb-true, cond_both}
use Rattle.mem_model.specs.Blocks.{CacheBlock}
use Rattle.mem_model.specs.Memory.{Cache, cache_of}
use Rattle.mem_model.specs.Places.{end_of, is_clear}
use Rattle.mem_model.specs.Cache.{put_in, without, without_user, without_block, moved, hopped_to, pushed_up, lowest_below}
use Rattle.mem_model.specs.Gaps.{start_of, gap_from, size_of_cache, IsGap, HasSize}
use Rattle.mem_model.specs.Turns.{IsMove, IsRise, height}
use Rattle.mem_model.specs.Laid.{AreBetween, IsCache}
use Rattle.mem_model.proofs.CacheBlocks.{between-spans, between_from, between-put_in}
use Rattle.mem_model.proofs.CacheMoves.{has_sizes}
use Rattle.mem_model.proofs.CacheNew.{fit_is}
use Rattle.mem_model.proofs.Gaps.{fit_gap, clear_front, gap_crowded}
use Rattle.mem_model.proofs.Jumps.{alone, front_dropped, moved_front, put_first, stepped, pushed_up-jump, pushed_up-later}
use Rattle.mem_model.proofs.Pushes.{height-put_in}

-- What is known of a block below the bottom, the lowest.
pub record IsLow (bottom top : ℕ) (b : CacheBlock) (bs : List CacheBlock) (recency : List ℕ) : Type 0 where
  pub order : IsCache (cache_of (b ∷ bs) recency) (2 ^ 32) 0 (2 ^ 26)
  pub between : AreBetween 0 top (b ∷ bs)
  pub below : b.place < bottom
  pub bounds : bottom ≤ top
  pub small : top ≤ 2 ^ 26

-- the same with the top as the upper bound
low_order : {bottom top : ℕ} {b : CacheBlock} {bs : List CacheBlock} {recency : List ℕ} → IsLow bottom top b bs recency → IsCache (cache_of (b ∷ bs) recency) (2 ^ 32) 0 top
low_order l = record { blocks = l.order.blocks; between = l.between; one_each = l.order.one_each; recency = l.order.recency }

between_start : (bs : List CacheBlock) (start top : ℕ) → AreBetween start top bs → (start ≤ start_of top bs) × (start_of top bs ≤ top) × AreBetween (start_of top bs) top bs
between_start [] start top a = (a, omega arith, omega arith)
between_start (c ∷ cs) start top a = (a.0, omega (arith, between-spans cs (end_of c) top a.1), (omega arith, a.1))

clear_behind : (b : CacheBlock) (bs : List CacheBlock) (place size : ℕ) → end_of b ≤ place → is_clear bs place size ≡ true → is_clear (b ∷ bs) place size ≡ true
clear_behind b bs place size h clear = rw (le-leb (end_of b) place h, clear) (or_true (leb (place + size) b.place)) where
  or_true : (t : Bool) → ((t || true) && true) ≡ true
  or_true true = refl
  or_true false = refl

between_after : (bs : List CacheBlock) (start low top : ℕ) → low ≤ start_of top bs → AreBetween start top bs → AreBetween low top bs
between_after [] start low top h a = h
between_after (c ∷ cs) start low top h a = (h, a.1)

-- A turn: a move, and what it leaves.
pub record IsRising (bottom top : ℕ) (c : Cache) (b : CacheBlock) (at place : ℕ) : Type 0 where
  pub move : IsMove c.blocks b at place
  pub rise : IsRise bottom top c (moved c b place)

-- All hops inside the gap behind the block, as one move.
pub rise_inside : {bottom top : ℕ} {b : CacheBlock} {bs : List CacheBlock} {recency : List ℕ} → IsLow bottom top b bs recency → (k : ℕ) → b.place + k * b.size < bottom → b.place + suc (suc k) * b.size ≤ start_of top bs →
    IsRising bottom top (cache_of (b ∷ bs) recency) b 0 (b.place + suc k * b.size)
rise_inside {bottom} {top} {b} {bs} {recency} l k below fits =
    let is = low_order l in
    let place = b.place + suc k * b.size in
    let sized = has_sizes (2 ^ 32) (b ∷ bs) is.blocks in
    let start = between_start bs (end_of b) top l.between.1 in
    let next : b.place + suc k * b.size + b.size ≤ start_of top bs = omega (arith, fits) in
    let first : put_in bs (record b { place = b.place + suc k * b.size }) ≡ record b { place = b.place + suc k * b.size } ∷ bs = put_first (record b { place = b.place + suc k * b.size }) bs top (omega (arith, next)) in
    let rest : without_block (b ∷ bs) b.user ≡ bs = front_dropped b bs (alone is) in
    let now : moved (cache_of (b ∷ bs) recency) b (b.place + suc k * b.size) ≡ stepped b bs recency (b.place + suc k * b.size) = moved_front b bs recency (b.place + suc k * b.size) (alone is) ∙ ap (λ blocks. cache_of blocks (b.user ∷ without_user recency b.user)) first in
    record {
      move = record {
        inside = omega arith;
        hop = record {
          above = omega arith;
          below = omega (arith, next, start.1, l.small);
          clear = clear_behind b bs (b.place + suc k * b.size) b.size (omega arith) (clear_front bs (b.place + suc k * b.size) b.size (start_of top bs) top start.2 sized.1 next);
        };
        puts = rw rest first;
      };
      rise = rw now (record {
        pushed = sym (pushed_up-jump k b bs recency (2 ^ 32) 0 bottom top is l.bounds below fits);
        between = (omega arith, between_after bs (end_of b) _ top next l.between.1);
        lower = omega (arith, next, start.1, sized.0);
      });
    }

-- A hop to a later gap.
pub rise_later : {bottom top : ℕ} {b : CacheBlock} {bs : List CacheBlock} {recency : List ℕ} → IsLow bottom top b bs recency → (k at place : ℕ) → b.place + k * b.size < bottom → start_of top bs < b.place + suc (suc k) * b.size →
    IsGap bs (start_of top bs) b.size top at place → IsRising bottom top (cache_of (b ∷ bs) recency) b at place
rise_later {bottom} {top} {b} {bs} {recency} l k at place below short gap =
    let is = low_order l in
    let sized = has_sizes (2 ^ 32) (b ∷ bs) is.blocks in
    let start = between_start bs (end_of b) top l.between.1 in
    let hop = fit_is bs (start_of top bs) top b.size place start.2 (fit_gap bs (start_of top bs) top b.size start.2 sized.1 ∙ gap.found) in
    let rest : without_block (b ∷ bs) b.user ≡ bs = front_dropped b bs (alone is) in
    let now = moved_front b bs recency place (alone is) in
    record {
      move = record {
        inside = omega (arith, gap.inside);
        hop = record { above = omega arith; below = omega (arith, hop.below, l.small); clear = clear_behind b bs place b.size (omega (arith, start.0, hop.above)) hop.clear };
        puts = rw rest (gap.puts (record b { place = place }) refl);
      };
      rise = record {
        pushed = sym (pushed_up-later k b bs recency (2 ^ 32) 0 bottom top is l.bounds below short ∙ ap (λ o. pushed_up (hopped_to (cache_of (b ∷ bs) recency) b o) bottom top) gap.found);
        between = subst (λ (e : Cache). AreBetween 0 top e.blocks) (sym now) (between-put_in 0 top bs (record b { place = place }) (between_from bs 0 (end_of b) top (omega arith) l.between.1) sized.1 (omega arith) hop.below hop.clear);
        lower = subst (λ (e : Cache). height top e.blocks < height top (b ∷ bs)) (sym now) (omega (arith, height-put_in top bs (record b { place = place }), start.0, hop.above, hop.below, sized.0));
      };
    }

-- A block without a gap leaves.
pub rise_none : {bottom top : ℕ} {b : CacheBlock} {bs : List CacheBlock} {recency : List ℕ} → IsLow bottom top b bs recency → (k : ℕ) → b.place + k * b.size < bottom → start_of top bs < b.place + suc (suc k) * b.size →
    gap_from (start_of top bs) b.size top bs ≡ None → IsRise bottom top (cache_of (b ∷ bs) recency) (without (cache_of (b ∷ bs) recency) b.user)
rise_none {bottom} {top} {b} {bs} {recency} l k below short none =
    let is = low_order l in
    let rest : without_block (b ∷ bs) b.user ≡ bs = front_dropped b bs (alone is) in
    record {
      pushed = sym (pushed_up-later k b bs recency (2 ^ 32) 0 bottom top is l.bounds below short ∙ ap (λ o. pushed_up (hopped_to (cache_of (b ∷ bs) recency) b o) bottom top) none);
      between = rw rest (between_from bs 0 (end_of b) top (omega arith) l.between.1);
      lower = rw rest (omega (arith, l.below, l.bounds));
    }

pub rise_crowded : {bottom top : ℕ} {b : CacheBlock} {bs : List CacheBlock} {recency : List ℕ} → IsLow bottom top b bs recency → top < start_of top bs + size_of_cache (b ∷ bs) → gap_from (start_of top bs) b.size top bs ≡ None
rise_crowded {bottom} {top} {b} {bs} {recency} l full = gap_crowded bs (start_of top bs) b.size top (between_start bs (end_of b) top l.between.1).2 (omega (arith, full))

-- the bounds of a search for a later gap
pub low_start : {bottom top : ℕ} {b : CacheBlock} {bs : List CacheBlock} {recency : List ℕ} → IsLow bottom top b bs recency → (end_of b ≤ start_of top bs) × (start_of top bs ≤ top) × AreBetween (start_of top bs) top bs
low_start {bottom} {top} {b} {bs} {recency} l = between_start bs (end_of b) top l.between.1

pub low_sized : {bottom top : ℕ} {b : CacheBlock} {bs : List CacheBlock} {recency : List ℕ} → IsLow bottom top b bs recency → (48 ≤ b.size) × AllByRecursion HasSize bs
low_sized {bottom} {top} {b} {bs} {recency} l = (l.order.blocks.0.least, (has_sizes (2 ^ 32) (b ∷ bs) l.order.blocks).1)

-- a lowest block that starts below the bottom
pub below_low : (bottom : ℕ) (b : CacheBlock) (bs : List CacheBlock) → IsSome (lowest_below bottom (b ∷ bs)) → b.place < bottom
below_low bottom b bs h = cond_both (ltb b.place bottom) (Some b) None (λ o. IsSome o → b.place < bottom) (λ e g. ltb-true b.place bottom e) (λ e g. absurd (search rules)) h

pub match_map : {A : Type 0} {P Q : Type 0} {R S : A → Type 0} (o : Option A) → (P → Q) → ((a : A) → R a → S a) → MatchOption o P R → MatchOption o Q S
match_map None f g m = f m
match_map (Some a) f g m = g a m

-- how far the hops inside a gap go
pub hops : (bottom place size : ℕ) → 0 < size → place < bottom → place + ((bottom - place - 1) / size) * size < bottom
hops bottom place size s h = omega arith

-- where a block is first
pub at_front : (blocks : List CacheBlock) (b : CacheBlock) → slice_get blocks 0 ≡ Some b → (bs : List CacheBlock) × (blocks ≡ b ∷ bs)
at_front [] b h = absurd (cc)
at_front (x ∷ xs) b h = (xs, (let same : x ≡ b = cc in ap (λ y. y ∷ xs) same))

pub first_below : (bottom : ℕ) (blocks : List CacheBlock) → is_some (lowest_below bottom blocks) ≡ true → (b : CacheBlock) × (bs : List CacheBlock) × (blocks ≡ b ∷ bs)
first_below bottom [] h = absurd (cc)
first_below bottom (x ∷ xs) h = (x, xs, refl)

pub none_below : (bottom : ℕ) (blocks : List CacheBlock) → is_some (lowest_below bottom blocks) ≡ false → lowest_below bottom blocks ≡ None
none_below bottom blocks h = none (lowest_below bottom blocks) h where
  none : (o : Option CacheBlock) → is_some o ≡ false → o ≡ None
  none None e = refl
  none (Some b) e = absurd (cc)
