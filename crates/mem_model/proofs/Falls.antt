-- The turns of a push down, as the plain cache takes them.
use Rattle.std.proofs.Common.{◌≡◌, ℕ, suc, zero, ◌+◌, ◌*◌, ◌<◌, ◌≤◌, ◌^◌, Bool, true, false, cond, List, [], ◌∷◌, ◌++◌, Option, Some, None, length, leb, ltb, refl, sym, ap, subst, ◌∙◌, arith, inl, inr, length-append, rules}
use Rattle.std.specs.Prelude.{slice_get, is_some, IsSome}
use Rattle.std.specs.List.{AllByRecursion, insert}
use Rattle.std.proofs.lemmas.Bool.{lt-leb, lt-ltb, ltb-true, eq-eqb, cond_both}
use Rattle.std.proofs.lemmas.Bool.Decides.{eqb_tells}
use Rattle.mem_model.specs.Blocks.{CacheBlock}
use Rattle.mem_model.specs.Memory.{Cache, cache_of}
use Rattle.mem_model.specs.Places.{end_of, hop}
use Rattle.mem_model.specs.Cache.{put_in, without, without_block, moved, hopped, hopped_to, highest_above, turned, down_in, pushed_down}
use Rattle.mem_model.specs.Gaps.{gap_from, size_of_cache, IsGap, HasSize}
use Rattle.mem_model.specs.Turns.{IsMove, IsFall, depth}
use Rattle.mem_model.specs.Laid.{AreBetween, IsCache, count_in, users_of}
use Rattle.mem_model.proofs.CacheMoves.{has_sizes, hop_is, rising, later-hopped, found_highest, below_top}
use Rattle.mem_model.proofs.CacheNew.{fit_is}
use Rattle.mem_model.proofs.Gaps.{fit_gap, hop_gap, gap_crowded}
use Rattle.mem_model.proofs.Pushes.{IsRising, IsTurnDown, turn_down, none_high, depth_most}

down_done : (n top : ℕ) (c : Cache) → highest_above top c.blocks ≡ None → down_in n top c ≡ c
unfolding down_in
down_done zero top c h = refl
down_done (suc n) top c h = ap (turned top (down_in n top) c) h

pub pushed_down-done : (size top : ℕ) (c : Cache) → highest_above top c.blocks ≡ None → pushed_down c size top ≡ c
unfolding pushed_down
pushed_down-done size top c h = down_done (length c.blocks * suc size) top c h

down_one : (n top : ℕ) (c : Cache) (b : CacheBlock) → highest_above top c.blocks ≡ Some b → down_in (suc n) top c ≡ down_in n top (hopped top c b)
unfolding down_in
down_one n top c b h = ap (turned top (down_in n top) c) h

-- With turns enough their number doesn't count.
down_in-enough : (n m : ℕ) (c : Cache) (top : ℕ) → IsRising 0 c.blocks → depth c.blocks ≤ n → depth c.blocks ≤ m → down_in n top c ≡ down_in m top c
down_in-enough zero m c top r p q = down_done zero top c (none_high top c.blocks p) ∙ sym (down_done m top c (none_high top c.blocks p))
down_in-enough (suc n) zero c top r p q = down_done (suc n) top c (none_high top c.blocks q) ∙ sym (down_done zero top c (none_high top c.blocks q))
down_in-enough (suc n) (suc m) c top r p q =
    turns (highest_above top c.blocks) refl (λ b turn. down_in-enough n m (hopped top c b) top turn.rising (omega (arith, turn.lower)) (omega (arith, turn.lower))) where
      turns : (o : Option CacheBlock) → highest_above top c.blocks ≡ o → ((b : CacheBlock) → IsTurnDown c.blocks (hopped top c b).blocks → down_in n top (hopped top c b) ≡ down_in m top (hopped top c b)) → down_in (suc n) top c ≡ down_in (suc m) top c
      turns None e rest = down_done (suc n) top c e ∙ sym (down_done (suc m) top c e)
      turns (Some b) e rest = down_one n top c b e ∙ rest b (turn_down top c b r e) ∙ sym (down_one m top c b e)

-- the same between other bounds
order_to : (c : Cache) (size : ℕ) → IsCache c (2 ^ 32) 0 (2 ^ 26) → AreBetween 0 size c.blocks → IsCache c (2 ^ 32) 0 size
order_to c size is a = record { blocks = is.blocks; between = a; one_each = is.one_each; recency = is.recency }

-- A push down with a block above the top is its hop, and a push down.
pub pushed_down-turn : (c : Cache) (b : CacheBlock) (size top : ℕ) → IsCache c (2 ^ 32) 0 size → top ≤ size → highest_above top c.blocks ≡ Some b → pushed_down c size top ≡ pushed_down (hopped top c b) size top
unfolding pushed_down
pushed_down-turn c b size top is h e =
    let next = hopped top c b in
    let turn = turn_down top c b (rising is) e in
    let later = later-hopped c b (2 ^ 32) 0 size top is (found_highest top c.blocks b is.one_each e) h in
    let most = depth_most size c.blocks (below_top 0 size size c.blocks is.between (omega arith)) in
    let after = depth_most size (hopped top c b).blocks (below_top 0 size size (hopped top c b).blocks later.cache.between (omega arith)) in
    let n = length c.blocks * suc size in
    let m = length next.blocks * suc size in
    down_in-enough n (suc (n + m)) c top (rising is) most (omega (arith, most))
    ∙ down_one (n + m) top c b e
    ∙ down_in-enough (n + m) m (hopped top c b) top turn.rising (omega (arith, turn.lower, most)) after

-- A hop of the highest block is a turn.
pub fall_hopped : (c : Cache) (b : CacheBlock) (top : ℕ) → IsCache c (2 ^ 32) 0 (2 ^ 26) → highest_above top c.blocks ≡ Some b → IsFall top c (hopped top c b)
fall_hopped c b top is e = record {
  pushed = λ size a h. sym (pushed_down-turn c b size top (order_to c size is a) h e);
  between = λ size a h. (later-hopped c b (2 ^ 32) 0 size top (order_to c size is a) (found_highest top c.blocks b is.one_each e) h).cache.between;
  lower = (turn_down top c b (rising is) e).lower;
}

-- the last of some blocks is the highest
pub highest_last : (top : ℕ) (front : List CacheBlock) (b : CacheBlock) → highest_above top (front ++ b ∷ []) ≡ cond (ltb top (end_of b)) (Some b) None
highest_last top [] b = refl
highest_last top (x ∷ []) b = refl
highest_last top (x ∷ y ∷ ys) b = highest_last top (y ∷ ys) b

-- with the last block ending too high for a gap behind it
gap_last : (middle : List CacheBlock) (start size top : ℕ) (b : CacheBlock) → top < end_of b + size → gap_from start size top (middle ++ b ∷ []) ≡ gap_from start size b.place middle
gap_last [] start size top b h = rw (lt-leb (end_of b + size) top h) refl
gap_last (c ∷ cs) start size top b h = ap (λ o. cond (leb (start + size) c.place) (Some start) o) (gap_last cs (end_of c) size top b h)

count-last : (user : ℕ) (front : List CacheBlock) (b : CacheBlock) → count_in user (users_of (front ++ b ∷ [])) ≡ count_in user (users_of front) + count_in user (b.user ∷ [])
count-last user [] b = omega arith
count-last user (x ∷ xs) b = omega (arith, count-last user xs b)

last_dropped : (front : List CacheBlock) (b : CacheBlock) → count_in b.user (users_of front) ≡ 0 → without_block (front ++ b ∷ []) b.user ≡ front
last_dropped [] b h = rw (eq-eqb b.user b.user refl) refl
last_dropped (x ∷ xs) b h =
    elim (eqb_tells x.user b.user) [
      | inl at ↦ absurd (omega (arith, rw at.0 at h))
      | inr off ↦ rw off.0 (let rest : count_in b.user (users_of xs) ≡ 0 = omega (arith, rw off.0 at h) in ap (λ ys. x ∷ ys) (last_dropped xs b rest))
    ]

between_front : (middle : List CacheBlock) (low high : ℕ) (b : CacheBlock) → AreBetween low high (middle ++ b ∷ []) → AreBetween low b.place middle
between_front [] low high b a = a.0
between_front (c ∷ cs) low high b a = (a.0, between_front cs (end_of c) high b a.1)

sized_front : (middle : List CacheBlock) (b : CacheBlock) → AllByRecursion HasSize (middle ++ b ∷ []) → AllByRecursion HasSize middle
sized_front [] b a = tt
sized_front (c ∷ cs) b a = (a.0, sized_front cs b a.1)

-- What is known of the highest block, which ends above the top.
pub record IsHigh (top : ℕ) (front : List CacheBlock) (b : CacheBlock) (recency : List ℕ) : Type 0 where
  pub order : IsCache (cache_of (front ++ b ∷ []) recency) (2 ^ 32) 0 (2 ^ 26)
  pub above : top < end_of b
  pub small : top ≤ 2 ^ 26

high_is : {top : ℕ} {front : List CacheBlock} {b : CacheBlock} {recency : List ℕ} → IsHigh top front b recency → highest_above top (front ++ b ∷ []) ≡ Some b
high_is {top} {front} {b} {recency} l = highest_last top front b ∙ rw (lt-ltb top (end_of b) l.above) refl

fall_to : {top : ℕ} {front : List CacheBlock} {b : CacheBlock} {recency : List ℕ} → IsHigh top front b recency → (o : Option ℕ) → hop (front ++ b ∷ []) b top ≡ o → IsFall top (cache_of (front ++ b ∷ []) recency) (hopped_to (cache_of (front ++ b ∷ []) recency) b o)
unfolding hopped
fall_to {top} {front} {b} {recency} l o e = subst (λ q. IsFall top (cache_of (front ++ b ∷ []) recency) (hopped_to (cache_of (front ++ b ∷ []) recency) b q)) e (fall_hopped (cache_of (front ++ b ∷ []) recency) b top l.order (high_is l))

high_hop : {top : ℕ} {x : CacheBlock} {middle : List CacheBlock} {b : CacheBlock} {recency : List ℕ} → IsHigh top (x ∷ middle) b recency → hop (x ∷ (middle ++ b ∷ [])) b top ≡ gap_from (end_of x) b.size b.place middle
high_hop {top} {x} {middle} {b} {recency} l =
    hop_gap x (middle ++ b ∷ []) b 0 (2 ^ 26) top l.order.between (has_sizes (2 ^ 32) (x ∷ (middle ++ b ∷ [])) l.order.blocks)
    ∙ gap_last middle (end_of x) b.size top b (omega (arith, l.above))

-- A block alone has no gap to hop to.
pub fall_alone : {top : ℕ} {b : CacheBlock} {recency : List ℕ} → IsHigh top [] b recency → IsFall top (cache_of (b ∷ []) recency) (without (cache_of (b ∷ []) recency) b.user)
fall_alone {top} {b} {recency} l =
    fall_to l None (hop_gap b [] b 0 (2 ^ 26) top l.order.between (has_sizes (2 ^ 32) (b ∷ []) l.order.blocks) ∙ rw (lt-leb (end_of b + b.size) top (omega (arith, l.above))) refl)

pub fall_none : {top : ℕ} {x : CacheBlock} {middle : List CacheBlock} {b : CacheBlock} {recency : List ℕ} → IsHigh top (x ∷ middle) b recency → gap_from (end_of x) b.size b.place middle ≡ None →
    IsFall top (cache_of (x ∷ (middle ++ b ∷ [])) recency) (without (cache_of (x ∷ (middle ++ b ∷ [])) recency) b.user)
fall_none l none = fall_to l None (high_hop l ∙ none)

pub record IsFalling (top : ℕ) (c : Cache) (b : CacheBlock) (at place : ℕ) : Type 0 where
  pub move : IsMove c.blocks b at place
  pub fall : IsFall top c (moved c b place)

put_behind : (x : CacheBlock) (middle : List CacheBlock) (b : CacheBlock) (at : ℕ) → x.place < b.place → put_in middle b ≡ insert middle at b → put_in (x ∷ middle) b ≡ insert (x ∷ middle) (suc at) b
put_behind x middle b at h e = rw (lt-ltb x.place b.place h) (ap (λ xs. x ∷ xs) e)

pub fall_later : {top : ℕ} {x : CacheBlock} {middle : List CacheBlock} {b : CacheBlock} {recency : List ℕ} → IsHigh top (x ∷ middle) b recency → (at n place : ℕ) → n ≡ suc at → IsGap middle (end_of x) b.size b.place at place →
    IsFalling top (cache_of (x ∷ (middle ++ b ∷ [])) recency) b n place
fall_later {top} {x} {middle} {b} {recency} l at n place same gap =
    let sized = has_sizes (2 ^ 32) (x ∷ (middle ++ b ∷ [])) l.order.blocks in
    let a = between_front middle (end_of x) (2 ^ 26) b l.order.between.1 in
    let fits = fit_is middle (end_of x) b.place b.size place a (fit_gap middle (end_of x) b.place b.size a (sized_front middle b sized.1) ∙ gap.found) in
    let hops = high_hop l ∙ gap.found in
    let few : count_in b.user (users_of (x ∷ middle)) ≡ 0 = (let counted : count_in b.user (users_of (x ∷ middle)) + 1 ≤ 1 = omega (arith, count-last b.user (x ∷ middle) b, rw (eq-eqb b.user b.user refl) at (count-last b.user (x ∷ middle) b), l.order.one_each b.user) in omega arith) in
    let rest : without_block (x ∷ (middle ++ b ∷ [])) b.user ≡ x ∷ middle = last_dropped (x ∷ middle) b few in
    record {
      move = record {
        inside = omega (arith, gap.inside, length-append middle (b ∷ []));
        hop = hop_is (x ∷ (middle ++ b ∷ [])) b 0 (2 ^ 26) top place l.order.between sized l.small hops;
        puts = rw (rest, same) (put_behind x middle (record b { place = place }) at (omega (arith, fits.above, sized.0)) (gap.puts (record b { place = place }) refl));
      };
      fall = fall_to l (Some place) hops;
    }

pub fall_crowded : {top : ℕ} {x : CacheBlock} {middle : List CacheBlock} {b : CacheBlock} {recency : List ℕ} → IsHigh top (x ∷ middle) b recency → b.place < x.place + size_of_cache (x ∷ (middle ++ b ∷ [])) → gap_from (end_of x) b.size b.place middle ≡ None
fall_crowded {top} {x} {middle} {b} {recency} l full = gap_crowded middle (end_of x) b.size b.place (between_front middle (end_of x) (2 ^ 26) b l.order.between.1) (omega (arith, full, sum middle b)) where
  sum : (middle : List CacheBlock) (b : CacheBlock) → size_of_cache (middle ++ b ∷ []) ≡ size_of_cache middle + b.size
  sum [] b = omega arith
  sum (c ∷ cs) b = omega (arith, sum cs b)

-- the bounds of the search
pub high_middle : {top : ℕ} {x : CacheBlock} {middle : List CacheBlock} {b : CacheBlock} {recency : List ℕ} → IsHigh top (x ∷ middle) b recency → (AreBetween (end_of x) b.place middle) × (AllByRecursion HasSize middle) × (end_of b ≤ 2 ^ 26)
high_middle {top} {x} {middle} {b} {recency} l =
    (between_front middle (end_of x) (2 ^ 26) b l.order.between.1, sized_front middle b (has_sizes (2 ^ 32) (x ∷ (middle ++ b ∷ [])) l.order.blocks).1, last_ends (x ∷ middle) 0 b l.order.between) where
      last_ends : (front : List CacheBlock) (low : ℕ) (b : CacheBlock) → AreBetween low (2 ^ 26) (front ++ b ∷ []) → end_of b ≤ 2 ^ 26
      last_ends [] low b a = a.1
      last_ends (c ∷ cs) low b a = last_ends cs (end_of c) b a.1

pub some_above : (top : ℕ) (front : List CacheBlock) (b : CacheBlock) → ltb top (end_of b) ≡ is_some (highest_above top (front ++ b ∷ []))
some_above top front b = sym (ap is_some (highest_last top front b) ∙ either (ltb top (end_of b))) where
  either : (t : Bool) → is_some (cond t (Some b) None) ≡ t
  either true = refl
  either false = refl

-- where the last block is the highest, it ends above the top
pub above_last : (top : ℕ) (front : List CacheBlock) (x b : CacheBlock) → highest_above top (front ++ x ∷ []) ≡ Some b → (x ≡ b) × (top < end_of x)
above_last top front x b h =
    cond_both (ltb top (end_of x)) (Some x) None (λ o. o ≡ Some b → (x ≡ b) × (top < end_of x)) (λ e g. (cc, ltb-true top (end_of x) e)) (λ e g. absurd (cc)) (sym (highest_last top front x) ∙ h)

pub ends_in : (front : List CacheBlock) (low high : ℕ) (b : CacheBlock) → AreBetween low high (front ++ b ∷ []) → end_of b ≤ high
ends_in [] low high b a = a.1
ends_in (c ∷ cs) low high b a = ends_in cs (end_of c) high b a.1

pub none_above : (top : ℕ) (blocks : List CacheBlock) → is_some (highest_above top blocks) ≡ false → highest_above top blocks ≡ None
none_above top blocks h = none (highest_above top blocks) h where
  none : (o : Option CacheBlock) → is_some o ≡ false → o ≡ None
  none None e = refl
  none (Some b) e = absurd (cc)

pub some_highest : (top : ℕ) (blocks : List CacheBlock) → is_some (highest_above top blocks) ≡ true → (b : CacheBlock) × (highest_above top blocks ≡ Some b)
some_highest top blocks h = some (highest_above top blocks) h refl where
  some : (o : Option CacheBlock) → is_some o ≡ true → highest_above top blocks ≡ o → (b : CacheBlock) × (highest_above top blocks ≡ Some b)
  some None e g = absurd (cc)
  some (Some b) e g = (b, g)

-- the highest block stands at the last position
pub at_last : (top n : ℕ) (blocks : List CacheBlock) (b : CacheBlock) → n + 1 ≡ length blocks → highest_above top blocks ≡ Some b → slice_get blocks n ≡ Some b
at_last top n [] b e h = absurd (cc)
at_last top zero (x ∷ []) b e h = cond_both (ltb top (end_of x)) (Some x) None (λ o. o ≡ Some b → Some x ≡ Some b) (λ t g. g) (λ t g. absurd (cc)) h
at_last top (suc n) (x ∷ []) b e h = absurd (omega arith)
at_last top zero (x ∷ y ∷ ys) b e h = absurd (omega arith)
at_last top (suc n) (x ∷ y ∷ ys) b e h = at_last top n (y ∷ ys) b (omega arith) h

pub is_highest : (top : ℕ) (blocks : List CacheBlock) → IsSome (highest_above top blocks) → (b : CacheBlock) × (highest_above top blocks ≡ Some b)
is_highest top blocks h = some (highest_above top blocks) h refl where
  some : (o : Option CacheBlock) → IsSome o → highest_above top blocks ≡ o → (b : CacheBlock) × (highest_above top blocks ≡ Some b)
  some None e g = absurd (search rules)
  some (Some b) e g = (b, g)

pub high_size : {top : ℕ} {x : CacheBlock} {middle : List CacheBlock} {b : CacheBlock} {recency : List ℕ} → IsHigh top (x ∷ middle) b recency → 0 < b.size
high_size {top} {x} {middle} {b} {recency} l = last_sized (x ∷ middle) b (has_sizes (2 ^ 32) (x ∷ (middle ++ b ∷ [])) l.order.blocks) where
  last_sized : (front : List CacheBlock) (b : CacheBlock) → AllByRecursion HasSize (front ++ b ∷ []) → 0 < b.size
  last_sized [] b a = a.0
  last_sized (c ∷ cs) b a = last_sized cs b a.1
