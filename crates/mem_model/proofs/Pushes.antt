-- A push has turns enough: behind a push up no block starts below the bottom, and behind a push down none ends above the top.
use Rattle.std.proofs.Common.{◌≡◌, ℕ, suc, zero, ◌+◌, ◌-◌, ◌*◌, ◌<◌, ◌≤◌, min, Bool, true, false, cond, List, [], ◌∷◌, Option, Some, None, filter, map, length, nat_eq, not, leb, ltb, refl, sym, ap, subst, ◌∙◌, ◌⊎◌, inl, inr, arith}
use Rattle.std.specs.Prelude.{◌&&◌, ◌||◌}
use Rattle.std.specs.List.{AllByRecursion}
use Rattle.std.proofs.lemmas.Bool.{eq-eqb, ltb-false, ltb-true, leb-true, and_parts, or_cases}
use Rattle.std.proofs.lemmas.Bool.Decides.{eqb_tells}
use Rattle.mem_model.specs.Blocks.{CacheBlock}
use Rattle.mem_model.specs.Memory.{Cache, cache_of}
use Rattle.mem_model.specs.Places.{least, lesser, end_of, hop, is_clear, has_above}
use Rattle.mem_model.specs.Turns.{height, depth}
use Rattle.mem_model.specs.Cache.{up_in, down_in, turned, hopped, hopped_to, highest_above, pushed_up, pushed_down, put_in, without_block}

-- the blocks have sizes, and start in rising order from `low` on
abbrev pub IsRising : ℕ → List CacheBlock → Type 0
IsRising low [] = Unit {0}
IsRising low (b ∷ bs) = (low ≤ b.place) × (0 < b.size) × IsRising b.place bs

rising_lower : (low lower : ℕ) (blocks : List CacheBlock) → lower ≤ low → IsRising low blocks → IsRising lower blocks
rising_lower low lower [] h r = tt
rising_lower low lower (b ∷ bs) h r = (omega (arith, r.0), r.1, r.2)

rising-filter : (p : CacheBlock → Bool) (low : ℕ) (blocks : List CacheBlock) → IsRising low blocks → IsRising low (filter p blocks)
rising-filter p low [] r = tt
rising-filter p low (b ∷ bs) r =
    elim (p b) as (λ t. IsRising low (cond t (b ∷ filter p bs) (filter p bs))) [
      | true ↦ (r.0, r.1, rising-filter p b.place bs r.2)
      | false ↦ rising_lower b.place low (filter p bs) r.0 (rising-filter p b.place bs r.2)
    ]

rising-put_in_by : (low : ℕ) (c : CacheBlock) (cs : List CacheBlock) (b : CacheBlock) → low ≤ b.place → 0 < b.size → IsRising low (c ∷ cs) → (c.place ≤ b.place → IsRising c.place (put_in cs b)) →
    (t : Bool) → ltb c.place b.place ≡ t → IsRising low (cond t (c ∷ put_in cs b) (b ∷ c ∷ cs))
rising-put_in_by low c cs b h s r on true e = (r.0, r.1, on (omega (arith, ltb-true c.place b.place e)))
rising-put_in_by low c cs b h s r on false e = (h, s, (ltb-false c.place b.place e, r.1, r.2))

rising-put_in : (low : ℕ) (blocks : List CacheBlock) (b : CacheBlock) → low ≤ b.place → 0 < b.size → IsRising low blocks → IsRising low (put_in blocks b)
rising-put_in low [] b h s r = (h, s, tt)
rising-put_in low (c ∷ cs) b h s r = rising-put_in_by low c cs b h s r (λ up. rising-put_in c.place cs b up s r.2) (ltb c.place b.place) refl

pub height-filter : (top : ℕ) (p : CacheBlock → Bool) (blocks : List CacheBlock) → height top (filter p blocks) ≤ height top blocks
height-filter top p [] = omega arith
height-filter top p (b ∷ bs) =
    elim (p b) as (λ t. height top (cond t (b ∷ filter p bs) (filter p bs)) ≤ (suc top - b.place) + height top bs) [
      | true ↦ omega (arith, height-filter top p bs)
      | false ↦ omega (arith, height-filter top p bs)
    ]

pub height-put_in : (top : ℕ) (blocks : List CacheBlock) (b : CacheBlock) → height top (put_in blocks b) ≡ (suc top - b.place) + height top blocks
height-put_in top [] b = refl
height-put_in top (c ∷ cs) b =
    elim (ltb c.place b.place) as (λ t. height top (cond t (c ∷ put_in cs b) (b ∷ c ∷ cs)) ≡ (suc top - b.place) + ((suc top - c.place) + height top cs)) [
      | true ↦ omega (arith, height-put_in top cs b)
      | false ↦ refl
    ]

-- each number is above `low`
abbrev AllAbove : ℕ → List ℕ → Type 0
AllAbove low [] = Unit {0}
AllAbove low (n ∷ ns) = (low < n) × AllAbove low ns

above-ends : (low from : ℕ) (blocks : List CacheBlock) → low ≤ from → IsRising from blocks → AllAbove low (map end_of blocks)
above-ends low from [] h r = tt
above-ends low from (b ∷ bs) h r = (omega (arith, r.0, r.1), above-ends low b.place bs (omega (arith, r.0)) r.2)

above-filter : (p : ℕ → Bool) (low : ℕ) (ns : List ℕ) → AllAbove low ns → AllAbove low (filter p ns)
above-filter p low [] a = tt
above-filter p low (n ∷ ns) a =
    elim (p n) as (λ t. AllAbove low (cond t (n ∷ filter p ns) (filter p ns))) [ true ↦ (a.0, above-filter p low ns a.1) | false ↦ above-filter p low ns a.1 ]

above-lesser : (low x : ℕ) (o : Option ℕ) → low < x → ((k : ℕ) → o ≡ Some k → low < k) → low < lesser x o
above-lesser low x None h f = h
above-lesser low x (Some k) h f = omega (arith, f k refl)

above-least : (low n : ℕ) (ns : List ℕ) → AllAbove low ns → least ns ≡ Some n → low < n
above-least low n [] a e = absurd (cc)
above-least low n (x ∷ xs) a e =
    let same : lesser x (least xs) ≡ n = cc in
    omega (arith, same, above-lesser low x (least xs) a.0 (λ k h. above-least low k xs a.1 h))

-- the lowest block hops up
pub hop_above : (b : CacheBlock) (bs : List CacheBlock) (top place : ℕ) → IsRising b.place (b ∷ bs) → hop (b ∷ bs) b top ≡ Some place → b.place < place
unfolding hop
hop_above b bs top place r h =
    above-least b.place place _ (above-filter (λ p. is_clear (b ∷ bs) p b.size && (has_above (b ∷ bs) p || leb (p + b.size) top)) b.place (map end_of (b ∷ bs)) (above-ends b.place b.place (b ∷ bs) (omega arith) r)) h

-- the block itself is dropped
pub without-front : (b : CacheBlock) (bs : List CacheBlock) → without_block (b ∷ bs) b.user ≡ without_block bs b.user
without-front b bs = rw (eq-eqb b.user b.user refl) refl

-- A turn lowers the height and keeps the order.
pub record IsTurn (top : ℕ) (blocks after : List CacheBlock) : Type 0 where
  pub lower : height top after < height top blocks
  pub rising : IsRising 0 after

hopped_turn_to : (b : CacheBlock) (bs : List CacheBlock) (recency : List ℕ) (top : ℕ) (o : Option ℕ) → IsRising 0 (b ∷ bs) → b.place ≤ top → hop (b ∷ bs) b top ≡ o → IsTurn top (b ∷ bs) (hopped_to (cache_of (b ∷ bs) recency) b o).blocks
hopped_turn_to b bs recency top None r low e = rw (without-front b bs) (record {
  lower = omega (arith, height-filter top (λ x. not (nat_eq x.user b.user)) bs);
  rising = rising_lower b.place 0 _ (omega arith) (rising-filter (λ x. not (nat_eq x.user b.user)) b.place bs r.2);
})
hopped_turn_to b bs recency top (Some place) r low e = rw (without-front b bs) (record {
  lower = omega (arith, height-put_in top (without_block bs b.user) (record b { place = place }), height-filter top (λ x. not (nat_eq x.user b.user)) bs, hop_above b bs top place (omega arith, r.1, r.2) e);
  rising = rising-put_in 0 (without_block bs b.user) (record b { place = place }) (omega arith) r.1 (rising_lower b.place 0 _ (omega arith) (rising-filter (λ x. not (nat_eq x.user b.user)) b.place bs r.2));
})

pub hopped_turn : (b : CacheBlock) (bs : List CacheBlock) (recency : List ℕ) (top : ℕ) → IsRising 0 (b ∷ bs) → b.place ≤ top → IsTurn top (b ∷ bs) (hopped top (cache_of (b ∷ bs) recency) b).blocks
unfolding hopped
hopped_turn b bs recency top r low = hopped_turn_to b bs recency top (hop (b ∷ bs) b top) r low refl

-- no block starts below the bottom, since the first of rising blocks does not
abbrev pub StartsAbove : ℕ → List CacheBlock → Type 0
StartsAbove bottom [] = Unit {0}
StartsAbove bottom (b ∷ bs) = bottom ≤ b.place

pub up_in-ends : (n : ℕ) (blocks : List CacheBlock) (recency : List ℕ) (bottom top : ℕ) → bottom ≤ top → IsRising 0 blocks → height top blocks ≤ n → StartsAbove bottom (up_in n bottom top (cache_of blocks recency)).blocks
unfolding up_in
up_in-ends zero [] recency bottom top h r few = tt
up_in-ends (suc n) [] recency bottom top h r few = tt
up_in-ends zero (b ∷ bs) recency bottom top h r few = omega arith
up_in-ends (suc n) (b ∷ bs) recency bottom top h r few =
    elim (ltb b.place bottom) as (λ t. ltb b.place bottom ≡ t → StartsAbove bottom (turned top (up_in n bottom top) (cache_of (b ∷ bs) recency) (cond t (Some b) None)).blocks) [
      | true ↦ λ e.
          let turn = hopped_turn b bs recency top r (omega (arith, ltb-true b.place bottom e)) in
          up_in-ends n (hopped top (cache_of (b ∷ bs) recency) b).blocks (hopped top (cache_of (b ∷ bs) recency) b).recency bottom top h turn.rising (omega (arith, turn.lower))
      | false ↦ λ e. ltb-false b.place bottom e
    ] refl

pub height_most : (top : ℕ) (blocks : List CacheBlock) → height top blocks ≤ length blocks * suc top
height_most top [] = omega arith
height_most top (b ∷ bs) = omega (arith, height_most top bs)

-- A push up ends where no block starts below the bottom.
pub pushed_up-ends : (c : Cache) (bottom top : ℕ) → bottom ≤ top → IsRising 0 c.blocks → StartsAbove bottom (pushed_up c bottom top).blocks
unfolding pushed_up
pushed_up-ends c bottom top h r = up_in-ends (length c.blocks * suc top) c.blocks c.recency bottom top h r (height_most top c.blocks)

-- Downwards: the highest block is the last, and hops down.

pub depth-filter : (p : CacheBlock → Bool) (blocks : List CacheBlock) → depth (filter p blocks) ≤ depth blocks
depth-filter p [] = omega arith
depth-filter p (b ∷ bs) =
    elim (p b) as (λ t. depth (cond t (b ∷ filter p bs) (filter p bs)) ≤ suc b.place + depth bs) [
      | true ↦ omega (arith, depth-filter p bs)
      | false ↦ omega (arith, depth-filter p bs)
    ]

pub depth-put_in : (blocks : List CacheBlock) (b : CacheBlock) → depth (put_in blocks b) ≡ suc b.place + depth blocks
depth-put_in [] b = refl
depth-put_in (c ∷ cs) b =
    elim (ltb c.place b.place) as (λ t. depth (cond t (c ∷ put_in cs b) (b ∷ c ∷ cs)) ≡ suc b.place + (suc c.place + depth cs)) [
      | true ↦ omega (arith, depth-put_in cs b)
      | false ↦ refl
    ]

-- a single block is the highest where it ends above `top`
single : (top : ℕ) (x b : CacheBlock) → highest_above top (x ∷ []) ≡ Some b → (x ≡ b) × (top < end_of x)
single top x b =
    elim (ltb top (end_of x)) as (λ t. ltb top (end_of x) ≡ t → cond t (Some x) None ≡ Some b → (x ≡ b) × (top < end_of x)) [
      | true ↦ λ e h. (cc, ltb-true top (end_of x) e)
      | false ↦ λ e h. absurd (cc)
    ] refl

-- without the highest block, all have less to fall
pub dropped : (top : ℕ) (p : CacheBlock → Bool) (blocks : List CacheBlock) (b : CacheBlock) → highest_above top blocks ≡ Some b → p b ≡ false → depth (filter p blocks) + suc b.place ≤ depth blocks
dropped top p [] b h out = absurd (cc)
dropped top p (x ∷ []) b h out =
    let same = (single top x b h).0 in
    let gone : p x ≡ false = ap p same ∙ out in
    rw gone (omega (arith, ap (λ (c : CacheBlock). c.place) same))
dropped top p (x ∷ c ∷ cs) b h out =
    let rest = dropped top p (c ∷ cs) b h out in
    elim (p x) as (λ t. depth (cond t (x ∷ filter p (c ∷ cs)) (filter p (c ∷ cs))) + suc b.place ≤ suc x.place + depth (c ∷ cs)) [
      | true ↦ omega (arith, rest)
      | false ↦ omega (arith, rest)
    ]

-- What the highest block tells: it ends above `top`, and no block starts above it.
record IsHighest (top low : ℕ) (b : CacheBlock) : Type 0 where
  pub ends : top < end_of b
  pub sized : 0 < b.size
  pub from : low ≤ b.place

highest : (top low : ℕ) (blocks : List CacheBlock) (b : CacheBlock) → IsRising low blocks → highest_above top blocks ≡ Some b → IsHighest top low b
highest top low [] b r h = absurd (cc)
highest top low (x ∷ []) b r h =
    let only = single top x b h in
    subst (λ (c : CacheBlock). IsHighest top low c) only.0 (record { ends = only.1; sized = r.1; from = r.0 })
highest top low (x ∷ c ∷ cs) b r h =
    let rest = highest top x.place (c ∷ cs) b r.2 h in
    record { ends = rest.ends; sized = rest.sized; from = omega (arith, rest.from, r.0) }

-- a block that starts at or above a place is at most as high as the highest
above_highest : (top low place : ℕ) (blocks : List CacheBlock) (b : CacheBlock) → IsRising low blocks → highest_above top blocks ≡ Some b → has_above blocks place ≡ true → place ≤ b.place
above_highest top low place [] b r h above = absurd (cc)
above_highest top low place (x ∷ []) b r h above =
    elim (or_cases (leb place x.place) false above) [
      | inl up ↦ omega (arith, leb-true place x.place up, ap (λ (c : CacheBlock). c.place) (single top x b h).0)
      | inr none ↦ absurd (cc)
    ]
above_highest top low place (x ∷ c ∷ cs) b r h above =
    elim (or_cases (leb place x.place) (has_above (c ∷ cs) place) above) [
      | inl up ↦ omega (arith, leb-true place x.place up, (highest top x.place (c ∷ cs) b r.2 h).from)
      | inr rest ↦ above_highest top x.place place (c ∷ cs) b r.2 h rest
    ]

-- a clear range does not meet the highest block
clear_highest : (top place size : ℕ) (blocks : List CacheBlock) (b : CacheBlock) → highest_above top blocks ≡ Some b → is_clear blocks place size ≡ true → (place + size ≤ b.place) ⊎ (end_of b ≤ place)
clear_highest top place size [] b h clear = absurd (cc)
clear_highest top place size (x ∷ []) b h clear =
    let at = ap (λ (c : CacheBlock). c.place) (single top x b h).0 in
    let ends = ap end_of (single top x b h).0 in
    elim (or_cases (leb (place + size) x.place) (leb (end_of x) place) (and_parts (leb (place + size) x.place || leb (end_of x) place) true clear).0) [
      | inl before ↦ inl (omega (arith, leb-true (place + size) x.place before, at))
      | inr behind ↦ inr (omega (arith, leb-true (end_of x) place behind, ends))
    ]
clear_highest top place size (x ∷ c ∷ cs) b h clear =
    clear_highest top place size (c ∷ cs) b h (and_parts (leb (place + size) x.place || leb (end_of x) place) (is_clear (c ∷ cs) place size) clear).1

passes-lesser : (p : ℕ → Bool) (x : ℕ) (o : Option ℕ) → p x ≡ true → ((k : ℕ) → o ≡ Some k → p k ≡ true) → p (lesser x o) ≡ true
passes-lesser p x None h f = h
passes-lesser p x (Some k) h f =
    elim (eqb_tells (min x k) x) [
      | inl same ↦ ap p same.1 ∙ h
      | inr other ↦ (let same : min x k ≡ k = omega (arith, other.1) in ap p same ∙ f k refl)
    ]

-- the least that passes a test passes it
pub passes-least : (p : ℕ → Bool) (ns : List ℕ) (n : ℕ) → least (filter p ns) ≡ Some n → p n ≡ true
passes-least p [] n e = absurd (cc)
passes-least p (x ∷ xs) n e =
    elim (p x) as (λ t. p x ≡ t → least (cond t (x ∷ filter p xs) (filter p xs)) ≡ Some n → p n ≡ true) [
      | true ↦ λ is h. (let same : lesser x (least (filter p xs)) ≡ n = cc in ap p (sym same) ∙ passes-lesser p x (least (filter p xs)) is (λ k g. passes-least p xs k g))
      | false ↦ λ is h. passes-least p xs n h
    ] refl e

-- the highest block hops down
hop_below : (top low place : ℕ) (blocks : List CacheBlock) (b : CacheBlock) → IsRising low blocks → highest_above top blocks ≡ Some b → hop blocks b top ≡ Some place → place < b.place
unfolding hop
hop_below top low place blocks b r h e =
    let test = passes-least (λ p. is_clear blocks p b.size && (has_above blocks p || leb (p + b.size) top)) (map end_of blocks) place e in
    let parts = and_parts (is_clear blocks place b.size) (has_above blocks place || leb (place + b.size) top) test in
    let high = highest top low blocks b r h in
    elim (clear_highest top place b.size blocks b h parts.0) [
      | inl before ↦ omega (arith, high.sized)
      | inr behind ↦ elim (or_cases (has_above blocks place) (leb (place + b.size) top) parts.1) [
        | inl above ↦ absurd (omega (arith, above_highest top low place blocks b r h above, high.sized))
        | inr fits ↦ absurd (omega (arith, leb-true (place + b.size) top fits, high.ends))
      ]
    ]

-- A turn lowers the depth and keeps the order.
pub record IsTurnDown (blocks after : List CacheBlock) : Type 0 where
  pub lower : depth after < depth blocks
  pub rising : IsRising 0 after

self_dropped : (b : CacheBlock) → not (nat_eq b.user b.user) ≡ false
self_dropped b = rw (eq-eqb b.user b.user refl) refl

turn_down_to : (top : ℕ) (c : Cache) (b : CacheBlock) (o : Option ℕ) → IsRising 0 c.blocks → highest_above top c.blocks ≡ Some b → hop c.blocks b top ≡ o → IsTurnDown c.blocks (hopped_to c b o).blocks
turn_down_to top c b None r h e = record {
  lower = omega (arith, dropped top (λ x. not (nat_eq x.user b.user)) c.blocks b h (self_dropped b));
  rising = rising-filter (λ x. not (nat_eq x.user b.user)) 0 c.blocks r;
}
turn_down_to top c b (Some place) r h e = record {
  lower = omega (arith, depth-put_in (without_block c.blocks b.user) (record b { place = place }), dropped top (λ x. not (nat_eq x.user b.user)) c.blocks b h (self_dropped b), hop_below top 0 place c.blocks b r h e);
  rising = rising-put_in 0 (without_block c.blocks b.user) (record b { place = place }) (omega arith) (highest top 0 c.blocks b r h).sized (rising-filter (λ x. not (nat_eq x.user b.user)) 0 c.blocks r);
}

pub turn_down : (top : ℕ) (c : Cache) (b : CacheBlock) → IsRising 0 c.blocks → highest_above top c.blocks ≡ Some b → IsTurnDown c.blocks (hopped top c b).blocks
unfolding hopped
turn_down top c b r h = turn_down_to top c b (hop c.blocks b top) r h refl

pub none_high : (top : ℕ) (blocks : List CacheBlock) → depth blocks ≤ 0 → highest_above top blocks ≡ None
none_high top [] h = refl
none_high top (b ∷ bs) h = absurd (omega arith)

down_turn : (n : ℕ) (c : Cache) (top : ℕ) → IsRising 0 c.blocks → depth c.blocks ≤ suc n → ((d : Cache) → IsRising 0 d.blocks → depth d.blocks ≤ n → highest_above top (down_in n top d).blocks ≡ None) →
    (o : Option CacheBlock) → highest_above top c.blocks ≡ o → highest_above top (turned top (down_in n top) c o).blocks ≡ None
down_turn n c top r few rest None e = e
down_turn n c top r few rest (Some b) e = let turn = turn_down top c b r e in rest (hopped top c b) turn.rising (omega (arith, turn.lower))

down_in-ends : (n : ℕ) (c : Cache) (top : ℕ) → IsRising 0 c.blocks → depth c.blocks ≤ n → highest_above top (down_in n top c).blocks ≡ None
unfolding down_in
down_in-ends zero c top r few = none_high top c.blocks few
down_in-ends (suc n) c top r few = down_turn n c top r few (λ d s f. down_in-ends n d top s f) (highest_above top c.blocks) refl

pub depth_most : (size : ℕ) (blocks : List CacheBlock) → AllByRecursion (λ b. b.place ≤ size) blocks → depth blocks ≤ length blocks * suc size
depth_most size [] a = omega arith
depth_most size (b ∷ bs) a = omega (arith, a.0, depth_most size bs a.1)

-- A push down ends where no block ends above the top.
pub pushed_down-ends : (c : Cache) (size top : ℕ) → IsRising 0 c.blocks → AllByRecursion (λ b. b.place ≤ size) c.blocks → highest_above top (pushed_down c size top).blocks ≡ None
unfolding pushed_down
pushed_down-ends c size top r a = down_in-ends (length c.blocks * suc size) c top r (depth_most size c.blocks a)
