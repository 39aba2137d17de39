-- A push up by larger steps: all hops of a block inside one gap are one move.
use Rattle.std.proofs.Common.{◌≡◌, ℕ, suc, zero, ◌+◌, ◌*◌, ◌<◌, ◌≤◌, List, [], ◌∷◌, Option, Some, None, find, length, nat_eq, not, refl, sym, ap, subst, ◌∙◌, inl, inr, arith}
use Rattle.std.proofs.lemmas.Bool.{lt-ltb, le-ltb, le-leb, lt-leb, cases_lt, eq-eqb}
use Rattle.std.proofs.lemmas.Bool.Decides.{eqb_tells}
use Rattle.mem_model.specs.Blocks.{CacheBlock}
use Rattle.mem_model.specs.Memory.{Cache, cache_of}
use Rattle.mem_model.specs.Places.{end_of}
use Rattle.mem_model.specs.Cache.{put_in, without_user, without_block, moved, hopped, hopped_to, lowest_below, turned, up_in, pushed_up}
use Rattle.mem_model.specs.Gaps.{start_of, gap_from}
use Rattle.mem_model.specs.Turns.{height}
use Rattle.mem_model.specs.Laid.{IsCache, count_in, users_of}
use Rattle.mem_model.proofs.CacheBlocks.{between-spans}
use Rattle.mem_model.proofs.CacheMoves.{has_sizes, rising, later-hopped}
use Rattle.mem_model.proofs.Gaps.{hop_gap}
use Rattle.mem_model.proofs.Pushes.{IsRising, height_most, hopped_turn}

-- A push with no block to move leaves the cache.
up_done : (n bottom top : ℕ) (c : Cache) → lowest_below bottom c.blocks ≡ None → up_in n bottom top c ≡ c
unfolding up_in
up_done zero bottom top c h = refl
up_done (suc n) bottom top c h = ap (turned top (up_in n bottom top) c) h

pub pushed_up-done : (bottom top : ℕ) (c : Cache) → lowest_below bottom c.blocks ≡ None → pushed_up c bottom top ≡ c
unfolding pushed_up
pushed_up-done bottom top c h = up_done (length c.blocks * suc top) bottom top c h

up_one : (n bottom top : ℕ) (c : Cache) (b : CacheBlock) → lowest_below bottom c.blocks ≡ Some b → up_in (suc n) bottom top c ≡ up_in n bottom top (hopped top c b)
unfolding up_in
up_one n bottom top c b h = ap (turned top (up_in n bottom top) c) h

none_low : (bottom top : ℕ) (blocks : List CacheBlock) → bottom ≤ top → height top blocks ≤ 0 → lowest_below bottom blocks ≡ None
none_low bottom top [] h few = refl
none_low bottom top (b ∷ bs) h few = rw (le-ltb b.place bottom (omega arith)) refl

-- With turns enough their number doesn't count.
up_in-enough : (n m : ℕ) (blocks : List CacheBlock) (recency : List ℕ) (bottom top : ℕ) → bottom ≤ top → IsRising 0 blocks → height top blocks ≤ n → height top blocks ≤ m →
    up_in n bottom top (cache_of blocks recency) ≡ up_in m bottom top (cache_of blocks recency)
up_in-enough zero m blocks recency bottom top h r p q =
    let none = none_low bottom top blocks h p in
    up_done zero bottom top (cache_of blocks recency) none ∙ sym (up_done m bottom top (cache_of blocks recency) none)
up_in-enough (suc n) zero blocks recency bottom top h r p q =
    let none = none_low bottom top blocks h q in
    up_done (suc n) bottom top (cache_of blocks recency) none ∙ sym (up_done zero bottom top (cache_of blocks recency) none)
up_in-enough (suc n) (suc m) [] recency bottom top h r p q = up_done (suc n) bottom top (cache_of [] recency) refl ∙ sym (up_done (suc m) bottom top (cache_of [] recency) refl)
up_in-enough (suc n) (suc m) (b ∷ bs) recency bottom top h r p q =
    elim (cases_lt b.place bottom) [
      | inl below ↦ (
          let low : lowest_below bottom (b ∷ bs) ≡ Some b = rw (lt-ltb b.place bottom below) refl in
          let turn = hopped_turn b bs recency top r (omega (arith, below)) in
          let next = hopped top (cache_of (b ∷ bs) recency) b in
          up_one n bottom top (cache_of (b ∷ bs) recency) b low
          ∙ up_in-enough n m next.blocks next.recency bottom top h turn.rising (omega (arith, turn.lower)) (omega (arith, turn.lower))
          ∙ sym (up_one m bottom top (cache_of (b ∷ bs) recency) b low))
      | inr above ↦ (
          let none : lowest_below bottom (b ∷ bs) ≡ None = rw (le-ltb b.place bottom above) refl in
          up_done (suc n) bottom top (cache_of (b ∷ bs) recency) none ∙ sym (up_done (suc m) bottom top (cache_of (b ∷ bs) recency) none))
    ]

-- A push up with a block below the bottom is its hop, and a push up.
pub pushed_up-turn : (b : CacheBlock) (bs : List CacheBlock) (recency : List ℕ) (bottom top : ℕ) → IsRising 0 (b ∷ bs) → b.place < bottom → bottom ≤ top →
    pushed_up (cache_of (b ∷ bs) recency) bottom top ≡ pushed_up (hopped top (cache_of (b ∷ bs) recency) b) bottom top
unfolding pushed_up
pushed_up-turn b bs recency bottom top r below h =
    let c = cache_of (b ∷ bs) recency in
    let next = hopped top (cache_of (b ∷ bs) recency) b in
    let n = length (b ∷ bs) * suc top in
    let m = length next.blocks * suc top in
    let turn = hopped_turn b bs recency top r (omega (arith, below)) in
    let low : lowest_below bottom (b ∷ bs) ≡ Some b = rw (lt-ltb b.place bottom below) refl in
    up_in-enough n (suc (n + m)) (b ∷ bs) recency bottom top h r (height_most top (b ∷ bs)) (omega (arith, height_most top (b ∷ bs)))
    ∙ up_one (n + m) bottom top c b low
    ∙ up_in-enough (n + m) m next.blocks next.recency bottom top h turn.rising (omega (arith, turn.lower, height_most top (b ∷ bs))) (height_most top next.blocks)

-- A list without the user stays.
pub without_block-none : (user : ℕ) (blocks : List CacheBlock) → count_in user (users_of blocks) ≡ 0 → without_block blocks user ≡ blocks
without_block-none user [] h = refl
without_block-none user (b ∷ bs) h =
    elim (eqb_tells b.user user) [
      | inl at ↦ absurd (omega (arith, rw at.0 at h))
      | inr off ↦ rw off.0 (let rest : count_in user (users_of bs) ≡ 0 = omega (arith, rw off.0 at h) in ap (λ xs. b ∷ xs) (without_block-none user bs rest))
    ]

pub without_user-none : (user : ℕ) (users : List ℕ) → count_in user users ≡ 0 → without_user users user ≡ users
without_user-none user [] h = refl
without_user-none user (u ∷ us) h =
    elim (eqb_tells u user) [
      | inl at ↦ absurd (omega (arith, rw at.0 at h))
      | inr off ↦ rw off.0 (let rest : count_in user us ≡ 0 = omega (arith, rw off.0 at h) in ap (λ xs. u ∷ xs) (without_user-none user us rest))
    ]

pub without_user-gone : (user : ℕ) (users : List ℕ) → count_in user (without_user users user) ≡ 0
without_user-gone user users = Rattle.mem_model.proofs.CacheBlocks.count-gone (λ u. not (nat_eq u user)) user users (rw (eq-eqb user user refl) refl)

-- twice is once
without_user-twice : (user : ℕ) (users : List ℕ) → without_user (user ∷ without_user users user) user ≡ without_user users user
without_user-twice user users = rw (eq-eqb user user refl) (without_user-none user (without_user users user) (without_user-gone user users))

-- the first block counts for its user alone
pub alone : {b : CacheBlock} {bs : List CacheBlock} {recency : List ℕ} {users low top : ℕ} → IsCache (cache_of (b ∷ bs) recency) users low top → count_in b.user (users_of bs) ≡ 0
alone {b} {bs} {recency} {users} {low} {top} is = (let once : 1 + count_in b.user (users_of bs) ≤ 1 = rw (eq-eqb b.user b.user refl) at (is.one_each b.user) in omega arith)

pub front_dropped : (b : CacheBlock) (bs : List CacheBlock) → count_in b.user (users_of bs) ≡ 0 → without_block (b ∷ bs) b.user ≡ bs
front_dropped b bs h = rw (eq-eqb b.user b.user refl) (without_block-none b.user bs h)

-- the cache with its first block moved
pub moved_front : (b : CacheBlock) (bs : List CacheBlock) (recency : List ℕ) (place : ℕ) → count_in b.user (users_of bs) ≡ 0 →
    moved (cache_of (b ∷ bs) recency) b place ≡ cache_of (put_in bs (record b { place = place })) (b.user ∷ without_user recency b.user)
moved_front b bs recency place h = ap (λ rest. cache_of (put_in rest (record b { place = place })) (b.user ∷ without_user recency b.user)) (front_dropped b bs h)

pub put_first : (b : CacheBlock) (bs : List CacheBlock) (top : ℕ) → b.place ≤ start_of top bs → put_in bs b ≡ b ∷ bs
put_first b [] top h = refl
put_first b (c ∷ cs) top h = rw (le-ltb c.place b.place h) refl

-- the first gap, where it is the first of all, and where it is not
gap_first : (bs : List CacheBlock) (start size top : ℕ) → start + size ≤ start_of top bs → gap_from start size top bs ≡ Some start
gap_first [] start size top h = rw (le-leb (start + size) top h) refl
gap_first (b ∷ bs) start size top h = rw (le-leb (start + size) b.place h) refl

gap_later : (bs : List CacheBlock) (start size top : ℕ) → 0 < size → start_of top bs < start + size → gap_from start size top bs ≡ gap_from (start_of top bs) size top bs
gap_later [] start size top s h = rw (lt-leb (start + size) top h, lt-leb (top + size) top (omega arith)) refl
gap_later (b ∷ bs) start size top s h = rw (lt-leb (start + size) b.place h, lt-leb (b.place + size) b.place (omega arith)) refl

-- What a hop of the lowest block is, by the first gap.
pub hopped_gap : (b : CacheBlock) (bs : List CacheBlock) (recency : List ℕ) (users low high top : ℕ) → IsCache (cache_of (b ∷ bs) recency) users low high →
    hopped top (cache_of (b ∷ bs) recency) b ≡ hopped_to (cache_of (b ∷ bs) recency) b (gap_from (end_of b) b.size top bs)
unfolding hopped
hopped_gap b bs recency users low high top is = ap (hopped_to (cache_of (b ∷ bs) recency) b) (hop_gap b bs b low high top is.between (has_sizes users (b ∷ bs) is.blocks))

-- the lowest block a step further, as a hop inside its gap leaves it
abbrev pub stepped : CacheBlock → List CacheBlock → List ℕ → ℕ → Cache
stepped b bs recency place = cache_of (record b { place = place } ∷ bs) (b.user ∷ without_user recency b.user)

hopped_step : (b : CacheBlock) (bs : List CacheBlock) (recency : List ℕ) (users low top : ℕ) → IsCache (cache_of (b ∷ bs) recency) users low top → end_of b + b.size ≤ start_of top bs →
    hopped top (cache_of (b ∷ bs) recency) b ≡ stepped b bs recency (end_of b)
hopped_step b bs recency users low top is fits =
    hopped_gap b bs recency users low top top is
    ∙ ap (hopped_to (cache_of (b ∷ bs) recency) b) (gap_first bs (end_of b) b.size top fits)
    ∙ moved_front b bs recency (end_of b) (alone is)
    ∙ ap (λ blocks. cache_of blocks (b.user ∷ without_user recency b.user)) (put_first (record b { place = end_of b }) bs top (omega arith))

found_first : (b : CacheBlock) (bs : List CacheBlock) → find (λ x. nat_eq x.user b.user) (b ∷ bs) ≡ Some b
found_first b bs = rw (eq-eqb b.user b.user refl) refl

IsCache-stepped : (b : CacheBlock) (bs : List CacheBlock) (recency : List ℕ) (users low top : ℕ) → IsCache (cache_of (b ∷ bs) recency) users low top → end_of b + b.size ≤ start_of top bs → IsCache (stepped b bs recency (end_of b)) users low top
IsCache-stepped b bs recency users low top is fits =
    subst (λ c. IsCache c users low top) (hopped_step b bs recency users low top is fits) (later-hopped (cache_of (b ∷ bs) recency) b users low top top is (found_first b bs) (omega arith)).cache

-- a step of a push up inside the gap
pushed_step : (b : CacheBlock) (bs : List CacheBlock) (recency : List ℕ) (users low bottom top : ℕ) → IsCache (cache_of (b ∷ bs) recency) users low top → bottom ≤ top → b.place < bottom → end_of b + b.size ≤ start_of top bs →
    pushed_up (cache_of (b ∷ bs) recency) bottom top ≡ pushed_up (stepped b bs recency (end_of b)) bottom top
pushed_step b bs recency users low bottom top is h below fits =
    pushed_up-turn b bs recency bottom top (rising is) below h ∙ ap (λ c. pushed_up c bottom top) (hopped_step b bs recency users low top is fits)

-- Where a block may hop to its own end k + 1 times, and is still below the bottom before the last, these hops are one move.
pub pushed_up-jump : (k : ℕ) (b : CacheBlock) (bs : List CacheBlock) (recency : List ℕ) (users low bottom top : ℕ) → IsCache (cache_of (b ∷ bs) recency) users low top → bottom ≤ top →
    b.place + k * b.size < bottom → b.place + suc (suc k) * b.size ≤ start_of top bs →
    pushed_up (cache_of (b ∷ bs) recency) bottom top ≡ pushed_up (stepped b bs recency (b.place + suc k * b.size)) bottom top
pushed_up-jump zero b bs recency users low bottom top is h below fits =
    pushed_step b bs recency users low bottom top is h (omega (arith, below)) (omega (arith, fits))
    ∙ ap (λ place. pushed_up (stepped b bs recency place) bottom top) (let same : b.place + b.size ≡ b.place + 1 * b.size = omega arith in same)
pushed_up-jump (suc k) b bs recency users low bottom top is h below fits =
    let step : end_of b + b.size ≤ start_of top bs = omega (arith, fits) in
    let next = record b { place = end_of b } in
    pushed_step b bs recency users low bottom top is h (omega (arith, below)) step
    ∙ pushed_up-jump k (record b { place = end_of b }) bs (b.user ∷ without_user recency b.user) users low bottom top (IsCache-stepped b bs recency users low top is step) h (omega (arith, below)) (omega (arith, fits))
    ∙ ap (λ rest. pushed_up (cache_of (record b { place = end_of b + suc k * b.size } ∷ bs) (b.user ∷ rest)) bottom top) (without_user-twice b.user recency)
    ∙ ap (λ place. pushed_up (stepped b bs recency place) bottom top) (let same : end_of b + suc k * b.size ≡ b.place + suc (suc k) * b.size = omega arith in same)

-- a move from a later place is the same move
moved_later : (b : CacheBlock) (bs : List CacheBlock) (recency : List ℕ) (place : ℕ) (o : Option ℕ) → count_in b.user (users_of bs) ≡ 0 →
    hopped_to (stepped b bs recency place) (record b { place = place }) o ≡ hopped_to (cache_of (b ∷ bs) recency) b o
moved_later b bs recency place None h =
    ap (λ blocks. cache_of blocks (without_user (b.user ∷ without_user recency b.user) b.user)) (front_dropped (record b { place = place }) bs h ∙ sym (front_dropped b bs h))
    ∙ ap (λ users. cache_of (without_block (b ∷ bs) b.user) users) (without_user-twice b.user recency)
moved_later b bs recency place (Some q) h =
    moved_front (record b { place = place }) bs (b.user ∷ without_user recency b.user) q h
    ∙ ap (λ users. cache_of (put_in bs (record b { place = q })) (b.user ∷ users)) (without_user-twice b.user recency)
    ∙ sym (moved_front b bs recency q h)

-- where the block has no gap behind it
pushed_full : (b : CacheBlock) (bs : List CacheBlock) (recency : List ℕ) (users low bottom top : ℕ) → IsCache (cache_of (b ∷ bs) recency) users low top → bottom ≤ top → b.place < bottom → start_of top bs < end_of b + b.size →
    pushed_up (cache_of (b ∷ bs) recency) bottom top ≡ pushed_up (hopped_to (cache_of (b ∷ bs) recency) b (gap_from (start_of top bs) b.size top bs)) bottom top
pushed_full b bs recency users low bottom top is h below full =
    pushed_up-turn b bs recency bottom top (rising is) below h
    ∙ ap (λ c. pushed_up c bottom top) (hopped_gap b bs recency users low top top is
    ∙ ap (hopped_to (cache_of (b ∷ bs) recency) b) (gap_later bs (end_of b) b.size top (has_sizes users (b ∷ bs) is.blocks).0 full))

-- Where the gap behind the block ends before, it goes to the first gap behind the next block at once, or leaves.
pub pushed_up-later : (k : ℕ) (b : CacheBlock) (bs : List CacheBlock) (recency : List ℕ) (users low bottom top : ℕ) → IsCache (cache_of (b ∷ bs) recency) users low top → bottom ≤ top →
    b.place + k * b.size < bottom → start_of top bs < b.place + suc (suc k) * b.size →
    pushed_up (cache_of (b ∷ bs) recency) bottom top ≡ pushed_up (hopped_to (cache_of (b ∷ bs) recency) b (gap_from (start_of top bs) b.size top bs)) bottom top
pushed_up-later zero b bs recency users low bottom top is h below short = pushed_full b bs recency users low bottom top is h (omega (arith, below)) (omega (arith, short))
pushed_up-later (suc k) b bs recency users low bottom top is h below short =
    elim (cases_lt (start_of top bs) (end_of b + b.size)) [
      | inl full ↦ pushed_full b bs recency users low bottom top is h (omega (arith, below)) full
      | inr fits ↦ pushed_step b bs recency users low bottom top is h (omega (arith, below)) fits
          ∙ pushed_up-later k (record b { place = end_of b }) bs (b.user ∷ without_user recency b.user) users low bottom top (IsCache-stepped b bs recency users low top is fits) h (omega (arith, below)) (omega (arith, short))
          ∙ ap (λ c. pushed_up c bottom top) (moved_later b bs recency (end_of b) (gap_from (start_of top bs) b.size top bs) (alone is))
    ]
