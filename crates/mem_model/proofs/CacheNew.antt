-- A new block of the cache: who leaves for it, and where it stands.
use Rattle.std.proofs.Common.{◌≡◌, ◌≢◌, ℕ, suc, zero, ◌+◌, ◌-◌, ◌<◌, ◌≤◌, Bool, true, false, List, [], ◌∷◌, Option, Some, None, filter, map, length, nat_eq, not, leb, refl, sym, ap, ◌∙◌, inl, inr, arith, drop}
use Rattle.std.specs.Prelude.{◌&&◌, is_some}
use Rattle.std.specs.List.{AllByRecursion, list_any, range_with_len}
use Rattle.std.proofs.lemmas.Bool.{leb-true, le-leb, and_parts, cases_Bool}
use Rattle.mem_model.specs.Blocks.{CacheBlock}
use Rattle.mem_model.specs.Memory.{Cache}
use Rattle.mem_model.specs.Places.{end_of, is_clear, least, lesser, fit}
use Rattle.mem_model.specs.Cache.{kept, with_block, with_fitted, with_new, evictions, new_block, placed, made_room}
use Rattle.mem_model.specs.Laid.{AreBetween, IsCache, IsCacheBlock, count_in, users_of}
use Rattle.mem_model.specs.Turns.{IsHop}
use Rattle.mem_model.specs.Keeps.{held}
use Rattle.mem_model.proofs.CacheBlocks.{users_of-filter, count-stays, count-gone}
use Rattle.mem_model.proofs.CacheMoves.{least_among, ends_above, later-kept, none-counted, cache-with_block, held-with_block, held-with_other}
use Rattle.mem_model.proofs.Pushes.{passes-least}

-- The place of a fit is as good as that of a hop.
pub fit_is : (blocks : List CacheBlock) (bottom top size place : ℕ) → AreBetween bottom top blocks → fit blocks bottom top size ≡ Some place → IsHop blocks bottom top place size
unfolding fit
fit_is blocks bottom top size place a e =
    let parts = and_parts (leb (place + size) top) (is_clear blocks place size) (passes-least (λ p. leb (p + size) top && is_clear blocks p size) (bottom ∷ map end_of blocks) place e) in
    record {
      above = least_among (λ p. bottom ≤ p) (λ p. leb (p + size) top && is_clear blocks p size) (bottom ∷ map end_of blocks) place (omega arith, ends_above bottom bottom top blocks (omega arith) a) e;
      below = leb-true (place + size) top parts.0;
      clear = parts.1;
    }

-- where one of some numbers passes, there is a least that does
least_some : (p : ℕ → Bool) (a n k : ℕ) → a ≤ k → k < a + n → p k ≡ true → (m : ℕ) × (least (filter p (range_with_len a n)) ≡ Some m)
least_some p a zero k from to h = absurd (omega arith)
least_some p a (suc n) k from to h =
    elim (cases_Bool (p a)) [
      | inl here ↦ rw here (lesser a (least (filter p (range_with_len (a + 1) n))), refl)
      | inr off ↦ (let other : a ≢ k = λ same. (let no : true ≡ false = sym h ∙ ap p (sym same) ∙ off in absurd (cc)) in rw off (least_some p (a + 1) n k (omega arith) (omega arith) h))
    ]

-- each block's user is among these
all_among : (recency : List ℕ) (blocks : List CacheBlock) → ((user : ℕ) → count_in user (users_of blocks) ≤ count_in user recency) → AllByRecursion (λ b. not (list_any (nat_eq b.user) recency) ≡ false) blocks
all_among recency [] f = tt
all_among recency (b ∷ bs) f = (among (list_any (nat_eq b.user) recency) refl, all_among recency bs (λ user. omega (arith, f user))) where
  among : (t : Bool) → list_any (nat_eq b.user) recency ≡ t → not t ≡ false
  among true e = refl
  among false e = absurd (omega (arith, f b.user, none-counted b.user recency e, rw (Rattle.std.proofs.lemmas.Bool.eq-eqb b.user b.user refl) at (f b.user)))

filter-none : (p : CacheBlock → Bool) (blocks : List CacheBlock) → AllByRecursion (λ b. p b ≡ false) blocks → filter p blocks ≡ []
filter-none p [] a = refl
filter-none p (b ∷ bs) a = rw a.0 (filter-none p bs a.1)

kept_none : (c : Cache) (users bottom top : ℕ) → IsCache c users bottom top → (kept c (length c.recency)).blocks ≡ []
kept_none c users bottom top is =
    ap (λ n. filter (λ b. not (list_any (nat_eq b.user) (drop n c.recency))) c.blocks) (let none : length c.recency - length c.recency ≡ 0 = omega arith in none)
    ∙ filter-none (λ b. not (list_any (nat_eq b.user) c.recency)) c.blocks (all_among c.recency c.blocks (λ user. omega (arith, is.recency user)))

fits_empty : (bottom top size : ℕ) → bottom + size ≤ top → is_some (fit [] bottom top size) ≡ true
unfolding fit
fits_empty bottom top size h = rw (le-leb (bottom + size) top h) refl

some_is : (o : Option ℕ) → is_some o ≡ true → (n : ℕ) × (o ≡ Some n)
some_is None h = absurd (cc)
some_is (Some n) h = (n, refl)

-- A new block is put in among those that stay.
pub record IsPlaced (c : Cache) (bottom top size user : ℕ) (name : List ℕ) (n place : ℕ) : Type 0 where
  pub hop : IsHop (kept c n).blocks bottom top place size
  pub is : with_new c bottom top size user name ≡ with_block (kept c n) (new_block place size user name)

pub with_fitted-placed : (c : Cache) (b : CacheBlock) (bottom top n place : ℕ) → evictions c bottom top b.size ≡ Some n → fit (kept c n).blocks bottom top b.size ≡ Some place →
    with_fitted c bottom top b ≡ with_block (kept c n) (record b { place = place })
unfolding with_fitted
with_fitted-placed c b bottom top n place some fits =
    ap (λ o. placed (made_room c o) b (fit (made_room c o).blocks bottom top b.size)) some ∙ ap (λ o. placed (kept c n) b o) fits

pub evictions_are : (c : Cache) (bottom top size users : ℕ) → IsCache c users bottom top → bottom + size ≤ top →
    (n : ℕ) × (place : ℕ) × (evictions c bottom top size ≡ Some n) × (fit (kept c n).blocks bottom top size ≡ Some place)
unfolding evictions
evictions_are c bottom top size users is fits =
    let test = λ (n : ℕ). is_some (fit (kept c n).blocks bottom top size) in
    let all : test (length c.recency) ≡ true = ap (λ (blocks : List CacheBlock). is_some (fit blocks bottom top size)) (kept_none c users bottom top is) ∙ fits_empty bottom top size fits in
    let some = least_some test 0 (suc (length c.recency)) (length c.recency) (omega arith) (omega arith) all in
    let place = some_is (fit (kept c some.0).blocks bottom top size) (passes-least test (range_with_len 0 (suc (length c.recency))) some.0 some.1) in
    (some.0, place.0, some.1, place.1)

-- Where the need fits between the two places, a new block always comes.
pub with_new_is : (c : Cache) (bottom top size user users : ℕ) (name : List ℕ) → IsCache c users bottom top → bottom + size ≤ top → (n : ℕ) × (place : ℕ) × IsPlaced c bottom top size user name n place
with_new_is c bottom top size user users name is fits =
    let found = evictions_are c bottom top size users is fits in (
      found.0,
      found.1,
      record {
        hop = fit_is (kept c found.0).blocks bottom top size found.1 (later-kept c users bottom top found.0 is).cache.between found.3;
        is = with_fitted-placed c (new_block 0 size user name) bottom top found.0 found.1 found.2 found.3;
      },
    )

pub none-filtered : (q : ℕ → Bool) (user : ℕ) (blocks : List CacheBlock) (t : Bool) → q user ≡ t → count_in user (users_of blocks) ≡ 0 → count_in user (users_of (filter (λ b. q b.user) blocks)) ≡ 0
none-filtered q user blocks true e h = ap (count_in user) (users_of-filter q blocks) ∙ count-stays q user (users_of blocks) e ∙ h
none-filtered q user blocks false e h = ap (count_in user) (users_of-filter q blocks) ∙ count-gone q user (users_of blocks) e

-- What a new block leaves: a cache in order, what the others hold, and the new user's zero bytes.
pub record IsGrown (users bottom top size user : ℕ) (name : List ℕ) (before after : Cache) : Type 0 where
  pub cache : IsCache after users bottom top
  pub own : held after user ≡ Some (new_block 0 size user name)
  pub others : (other : ℕ) (b : CacheBlock) → other ≢ user → held after other ≡ Some b → held before other ≡ Some b

grown-placed : (c : Cache) (bottom top size user users n place : ℕ) (name : List ℕ) → IsCache c users bottom top → count_in user (users_of c.blocks) ≡ 0 → IsCacheBlock users (new_block place size user name) →
    IsHop (kept c n).blocks bottom top place size → IsGrown users bottom top size user name c (with_block (kept c n) (new_block place size user name))
grown-placed c bottom top size user users n place name is none block hop =
    let left = later-kept c users bottom top n is in
    let stay = length c.recency - n in
    let absent = none-filtered (λ u. not (list_any (nat_eq u) (drop stay c.recency))) user c.blocks (not (list_any (nat_eq user) (drop stay c.recency))) refl none in
    record {
      cache = cache-with_block (kept c n) (new_block place size user name) users bottom top left.cache block absent hop.above hop.below hop.clear;
      own = held-with_block (kept c n) (new_block place size user name) absent;
      others = λ other b not_own h. left.keeps.holds other b (sym (held-with_other (kept c n) (new_block place size user name) other (λ e. not_own (sym e))) ∙ h);
    }

pub grown-with_new : (c : Cache) (bottom top size user users : ℕ) (name : List ℕ) → IsCache c users bottom top → bottom + size ≤ top → count_in user (users_of c.blocks) ≡ 0 → ((place : ℕ) → IsCacheBlock users (new_block place size user name)) →
    IsGrown users bottom top size user name c (with_new c bottom top size user name)
grown-with_new c bottom top size user users name is fits none block =
    let found = with_new_is c bottom top size user users name is fits in
    rw found.2.is (grown-placed c bottom top size user users found.0 found.1 name is none (block found.1) found.2.hop)
