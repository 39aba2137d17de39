-- What the cache's moves leave: a cache in order, and what each user holds.
use Rattle.std.proofs.Common.{◌≡◌, ◌≢◌, ℕ, suc, zero, ◌+◌, ◌-◌, ◌*◌, ◌<◌, ◌≤◌, Bool, true, false, cond, List, [], ◌∷◌, ◌++◌, Option, Some, None, filter, find, map, length, nat_eq, not, leb, ltb, eqb, refl, sym, ap, subst, ◌∙◌, ◌⊎◌, inl, inr, arith, take, drop}
use Rattle.std.specs.Prelude.{◌&&◌, ◌||◌}
use Rattle.std.specs.List.{AllByRecursion, list_any}
use Rattle.std.specs.Option.{option_map}
use Rattle.std.proofs.lemmas.Bool.{eq-eqb, ne_eqb, ltb-false, leb-true, and_parts, or_cases, not-true, not-false}
use Rattle.std.proofs.lemmas.Bool.Decides.{eqb_tells}
use Rattle.std.proofs.lemmas.List.{take-append-drop}
use Rattle.mem_model.specs.Blocks.{CacheBlock}
use Rattle.mem_model.specs.Memory.{Cache}
use Rattle.mem_model.specs.Places.{end_of, is_clear, has_above, least, lesser, hop}
use Rattle.mem_model.specs.Cache.{put_in, without, without_user, block_of, moved, hopped_to, hopped, lowest_below, highest_above, turned, up_in, down_in, pushed_up, pushed_down, kept, with_block}
use Rattle.mem_model.specs.Laid.{AreBetween, IsCache, IsCacheBlock, count_in, users_of}
use Rattle.mem_model.specs.Gaps.{HasSize}
use Rattle.mem_model.specs.Turns.{IsHop}
use Rattle.mem_model.specs.Keeps.{held, unplaced}
use Rattle.mem_model.proofs.CacheBlocks.{find-stays, find-gone, find-put_other, find-put_own, find-some, count-stays, count-gone, users_of-filter, count-put_in, count-append, all-filter, all-put_in, between-spans, between-filter, between-put_in, clear-filter, clear_below}
use Rattle.mem_model.proofs.Pushes.{passes-least, IsRising, StartsAbove, pushed_up-ends, pushed_down-ends}

-- Each user holds what it held, or nothing.
pub record KeepsHeld (before after : Cache) : Type 0 where
  pub holds : (user : ℕ) (b : CacheBlock) → held after user ≡ Some b → held before user ≡ Some b

pub keeps_all : (c : Cache) → KeepsHeld c c
keeps_all c = record { holds = λ user b h. h }

pub keeps_more : {a b c : Cache} → KeepsHeld a b → KeepsHeld b c → KeepsHeld a c
keeps_more p q = record { holds = λ user b h. p.holds user b (q.holds user b h) }

-- A cache in order that keeps what users held.
pub record IsLater (users bottom top : ℕ) (before after : Cache) : Type 0 where
  pub cache : IsCache after users bottom top
  pub keeps : KeepsHeld before after

held_same : (c d : Cache) (user : ℕ) → block_of c user ≡ block_of d user → held c user ≡ held d user
unfolding held
held_same c d user h = ap (option_map unplaced) h

held_none : (c : Cache) (user : ℕ) (b : CacheBlock) → block_of c user ≡ None → held c user ≡ Some b → ⊥
unfolding held
held_none c user b none h = (let no : None ≡ Some b = rw none at h in absurd (cc))

-- some users leave with their blocks
abbrev staying : (ℕ → Bool) → Cache → List ℕ → Cache
staying q c recency = record { blocks = filter (λ b. q b.user) c.blocks; recency = recency }

keeps-staying : (q : ℕ → Bool) (c : Cache) (recency : List ℕ) (user : ℕ) (b : CacheBlock) (t : Bool) → q user ≡ t → held (staying q c recency) user ≡ Some b → held c user ≡ Some b
keeps-staying q c recency user b true e h = held_same c (staying q c recency) user (sym (find-stays q user c.blocks e)) ∙ h
keeps-staying q c recency user b false e h = absurd (held_none (staying q c recency) user b (find-gone q user c.blocks e) h)

-- the recency is that of the users that stay
record IsRecency (q : ℕ → Bool) (old recency : List ℕ) : Type 0 where
  stay : (user : ℕ) → q user ≡ true → count_in user recency ≡ count_in user old
  gone : (user : ℕ) → q user ≡ false → count_in user recency ≡ 0

few-staying : (q : ℕ → Bool) (blocks : List CacheBlock) (user : ℕ) (t : Bool) → q user ≡ t → count_in user (users_of blocks) ≤ 1 → count_in user (users_of (filter (λ b. q b.user) blocks)) ≤ 1
few-staying q blocks user true e h = omega (arith, ap (count_in user) (users_of-filter q blocks), count-stays q user (users_of blocks) e)
few-staying q blocks user false e h = omega (arith, ap (count_in user) (users_of-filter q blocks), count-gone q user (users_of blocks) e)

same-staying : (q : ℕ → Bool) (c : Cache) (recency : List ℕ) (user : ℕ) (t : Bool) → q user ≡ t → IsRecency q c.recency recency → count_in user c.recency ≡ count_in user (users_of c.blocks) →
    count_in user recency ≡ count_in user (users_of (filter (λ b. q b.user) c.blocks))
same-staying q c recency user true e r h = r.stay user e ∙ h ∙ sym (ap (count_in user) (users_of-filter q c.blocks) ∙ count-stays q user (users_of c.blocks) e)
same-staying q c recency user false e r h = r.gone user e ∙ sym (ap (count_in user) (users_of-filter q c.blocks) ∙ count-gone q user (users_of c.blocks) e)

later-staying : (q : ℕ → Bool) (c : Cache) (recency : List ℕ) (users bottom top : ℕ) → IsRecency q c.recency recency → IsCache c users bottom top → IsLater users bottom top c (staying q c recency)
later-staying q c recency users bottom top r is = record {
  cache = record {
    blocks = all-filter (IsCacheBlock users) (λ b. q b.user) c.blocks is.blocks;
    between = between-filter (λ b. q b.user) c.blocks bottom top is.between;
    one_each = λ user. few-staying q c.blocks user (q user) refl (is.one_each user);
    recency = λ user. same-staying q c recency user (q user) refl r (is.recency user);
  };
  keeps = record { holds = λ user b h. keeps-staying q c recency user b (q user) refl h };
}

-- A user leaves.
pub later-without : (c : Cache) (users bottom top user : ℕ) → IsCache c users bottom top → IsLater users bottom top c (without c user)
later-without c users bottom top user is =
    later-staying (λ u. not (nat_eq u user)) c (without_user c.recency user) users bottom top
    (record { stay = λ u e. count-stays (λ v. not (nat_eq v user)) u c.recency e; gone = λ u e. count-gone (λ v. not (nat_eq v user)) u c.recency e }) is

pub count-without : (c : Cache) (user : ℕ) → count_in user (users_of (without c user).blocks) ≡ 0
count-without c user = ap (count_in user) (users_of-filter (λ u. not (nat_eq u user)) c.blocks) ∙ count-gone (λ u. not (nat_eq u user)) user (users_of c.blocks) (rw (eq-eqb user user refl) refl)

-- it is among these
pub any-counted : (user : ℕ) (users : List ℕ) → list_any (nat_eq user) users ≡ true → 0 < count_in user users
any-counted user [] h = absurd (cc)
any-counted user (u ∷ us) h =
    elim (eqb_tells u user) [
      | inl at ↦ rw at.0 (omega arith)
      | inr off ↦ (let other : eqb user u ≡ false = ne_eqb user u (λ e. off.1 (sym e)) in let rest : list_any (nat_eq user) us ≡ true = rw other at h in rw off.0 (omega (arith, any-counted user us rest)))
    ]

pub none-counted : (user : ℕ) (users : List ℕ) → list_any (nat_eq user) users ≡ false → count_in user users ≡ 0
none-counted user [] h = refl
none-counted user (u ∷ us) h =
    elim (eqb_tells u user) [
      | inl at ↦ (let same : eqb user u ≡ true = eq-eqb user u (sym at.1) in let no : true ≡ false = rw same at h in absurd (cc))
      | inr off ↦ (let other : eqb user u ≡ false = ne_eqb user u (λ e. off.1 (sym e)) in let rest : list_any (nat_eq user) us ≡ false = rw other at h in rw off.0 (omega (arith, none-counted user us rest)))
    ]

count-parts : (user n : ℕ) (users : List ℕ) → count_in user (take n users) + count_in user (drop n users) ≡ count_in user users
count-parts user n users = sym (count-append user (take n users) (drop n users)) ∙ ap (count_in user) (take-append-drop n users)

-- The least recently used leave.
pub later-kept : (c : Cache) (users bottom top n : ℕ) → IsCache c users bottom top → IsLater users bottom top c (kept c n)
later-kept c users bottom top n is =
    let stay = length c.recency - n in
    later-staying (λ u. not (list_any (nat_eq u) (drop stay c.recency))) c (take stay c.recency) users bottom top
    (record {
      stay = λ u e. omega (arith, count-parts u stay c.recency, none-counted u (drop stay c.recency) (not-true _ e));
      gone = λ u e. omega (arith, count-parts u stay c.recency, any-counted u (drop stay c.recency) (not-false _ e), is.recency u, is.one_each u);
    }) is

pub has_sizes : (users : ℕ) (blocks : List CacheBlock) → AllByRecursion (IsCacheBlock users) blocks → AllByRecursion HasSize blocks
has_sizes users [] a = tt
has_sizes users (b ∷ bs) a = (omega (arith, a.0.least), has_sizes users bs a.1)

-- The counts of users with one more in front.
one_more : (user : ℕ) (b : CacheBlock) (blocks : List CacheBlock) → count_in b.user (users_of blocks) ≡ 0 → count_in user (users_of blocks) ≤ 1 → count_in user (users_of (put_in blocks b)) ≤ 1
one_more user b blocks none few =
    elim (eqb_tells b.user user) [
      | inl at ↦ (let absent : count_in user (users_of blocks) ≡ 0 = ap (λ u. count_in u (users_of blocks)) (sym at.1) ∙ none in
          let counted : count_in user (users_of (put_in blocks b)) ≡ 1 + count_in user (users_of blocks) = rw at.0 at (count-put_in user blocks b) in omega arith)
      | inr off ↦ (let counted : count_in user (users_of (put_in blocks b)) ≡ 0 + count_in user (users_of blocks) = rw off.0 at (count-put_in user blocks b) in omega arith)
    ]

-- A block of a user that has none is put in at a clear range.
pub cache-with_block : (c : Cache) (b : CacheBlock) (users bottom top : ℕ) → IsCache c users bottom top → IsCacheBlock users b → count_in b.user (users_of c.blocks) ≡ 0 →
    bottom ≤ b.place → end_of b ≤ top → is_clear c.blocks b.place b.size ≡ true → IsCache (with_block c b) users bottom top
cache-with_block c b users bottom top is block none above below clear = record {
  blocks = all-put_in (IsCacheBlock users) c.blocks b is.blocks block;
  between = between-put_in bottom top c.blocks b is.between (has_sizes users c.blocks is.blocks) above below clear;
  one_each = λ user. one_more user b c.blocks none (is.one_each user);
  recency = λ user. ap (λ n. cond (eqb b.user user) 1 0 + n) (is.recency user) ∙ sym (count-put_in user c.blocks b);
}

-- Its user holds it, and each other what it held.
pub held-with_block : (c : Cache) (b : CacheBlock) → count_in b.user (users_of c.blocks) ≡ 0 → held (with_block c b) b.user ≡ Some (unplaced b)
unfolding held
held-with_block c b none = ap (option_map unplaced) (find-put_own c.blocks b none)

pub held-with_other : (c : Cache) (b : CacheBlock) (user : ℕ) → b.user ≢ user → held (with_block c b) user ≡ held c user
unfolding held
held-with_other c b user other = ap (option_map unplaced) (find-put_other user c.blocks b other)

held_is : (c : Cache) (user : ℕ) (b : CacheBlock) → block_of c user ≡ Some b → held c user ≡ Some (unplaced b)
unfolding held
held_is c user b h = ap (option_map unplaced) h

-- A block that moves stays with its user.
keeps-moved : (c : Cache) (b : CacheBlock) (place user : ℕ) (x : CacheBlock) → block_of c b.user ≡ Some b → KeepsHeld c (without c b.user) → held (moved c b place) user ≡ Some x → held c user ≡ Some x
keeps-moved c b place user x there rest h =
    elim (eqb_tells b.user user) [
      | inl at ↦ (let was : held c user ≡ Some (unplaced b) = ap (held c) (sym at.1) ∙ held_is c b.user b there in
          let now : held (moved c b place) user ≡ Some (unplaced b) = ap (held (moved c b place)) (sym at.1) ∙ held-with_block (without c b.user) (record b { place = place }) (count-without c b.user) in
          was ∙ sym now ∙ h)
      | inr off ↦ rest.holds user x (sym (held-with_other (without c b.user) (record b { place = place }) user off.1) ∙ h)
    ]

pub block_at : (users place : ℕ) (b : CacheBlock) → IsCacheBlock users b → IsCacheBlock users (record b { place = place })
block_at users place b is = record { least = is.least; whole = is.whole; user = is.user; short = is.short; text = is.text; bytes = is.bytes }

found_block : (P : CacheBlock → Type 0) (user : ℕ) (blocks : List CacheBlock) (b : CacheBlock) → AllByRecursion P blocks → find (λ x. nat_eq x.user user) blocks ≡ Some b → P b
found_block P user [] b a h = absurd (cc)
found_block P user (c ∷ cs) b a h =
    elim (eqb_tells c.user user) [
      | inl at ↦ (let some : Some c ≡ Some b = rw at.0 at h in let same : c ≡ b = cc in subst P same a.0)
      | inr off ↦ (let rest : find (λ x. nat_eq x.user user) cs ≡ Some b = rw off.0 at h in found_block P user cs b a.1 rest)
    ]

-- what holds of each number of a list holds of the least
pub least_among : (P : ℕ → Type 0) (p : ℕ → Bool) (ns : List ℕ) (n : ℕ) → AllByRecursion P ns → least (filter p ns) ≡ Some n → P n
least_among P p [] n a h = absurd (cc)
least_among P p (x ∷ xs) n a h =
    elim (p x) as (λ t. least (cond t (x ∷ filter p xs) (filter p xs)) ≡ Some n → P n) [
      | true ↦ λ e. (let same : lesser x (least (filter p xs)) ≡ n = cc in subst P same (lesser_among P p x xs (least (filter p xs)) a.0 (λ k g. least_among P p xs k a.1 g)))
      | false ↦ λ e. least_among P p xs n a.1 e
    ] h where
      lesser_among : (P : ℕ → Type 0) (p : ℕ → Bool) (x : ℕ) (xs : List ℕ) (o : Option ℕ) → P x → ((k : ℕ) → o ≡ Some k → P k) → P (lesser x o)
      lesser_among P p x xs None here rest = here
      lesser_among P p x xs (Some k) here rest =
          elim (eqb_tells (Rattle.std.proofs.Common.min x k) x) [
            | inl same ↦ subst P (sym same.1) here
            | inr other ↦ (let same : Rattle.std.proofs.Common.min x k ≡ k = omega (arith, other.1) in subst P (sym same) (rest k refl))
          ]

pub ends_above : (low bottom top : ℕ) (blocks : List CacheBlock) → low ≤ bottom → AreBetween bottom top blocks → AllByRecursion (λ place. low ≤ place) (map end_of blocks)
ends_above low bottom top [] h a = tt
ends_above low bottom top (b ∷ bs) h a = (omega (arith, a.0), ends_above low (end_of b) top bs (omega (arith, a.0)) a.1)

hop_ends : (blocks : List CacheBlock) (bottom high top place size : ℕ) → AreBetween bottom high blocks → AllByRecursion HasSize blocks → top ≤ high → is_clear blocks place size ≡ true →
    (has_above blocks place ≡ true) ⊎ (leb (place + size) top ≡ true) → place + size ≤ high
hop_ends blocks bottom high top place size a s h clear (inl above) = clear_below blocks bottom high place size a s clear above
hop_ends blocks bottom high top place size a s h clear (inr fits) = omega (arith, leb-true (place + size) top fits)

pub hop_is : (blocks : List CacheBlock) (b : CacheBlock) (bottom high top place : ℕ) → AreBetween bottom high blocks → AllByRecursion HasSize blocks → top ≤ high → hop blocks b top ≡ Some place → IsHop blocks bottom high place b.size
unfolding hop
hop_is blocks b bottom high top place a s h e =
    let test = passes-least (λ p. is_clear blocks p b.size && (has_above blocks p || leb (p + b.size) top)) (map end_of blocks) place e in
    let parts = and_parts (is_clear blocks place b.size) (has_above blocks place || leb (place + b.size) top) test in
    record {
      above = least_among (λ p. bottom ≤ p) (λ p. is_clear blocks p b.size && (has_above blocks p || leb (p + b.size) top)) (map end_of blocks) place (ends_above bottom bottom high blocks (omega arith) a) e;
      below = hop_ends blocks bottom high top place b.size a s h parts.0 (or_cases (has_above blocks place) (leb (place + b.size) top) parts.1);
      clear = parts.0;
    }

-- A block of a user moves to a clear range.
pub later-moved : (c : Cache) (b : CacheBlock) (users bottom high place : ℕ) → IsCache c users bottom high → block_of c b.user ≡ Some b → IsHop c.blocks bottom high place b.size → IsLater users bottom high c (moved c b place)
later-moved c b users bottom high place is there hops =
    let left = later-without c users bottom high b.user is in
    record {
      cache = cache-with_block (without c b.user) (record b { place = place }) users bottom high left.cache (block_at users place b (found_block (IsCacheBlock users) b.user c.blocks b is.blocks there))
          (count-without c b.user) hops.above hops.below (clear-filter (λ x. not (nat_eq x.user b.user)) c.blocks place b.size hops.clear);
      keeps = record { holds = λ user x h. keeps-moved c b place user x there left.keeps h };
    }

-- A hop, or the leaving of a block that has none, keeps the cache in order and what users hold.
later-hopped_to : (c : Cache) (b : CacheBlock) (users bottom high top : ℕ) (o : Option ℕ) → IsCache c users bottom high → block_of c b.user ≡ Some b → top ≤ high → hop c.blocks b top ≡ o → IsLater users bottom high c (hopped_to c b o)
later-hopped_to c b users bottom high top None is there h e = later-without c users bottom high b.user is
later-hopped_to c b users bottom high top (Some place) is there h e = later-moved c b users bottom high place is there (hop_is c.blocks b bottom high top place is.between (has_sizes users c.blocks is.blocks) h e)

pub later-hopped : (c : Cache) (b : CacheBlock) (users bottom high top : ℕ) → IsCache c users bottom high → block_of c b.user ≡ Some b → top ≤ high → IsLater users bottom high c (hopped top c b)
unfolding hopped
later-hopped c b users bottom high top is there h = later-hopped_to c b users bottom high top (hop c.blocks b top) is there h refl

-- The lowest block is that of its user, and so is the highest.
found_lowest : (bottom : ℕ) (c : Cache) (b : CacheBlock) (blocks : List CacheBlock) → c.blocks ≡ blocks → lowest_below bottom blocks ≡ Some b → block_of c b.user ≡ Some b
found_lowest bottom c b [] e h = absurd (cc)
found_lowest bottom c b (x ∷ xs) e h = rw e (lowest_is (ltb x.place bottom) h) where
  lowest_is : (t : Bool) → cond t (Some x) None ≡ Some b → find (λ y. nat_eq y.user b.user) (x ∷ xs) ≡ Some b
  lowest_is true g = (let same : x ≡ b = cc in rw (eq-eqb x.user b.user (ap (λ (y : CacheBlock). y.user) same)) g)
  lowest_is false g = absurd (cc)

highest_is : (x b : CacheBlock) (t : Bool) → cond t (Some x) None ≡ Some b → find (λ y. nat_eq y.user b.user) (x ∷ []) ≡ Some b
highest_is x b true g = (let same : x ≡ b = cc in rw (eq-eqb x.user b.user (ap (λ (y : CacheBlock). y.user) same)) g)
highest_is x b false g = absurd (cc)

pub found_highest : (top : ℕ) (blocks : List CacheBlock) (b : CacheBlock) → ((user : ℕ) → count_in user (users_of blocks) ≤ 1) → highest_above top blocks ≡ Some b → find (λ y. nat_eq y.user b.user) blocks ≡ Some b
found_highest top [] b few h = absurd (cc)
found_highest top (x ∷ []) b few h = highest_is x b (ltb top (end_of x)) h
found_highest top (x ∷ c ∷ cs) b few h =
    let rest = found_highest top (c ∷ cs) b (λ user. omega (arith, few user)) h in
    elim (eqb_tells x.user b.user) [
      | inl at ↦ absurd (omega (arith, rw at.0 at (few b.user), (find-some b.user (c ∷ cs) b rest).1))
      | inr off ↦ rw off.0 rest
    ]

-- The push up, before its end is looked at.
later-up_turn : (bottom high top users low : ℕ) (rest : Cache → Cache) (c : Cache) (o : Option CacheBlock) → IsCache c users low high → top ≤ high → lowest_below bottom c.blocks ≡ o →
    ((d : Cache) → IsCache d users low high → IsLater users low high d (rest d)) → IsLater users low high c (turned top rest c o)
later-up_turn bottom high top users low rest c None is h e more = record { cache = is; keeps = keeps_all c }
later-up_turn bottom high top users low rest c (Some b) is h e more =
    let turn = later-hopped c b users low high top is (found_lowest bottom c b c.blocks refl e) h in
    let then = more (hopped top c b) turn.cache in
    record { cache = then.cache; keeps = keeps_more turn.keeps then.keeps }

later-up_in : (n : ℕ) (c : Cache) (users low high bottom top : ℕ) → IsCache c users low high → top ≤ high → IsLater users low high c (up_in n bottom top c)
unfolding up_in
later-up_in zero c users low high bottom top is h = record { cache = is; keeps = keeps_all c }
later-up_in (suc n) c users low high bottom top is h =
    later-up_turn bottom high top users low (up_in n bottom top) c (lowest_below bottom c.blocks) is h refl (λ d more. later-up_in n d users low high bottom top more h)

rising_from : (users low bottom top : ℕ) (blocks : List CacheBlock) → low ≤ bottom → AreBetween bottom top blocks → AllByRecursion (IsCacheBlock users) blocks → IsRising low blocks
rising_from users low bottom top [] h a s = tt
rising_from users low bottom top (b ∷ bs) h a s = (omega (arith, a.0), omega (arith, s.0.least), rising_from users b.place (end_of b) top bs (omega arith) a.1 s.1)

pub rising : {c : Cache} {users bottom top : ℕ} → IsCache c users bottom top → IsRising 0 c.blocks
rising {c} {users} {bottom} {top} is = rising_from users 0 bottom top c.blocks (omega arith) is.between is.blocks

between_raised : (low bottom top : ℕ) (blocks : List CacheBlock) → AreBetween low top blocks → StartsAbove bottom blocks → bottom ≤ top → AreBetween bottom top blocks
between_raised low bottom top [] a s h = h
between_raised low bottom top (b ∷ bs) a s h = (s, a.1)

-- A push up to a bottom leaves a cache in order from there, and what users hold.
pub later-pushed_up : (c : Cache) (users low bottom top : ℕ) → IsCache c users low top → bottom ≤ top → IsLater users bottom top c (pushed_up c bottom top)
unfolding pushed_up
later-pushed_up c users low bottom top is h =
    let turns = later-up_in (length c.blocks * suc top) c users low top bottom top is (omega arith) in
    record {
      cache = record {
        blocks = turns.cache.blocks;
        between = between_raised low bottom top _ turns.cache.between (pushed_up-ends c bottom top h (rising is)) h;
        one_each = turns.cache.one_each;
        recency = turns.cache.recency;
      };
      keeps = turns.keeps;
    }

later-down_turn : (high top users low : ℕ) (rest : Cache → Cache) (c : Cache) (o : Option CacheBlock) → IsCache c users low high → top ≤ high → highest_above top c.blocks ≡ o →
    ((d : Cache) → IsCache d users low high → IsLater users low high d (rest d)) → IsLater users low high c (turned top rest c o)
later-down_turn high top users low rest c None is h e more = record { cache = is; keeps = keeps_all c }
later-down_turn high top users low rest c (Some b) is h e more =
    let turn = later-hopped c b users low high top is (found_highest top c.blocks b is.one_each e) h in
    let then = more (hopped top c b) turn.cache in
    record { cache = then.cache; keeps = keeps_more turn.keeps then.keeps }

later-down_in : (n : ℕ) (c : Cache) (users low high top : ℕ) → IsCache c users low high → top ≤ high → IsLater users low high c (down_in n top c)
unfolding down_in
later-down_in zero c users low high top is h = record { cache = is; keeps = keeps_all c }
later-down_in (suc n) c users low high top is h =
    later-down_turn high top users low (down_in n top) c (highest_above top c.blocks) is h refl (λ d more. later-down_in n d users low high top more h)

none_above : (top : ℕ) (x : CacheBlock) (t : Bool) → ltb top (end_of x) ≡ t → cond t (Some x) None ≡ None → end_of x ≤ top
none_above top x true e h = absurd (cc)
none_above top x false e h = ltb-false top (end_of x) e

between_lowered : (low high top : ℕ) (blocks : List CacheBlock) → AreBetween low high blocks → highest_above top blocks ≡ None → low ≤ top → AreBetween low top blocks
between_lowered low high top [] a e h = h
between_lowered low high top (b ∷ []) a e h = (a.0, none_above top b (ltb top (end_of b)) refl e)
between_lowered low high top (b ∷ c ∷ cs) a e h = (a.0, between_lowered (end_of b) high top (c ∷ cs) a.1 e (ends_by top b c cs a.1 e)) where
  ends_by : (top : ℕ) (b c : CacheBlock) (cs : List CacheBlock) → AreBetween (end_of b) high (c ∷ cs) → highest_above top (c ∷ cs) ≡ None → end_of b ≤ top
  ends_by top b c [] p g = omega (arith, p.0, none_above top c (ltb top (end_of c)) refl g)
  ends_by top b c (d ∷ ds) p g = omega (arith, p.0, ends_by top c d ds p.1 g)

pub below_top : (bottom top size : ℕ) (blocks : List CacheBlock) → AreBetween bottom top blocks → top ≤ size → AllByRecursion (λ b. b.place ≤ size) blocks
below_top bottom top size [] a h = tt
below_top bottom top size (b ∷ bs) a h = (omega (arith, a.0, between-spans bs (end_of b) top a.1), below_top (end_of b) top size bs a.1 h)

-- A push down to a top does the same.
pub later-pushed_down : (c : Cache) (users bottom high top size : ℕ) → IsCache c users bottom high → bottom ≤ top → top ≤ high → high ≤ size → IsLater users bottom top c (pushed_down c size top)
unfolding pushed_down
later-pushed_down c users bottom high top size is h lower inside =
    let turns = later-down_in (length c.blocks * suc size) c users bottom high top is lower in
    record {
      cache = record {
        blocks = turns.cache.blocks;
        between = between_lowered bottom high top _ turns.cache.between (pushed_down-ends c size top (rising is) (below_top bottom high size c.blocks is.between inside)) h;
        one_each = turns.cache.one_each;
        recency = turns.cache.recency;
      };
      keeps = turns.keeps;
    }

pub found_end : (user low high : ℕ) (blocks : List CacheBlock) (b : CacheBlock) → AreBetween low high blocks → find (λ x. nat_eq x.user user) blocks ≡ Some b → end_of b ≤ high
found_end user low high [] b a h = absurd (cc)
found_end user low high (c ∷ cs) b a h =
    elim (eqb_tells c.user user) [
      | inl at ↦ (let some : Some c ≡ Some b = rw at.0 at h in let same : c ≡ b = cc in omega (arith, ap end_of same, between-spans cs (end_of c) high a.1))
      | inr off ↦ (let rest : find (λ x. nat_eq x.user user) cs ≡ Some b = rw off.0 at h in found_end user (end_of c) high cs b a.1 rest)
    ]
