-- The least recently used leave one by one, and after the first search only the gap around the one that left is looked at.
use Rattle.std.proofs.Common.{◌≡◌, ℕ, suc, zero, ◌+◌, ◌-◌, ◌<◌, ◌≤◌, ◌^◌, Bool, true, false, cond, List, [], ◌∷◌, ◌++◌, Option, Some, None, filter, find, length, nat_eq, not, leb, refl, sym, ap, subst, ◌∙◌, arith, take, drop, inl, inr, length-append, rules}
use Rattle.std.specs.Prelude.{◌&&◌, ◌||◌, is_some, slice_get, IsSome}
use Rattle.std.specs.Option.{option_map}
use Rattle.std.specs.List.{AllByRecursion, list_any, range_with_len, insert, remove}
use Rattle.std.proofs.lemmas.Bool.{le-leb, lt-leb, leb-true, leb-false, lt-ltb, le-ltb, ltb-true, ltb-false, cases_Bool, cond_both, eq-eqb, cases_lt}
use Rattle.std.proofs.lemmas.List.{drop_all, take_all}
use Rattle.mem_model.specs.Blocks.{CacheBlock}
use Rattle.mem_model.specs.Memory.{Cache, cache_of}
use Rattle.mem_model.specs.Places.{end_of, least, lesser, fit}
use Rattle.mem_model.specs.Cache.{kept, with_block, with_fitted, evictions, without, without_user, without_block}
use Rattle.mem_model.specs.Gaps.{gap_from, start_of, HasSize, size_of_cache}
use Rattle.mem_model.specs.Turns.{edge, IsAround, IsEvicted}
use Rattle.mem_model.specs.Tables.{IsOwn}
use Rattle.mem_model.specs.Laid.{AreBetween, IsCache, count_in, users_of}
use Rattle.mem_model.proofs.CacheBlocks.{between-spans, find-none, find-some, count-append}
use Rattle.mem_model.proofs.CacheMoves.{has_sizes, later-without}
use Rattle.mem_model.proofs.CacheNew.{with_fitted-placed, evictions_are, none-filtered}
use Rattle.mem_model.proofs.Gaps.{fit_gap}
use Rattle.mem_model.proofs.CacheEdits.{at_position}
use Rattle.mem_model.proofs.Jumps.{without_block-none, without_user-none}

-- With nobody evicted the cache is as it was.
filter_all : (blocks : List CacheBlock) → filter (λ b. not false) blocks ≡ blocks
filter_all [] = refl
filter_all (b ∷ bs) = ap (λ xs. b ∷ xs) (filter_all bs)

kept_all : (c : Cache) → kept c 0 ≡ c
kept_all c =
    let whole : length c.recency - 0 ≡ length c.recency = omega arith in
    ap (λ n. record { blocks = filter (λ b. not (list_any (nat_eq b.user) (drop n c.recency))) c.blocks; recency = take n c.recency }) whole
    ∙ ap (λ rest. record { blocks = filter (λ b. not (list_any (nat_eq b.user) rest)) c.blocks; recency = take (length c.recency) c.recency }) (drop_all (length c.recency) c.recency (omega arith))
    ∙ ap (λ blocks. record { blocks = blocks; recency = take (length c.recency) c.recency }) (filter_all c.blocks)
    ∙ ap (λ users. record { blocks = c.blocks; recency = users }) (take_all (length c.recency) c.recency (omega arith))

lesser_zero : (o : Option ℕ) → lesser 0 o ≡ 0
lesser_zero None = refl
lesser_zero (Some k) = omega arith

-- the test of a number of evictions
fits_after : Cache → ℕ → ℕ → ℕ → ℕ → Bool
fits_after c bottom top size n = is_some (fit (kept c n).blocks bottom top size)

evictions_none : (c : Cache) (bottom top size place : ℕ) → fit c.blocks bottom top size ≡ Some place → evictions c bottom top size ≡ Some 0
unfolding evictions fits_after
evictions_none c bottom top size place h =
    let here : fits_after c bottom top size 0 ≡ true = ap (λ (d : Cache). is_some (fit d.blocks bottom top size)) (kept_all c) ∙ ap is_some h in
    rw here (ap Some (lesser_zero (least (filter (fits_after c bottom top size) (range_with_len 1 (length c.recency))))))

-- Where a gap is large enough, nobody leaves.
pub with_fitted-fits : (c : Cache) (b : CacheBlock) (bottom top place : ℕ) → AreBetween bottom top c.blocks → AllByRecursion HasSize c.blocks → gap_from bottom b.size top c.blocks ≡ Some place →
    with_fitted c bottom top b ≡ with_block c (record b { place = place })
with_fitted-fits c b bottom top place a s h =
    let fits : fit c.blocks bottom top b.size ≡ Some place = fit_gap c.blocks bottom top b.size a s ∙ h in
    with_fitted-placed c b bottom top 0 place (evictions_none c bottom top b.size place fits) (ap (λ (d : Cache). fit d.blocks bottom top b.size) (kept_all c) ∙ fits)
    ∙ ap (λ d. with_block d (record b { place = place })) (kept_all c)

-- the numbers from one more on
lesser_suc : (a : ℕ) (o : Option ℕ) → lesser (suc a) (option_map suc o) ≡ suc (lesser a o)
lesser_suc a None = refl
lesser_suc a (Some k) = omega arith

least_shifted : (p q : ℕ → Bool) (a b n : ℕ) → b ≡ suc a → ((k : ℕ) → p (suc k) ≡ q k) → least (filter p (range_with_len b n)) ≡ option_map suc (least (filter q (range_with_len a n)))
least_shifted p q a b zero e same = refl
least_shifted p q a b (suc n) e same =
    let rest = least_shifted p q (a + 1) (b + 1) n (omega arith) same in
    let here : p b ≡ q a = ap p e ∙ same a in
    rw here (elim (q a) as (λ t. least (cond t (b ∷ filter p (range_with_len (b + 1) n)) (filter p (range_with_len (b + 1) n))) ≡ option_map suc (least (cond t (a ∷ filter q (range_with_len (a + 1) n)) (filter q (range_with_len (a + 1) n))))) [
      | true ↦ ap Some (ap (λ o. lesser b o) rest ∙ ap (λ k. lesser k (option_map suc (least (filter q (range_with_len (a + 1) n))))) e ∙ lesser_suc a (least (filter q (range_with_len (a + 1) n))))
      | false ↦ rest
    ])

-- One more of the least recently used leaves.
filter_twice : (p q r : CacheBlock → Bool) (blocks : List CacheBlock) → ((b : CacheBlock) → r b ≡ (q b && p b)) → filter r blocks ≡ filter p (filter q blocks)
filter_twice p q r [] h = refl
filter_twice p q r (b ∷ bs) h =
    rw (h b) (elim (q b) as (λ t. cond (t && p b) (b ∷ filter r bs) (filter r bs) ≡ filter p (cond t (b ∷ filter q bs) (filter q bs))) [
      | true ↦ ap (λ xs. cond (p b) (b ∷ xs) xs) (filter_twice p q r bs h)
      | false ↦ filter_twice p q r bs h
    ])

any_append : (p : ℕ → Bool) (xs : List ℕ) (u : ℕ) → list_any p (xs ++ u ∷ []) ≡ (list_any p xs || p u)
any_append p [] u = or_false (p u) where
  or_false : (t : Bool) → (t || false) ≡ t
  or_false true = refl
  or_false false = refl
any_append p (x ∷ xs) u = ap (λ t. p x || t) (any_append p xs u) ∙ or_assoc (p x) (list_any p xs) (p u) where
  or_assoc : (a b c : Bool) → (a || (b || c)) ≡ ((a || b) || c)
  or_assoc true b c = refl
  or_assoc false b c = refl

not_or : (a b : Bool) → not (a || b) ≡ (not b && not a)
not_or true true = refl
not_or true false = refl
not_or false true = refl
not_or false false = refl

front_left : (front : List ℕ) (u : ℕ) → count_in u (front ++ u ∷ []) ≤ 1 → without_user (front ++ u ∷ []) u ≡ front
front_left [] u h = rw (eq-eqb u u refl) refl
front_left (x ∷ xs) u h =
    elim (Rattle.std.proofs.lemmas.Bool.Decides.eqb_tells x u) [
      | inl at ↦ absurd (omega (arith, rw at.0 at h, count-append u xs (u ∷ []), rw (eq-eqb u u refl) at (count-append u xs (u ∷ []))))
      | inr off ↦ rw off.0 (let rest : count_in u (xs ++ u ∷ []) ≤ 1 = omega (arith, rw off.0 at h) in ap (λ ys. x ∷ ys) (front_left xs u rest))
    ]

take_front : (n : ℕ) (front : List ℕ) (u : ℕ) → n ≤ length front → take n (front ++ u ∷ []) ≡ take n front
take_front zero front u h = refl
take_front (suc n) [] u h = absurd (omega arith)
take_front (suc n) (x ∷ xs) u h = ap (λ ys. x ∷ ys) (take_front n xs u (omega arith))

drop_front : (n : ℕ) (front : List ℕ) (u : ℕ) → n ≤ length front → drop n (front ++ u ∷ []) ≡ drop n front ++ u ∷ []
drop_front zero front u h = refl
drop_front (suc n) [] u h = absurd (omega arith)
drop_front (suc n) (x ∷ xs) u h = drop_front n xs u (omega arith)

kept_more : (c : Cache) (front : List ℕ) (u n : ℕ) → c.recency ≡ front ++ u ∷ [] → count_in u c.recency ≤ 1 → kept c (suc n) ≡ kept (without c u) n
kept_more c front u n e once =
    let left : without_user c.recency u ≡ front = ap (λ us. without_user us u) e ∙ front_left front u (rw e at once) in
    let long : length c.recency ≡ length front + 1 = ap length e ∙ length-append front (u ∷ []) in
    let stays : length c.recency - suc n ≡ length front - n = omega arith in
    let stay = length front - n in
    let goes : (b : CacheBlock) → not (list_any (nat_eq b.user) (drop (length front - n) c.recency)) ≡ (not (nat_eq b.user u) && not (list_any (nat_eq b.user) (drop (length front - n) front))) =
    λ (b : CacheBlock). ap (λ us. not (list_any (nat_eq b.user) us)) (ap (drop (length front - n)) e ∙ drop_front (length front - n) front u (omega arith)) ∙ ap not (any_append (nat_eq b.user) (drop (length front - n) front) u) ∙ not_or (list_any (nat_eq b.user) (drop (length front - n) front)) (nat_eq b.user u) in
    ap (λ k. record { blocks = filter (λ b. not (list_any (nat_eq b.user) (drop k c.recency))) c.blocks; recency = take k c.recency }) stays
    ∙ ap (λ blocks. record { blocks = blocks; recency = take (length front - n) c.recency }) (filter_twice (λ b. not (list_any (nat_eq b.user) (drop (length front - n) front))) (λ b. not (nat_eq b.user u)) (λ b. not (list_any (nat_eq b.user) (drop (length front - n) c.recency))) c.blocks goes)
    ∙ ap (λ users. record { blocks = filter (λ b. not (list_any (nat_eq b.user) (drop (length front - n) front))) (without_block c.blocks u); recency = users }) (ap (take (length front - n)) e ∙ take_front (length front - n) front u (omega arith))
    ∙ sym (ap (λ us. record { blocks = filter (λ b. not (list_any (nat_eq b.user) (drop (length us - n) us))) (without_block c.blocks u); recency = take (length us - n) us }) left)

-- Where no gap is large enough, a block comes to the same after the least recently used has left.
pub with_fitted-evicts : (c : Cache) (b : CacheBlock) (bottom top u : ℕ) (front : List ℕ) → IsCache c (2 ^ 32) bottom top → bottom + b.size ≤ top → c.recency ≡ front ++ u ∷ [] → gap_from bottom b.size top c.blocks ≡ None →
    with_fitted (without c u) bottom top b ≡ with_fitted c bottom top b
unfolding evictions fits_after
with_fitted-evicts c b bottom top u front is fits e none =
    let size = b.size in
    let once : count_in u c.recency ≤ 1 = omega (arith, is.recency u, is.one_each u) in
    let left : without_user c.recency u ≡ front = ap (λ us. without_user us u) e ∙ front_left front u (rw e at once) in
    let rest = (later-without c (2 ^ 32) bottom top u is).cache in
    let found = evictions_are (without c u) bottom top size (2 ^ 32) rest fits in
    let off : fits_after c bottom top size 0 ≡ false = ap (λ (d : Cache). is_some (fit d.blocks bottom top size)) (kept_all c) ∙ ap is_some (fit_gap c.blocks bottom top size is.between (has_sizes (2 ^ 32) c.blocks is.blocks) ∙ none) in
    let same : (k : ℕ) → fits_after c bottom top size (suc k) ≡ fits_after (without c u) bottom top size k = λ (k : ℕ). ap (λ (d : Cache). is_some (fit d.blocks bottom top size)) (kept_more c front u k e once) in
    let long : length c.recency ≡ suc (length (without c u).recency) = omega (arith, ap length e, length-append front (u ∷ []), ap length left) in
    let skip : least (filter (fits_after c bottom top size) (range_with_len 0 (suc (length c.recency)))) ≡ least (filter (fits_after c bottom top size) (range_with_len 1 (length c.recency))) = rw off refl in
    let some : evictions c bottom top size ≡ Some (suc found.0) =
    skip ∙ ap (λ n. least (filter (fits_after c bottom top size) (range_with_len 1 n))) long ∙ least_shifted (fits_after c bottom top size) (fits_after (without c u) bottom top size) 0 1 (suc (length (without c u).recency)) refl same ∙ ap (option_map suc) found.2 in
    with_fitted-placed (without c u) b bottom top found.0 found.1 found.2 found.3
    ∙ ap (λ d. with_block d (record b { place = found.1 })) (sym (kept_more c front u found.0 e once))
    ∙ sym (with_fitted-placed c b bottom top (suc found.0) found.1 some (ap (λ (d : Cache). fit d.blocks bottom top size) (kept_more c front u found.0 e once) ∙ found.3))

-- What an eviction leaves.
pub evicted : (c : Cache) (bottom top size u : ℕ) (front : List ℕ) → IsCache c (2 ^ 32) bottom top → bottom + size ≤ top → c.recency ≡ front ++ u ∷ [] → gap_from bottom size top c.blocks ≡ None → IsEvicted bottom top size c (without c u)
evicted c bottom top size u front is fits e none =
    let once : count_in u c.recency ≤ 1 = omega (arith, is.recency u, is.one_each u) in
    let left : without_user c.recency u ≡ front = ap (λ us. without_user us u) e ∙ front_left front u (rw e at once) in
    record {
      order = (later-without c (2 ^ 32) bottom top u is).cache;
      same = λ b same. with_fitted-evicts c b bottom top u front is (omega (arith, fits, same)) e (rw same none);
      absent = λ user h. none-filtered (λ v. not (nat_eq v u)) user c.blocks (not (nat_eq user u)) refl h;
      fewer = omega (arith, ap length e, length-append front (u ∷ []), ap length left);
    }

start_below : (blocks : List CacheBlock) (low top : ℕ) → AreBetween low top blocks → start_of top blocks ≤ top
start_below [] low top a = omega arith
start_below (b ∷ bs) low top a = omega (arith, between-spans bs (end_of b) top a.1)

edge_above : (blocks : List CacheBlock) (start top at : ℕ) → AreBetween start top blocks → AllByRecursion HasSize blocks → start ≤ edge start blocks at
edge_above blocks start top zero a s = omega arith
edge_above [] start top (suc at) a s = omega arith
edge_above (b ∷ bs) start top (suc at) a s = omega (arith, a.0, edge_above bs (end_of b) top at a.1 s.1)

around_first : (blocks : List CacheBlock) (start size top : ℕ) (x : CacheBlock) → AreBetween start top blocks → 0 < size → gap_from start size top (x ∷ blocks) ≡ None → IsAround blocks start size top 0
around_first [] start size top x a s none = record {
  fits = λ h. record { found = rw (le-leb (start + size) top h) refl; inside = omega arith; ends = h; puts = λ b e. refl };
  full = λ h. rw (lt-leb (start + size) top h) refl;
}
around_first (c ∷ cs) start size top x a s none = record {
  fits = λ h. record { found = rw (le-leb (start + size) c.place h) refl; inside = omega arith; ends = omega (arith, h, start_below (c ∷ cs) start top a); puts = λ b e. rw (le-ltb c.place b.place (omega arith)) refl };
  full = λ h. rw (lt-leb (start + size) c.place h) (rest x none);
} where
  later : (end : ℕ) → gap_from end size top (c ∷ cs) ≡ None → gap_from (end_of c) size top cs ≡ None
  later end h = cond_both (leb (end + size) c.place) (Some end) (gap_from (end_of c) size top cs) (λ o. o ≡ None → gap_from (end_of c) size top cs ≡ None) (λ e g. absurd (cc)) (λ e g. g) h

  rest : (x : CacheBlock) → gap_from start size top (x ∷ c ∷ cs) ≡ None → gap_from (end_of c) size top cs ≡ None
  rest x h = later (end_of x) (cond_both (leb (start + size) x.place) (Some start) (gap_from (end_of x) size top (c ∷ cs)) (λ o. o ≡ None → gap_from (end_of x) size top (c ∷ cs) ≡ None) (λ e g. absurd (cc)) (λ e g. g) h)

around_more : (y : CacheBlock) (ys : List CacheBlock) (start size top at : ℕ) → AreBetween start top (y ∷ ys) → AllByRecursion HasSize (y ∷ ys) → y.place < start + size → IsAround ys (end_of y) size top at → IsAround (y ∷ ys) start size top (suc at)
around_more y ys start size top at a s short rest = record {
  fits = λ h. (let gap = rest.fits h in record {
    found = rw (lt-leb (start + size) y.place short) gap.found;
    inside = omega (arith, gap.inside);
    ends = gap.ends;
    puts = λ b e. rw (lt-ltb y.place b.place (omega (arith, s.0, edge_above ys (end_of y) top at a.1 s.1))) (ap (λ xs. y ∷ xs) (gap.puts b e));
  });
  full = λ h. rw (lt-leb (start + size) y.place short) (rest.full h);
}

pub around : (blocks : List CacheBlock) (start size top at : ℕ) (x : CacheBlock) → AreBetween start top blocks → AllByRecursion HasSize blocks → 0 < size → at ≤ length blocks → gap_from start size top (insert blocks at x) ≡ None → IsAround blocks start size top at
around blocks start size top zero x a s some inside none = around_first blocks start size top x a some none
around [] start size top (suc at) x a s some inside none = absurd (omega arith)
around (y ∷ ys) start size top (suc at) x a s some inside none =
    cond_both (leb (start + size) y.place) (Some start) (gap_from (end_of y) size top (insert ys at x)) (λ o. o ≡ None → IsAround (y ∷ ys) start size top (suc at))
    (λ e g. absurd (cc))
    (λ e g. around_more y ys start size top at a s (leb-false (start + size) y.place e) (around ys (end_of y) size top at x a.1 s.1 some (omega arith) g)) none

-- a block that stands at a position, taken out and put back
pub taken_out : (blocks : List CacheBlock) (at : ℕ) (b : CacheBlock) → slice_get blocks at ≡ Some b → (insert (remove blocks at) at b ≡ blocks) × (length (remove blocks at) + 1 ≡ length blocks) × (at ≤ length (remove blocks at))
taken_out [] at b h = absurd (cc)
taken_out (x ∷ xs) zero b h = ((let same : x ≡ b = cc in ap (λ y. y ∷ xs) (sym same)), omega arith, omega arith)
taken_out (x ∷ xs) (suc at) b h = (let rest = taken_out xs at b h in (ap (λ ys. x ∷ ys) rest.0, omega (arith, rest.1), omega (arith, rest.2)))

-- the edge before a position, as it is read
pub edge_is : (blocks : List CacheBlock) (start at : ℕ) (b : CacheBlock) → slice_get blocks at ≡ Some b → edge start blocks (suc at) ≡ end_of b
edge_is [] start at b h = absurd (cc)
edge_is (x ∷ xs) start zero b h = (let same : x ≡ b = cc in ap end_of same)
edge_is (x ∷ xs) start (suc at) b h = edge_is xs (end_of x) at b h

pub end_at : (blocks : List CacheBlock) (low high at : ℕ) (b : CacheBlock) → AreBetween low high blocks → slice_get blocks at ≡ Some b → end_of b ≤ high
end_at [] low high at b a h = absurd (cc)
end_at (x ∷ xs) low high zero b a h = (let same : x ≡ b = cc in omega (arith, ap end_of same, between-spans xs (end_of x) high a.1))
end_at (x ∷ xs) low high (suc at) b a h = end_at xs (end_of x) high at b a.1 h

pub edge_below : (blocks : List CacheBlock) (start top at : ℕ) → AreBetween start top blocks → edge start blocks at ≤ top
edge_below blocks start top zero a = between-spans blocks start top a
edge_below [] start top (suc at) a = a
edge_below (b ∷ bs) start top (suc at) a = edge_below bs (end_of b) top at a.1

-- the user of a recency that is not empty has a block
pub evicted_block : (c : Cache) (bottom top u : ℕ) (front : List ℕ) → IsCache c (2 ^ 32) bottom top → c.recency ≡ front ++ u ∷ [] → find (λ b. nat_eq b.user u) c.blocks ≡ None → ⊥
evicted_block c bottom top u front is e none =
    omega (arith, find-none u c.blocks none, is.recency u, ap (count_in u) e, count-append u front (u ∷ []), rw (eq-eqb u u refl) at (count-append u front (u ∷ [])))

-- The block of an evicted user, by its position.
pub record IsGone (c : Cache) (bottom top size u at : ℕ) (b : CacheBlock) : Type 0 where
  pub is : IsEvicted bottom top size c (cache_of (remove c.blocks at) (without_user c.recency u))
  pub removed : without_block c.blocks u ≡ remove c.blocks at
  pub sizes : size_of_cache (remove c.blocks at) + b.size ≡ size_of_cache c.blocks
  pub around : IsAround (remove c.blocks at) bottom size top at
  pub between : AreBetween bottom top (remove c.blocks at)
  pub inside : at ≤ length (remove c.blocks at)
  pub left : (front : List ℕ) → c.recency ≡ front ++ u ∷ [] → without_user c.recency u ≡ front

pub gone : (c : Cache) (bottom top size u at : ℕ) (front : List ℕ) (b : CacheBlock) → IsCache c (2 ^ 32) bottom top → bottom + size ≤ top → 0 < size → c.recency ≡ front ++ u ∷ [] → gap_from bottom size top c.blocks ≡ None →
    IsOwn c.blocks u at → slice_get c.blocks at ≡ Some b → IsGone c bottom top size u at b
gone c bottom top size u at front b is fits some e none place here =
    let found : find (λ x. nat_eq x.user u) c.blocks ≡ Some b = place.found ∙ here in
    let own : b.user ≡ u = (find-some u c.blocks b found).0 in
    let p = at_position c.blocks at b is.one_each here in
    let removed : without_block c.blocks u ≡ remove c.blocks at = ap (without_block c.blocks) (sym own) ∙ p.removed in
    let ev = evicted c bottom top size u front is fits e none in
    let out = taken_out c.blocks at b here in
    let a = subst (λ blocks. AreBetween bottom top blocks) removed ev.order.between in
    let s = subst (λ blocks. AllByRecursion HasSize blocks) removed (has_sizes (2 ^ 32) (without_block c.blocks u) ev.order.blocks) in
    record {
      is = subst (λ blocks. IsEvicted bottom top size c (cache_of blocks (without_user c.recency u))) removed ev;
      removed = removed;
      sizes = p.size;
      around = around (remove c.blocks at) bottom size top at b a s some out.2 (ap (gap_from bottom size top) out.0 ∙ none);
      between = a;
      inside = out.2;
      left = λ others f. ap (λ us. without_user us u) f ∙ front_left others u (omega (arith, ap (count_in u) f, is.recency u, is.one_each u));
    }

-- with nobody in the recency there is no block, and a gap
pub nobody_left : (c : Cache) (bottom top size : ℕ) → IsCache c (2 ^ 32) bottom top → bottom + size ≤ top → length c.recency ≡ 0 → gap_from bottom size top c.blocks ≡ None → ⊥
nobody_left c bottom top size is fits none full = empty c.blocks (λ user. is.recency user) full where
  uncounted : (user : ℕ) (users : List ℕ) → length users ≡ 0 → count_in user users ≡ 0
  uncounted user [] h = refl
  uncounted user (x ∷ xs) h = absurd (omega arith)

  empty : (blocks : List CacheBlock) → ((user : ℕ) → count_in user c.recency ≡ count_in user (users_of blocks)) → gap_from bottom size top blocks ≡ None → ⊥
  empty [] same h = (let found : Some bottom ≡ None = rw (le-leb (bottom + size) top fits) at h in absurd (cc))
  empty (b ∷ bs) same h = omega (arith, same b.user, uncounted b.user c.recency none, rw (eq-eqb b.user b.user refl) at (same b.user))

pub there : (blocks : List CacheBlock) (at : ℕ) → at < length blocks → (b : CacheBlock) × (slice_get blocks at ≡ Some b)
there [] at h = absurd (omega arith)
there (x ∷ xs) zero h = (x, refl)
there (x ∷ xs) (suc at) h = there xs at (omega arith)

-- A user without a block leaves nothing.
pub without-none : (c : Cache) (users bottom top user : ℕ) → IsCache c users bottom top → find (λ b. nat_eq b.user user) c.blocks ≡ None → without c user ≡ c
without-none c users bottom top user is h =
    let none = find-none user c.blocks h in
    ap (λ blocks. cache_of blocks (without_user c.recency user)) (without_block-none user c.blocks none)
    ∙ ap (cache_of c.blocks) (without_user-none user c.recency (is.recency user ∙ none))

pub some_counted : (user : ℕ) (blocks : List CacheBlock) → IsSome (find (λ b. nat_eq b.user user) blocks) → 0 < count_in user (users_of blocks)
some_counted user blocks h = counted (find (λ b. nat_eq b.user user) blocks) h refl where
  counted : (o : Option CacheBlock) → IsSome o → find (λ b. nat_eq b.user user) blocks ≡ o → 0 < count_in user (users_of blocks)
  counted None e g = absurd (search rules)
  counted (Some b) e g = (find-some user blocks b g).1

pub some_true : (o : Option CacheBlock) → IsSome o → is_some o ≡ true
some_true None h = absurd (search rules)
some_true (Some b) h = refl
