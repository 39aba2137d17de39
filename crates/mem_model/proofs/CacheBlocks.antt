-- Lists of cache blocks: users found and counted, and blocks in order, where some leave and where one is put in.
use Rattle.std.proofs.Common.{◌≡◌, ◌≢◌, ℕ, ◌+◌, ◌<◌, ◌≤◌, Bool, true, false, cond, List, [], ◌∷◌, ◌++◌, Option, Some, None, filter, find, nat_eq, leb, ltb, eqb, refl, sym, ap, ◌∙◌, ◌⊎◌, inl, inr, arith}
use Rattle.std.specs.Prelude.{◌||◌}
use Rattle.std.specs.List.{AllByRecursion}
use Rattle.std.proofs.lemmas.Bool.{eq-eqb, ne_eqb, ltb-false, ltb-true, leb-true, and_parts, or_cases}
use Rattle.std.proofs.lemmas.Bool.Decides.{eqb_tells}
use Rattle.mem_model.specs.Blocks.{CacheBlock}
use Rattle.mem_model.specs.Places.{end_of, is_clear, has_above}
use Rattle.mem_model.specs.Cache.{put_in}
use Rattle.mem_model.specs.Gaps.{HasSize}
use Rattle.mem_model.specs.Laid.{AreBetween, count_in, users_of}

-- The block that is found for a user stays where the user stays, and is gone where it leaves.
pub find-stays : (q : ℕ → Bool) (user : ℕ) (blocks : List CacheBlock) → q user ≡ true → find (λ b. nat_eq b.user user) (filter (λ b. q b.user) blocks) ≡ find (λ b. nat_eq b.user user) blocks
find-stays q user [] h = refl
find-stays q user (b ∷ bs) h =
    elim (eqb_tells b.user user) [
      | inl at ↦ (let stays : q b.user ≡ true = ap q at.1 ∙ h in rw (stays, at.0) refl)
      | inr off ↦ rw off.0 (elim (q b.user) as (λ t. find (λ x. nat_eq x.user user) (cond t (b ∷ filter (λ x. q x.user) bs) (filter (λ x. q x.user) bs)) ≡ find (λ x. nat_eq x.user user) bs) [
        | true ↦ rw off.0 (find-stays q user bs h)
        | false ↦ find-stays q user bs h
      ])
    ]

pub find-gone : (q : ℕ → Bool) (user : ℕ) (blocks : List CacheBlock) → q user ≡ false → find (λ b. nat_eq b.user user) (filter (λ b. q b.user) blocks) ≡ None
find-gone q user [] h = refl
find-gone q user (b ∷ bs) h =
    elim (eqb_tells b.user user) [
      | inl at ↦ (let gone : q b.user ≡ false = ap q at.1 ∙ h in rw gone (find-gone q user bs h))
      | inr off ↦ elim (q b.user) as (λ t. find (λ x. nat_eq x.user user) (cond t (b ∷ filter (λ x. q x.user) bs) (filter (λ x. q x.user) bs)) ≡ None) [
        | true ↦ rw off.0 (find-gone q user bs h)
        | false ↦ find-gone q user bs h
      ]
    ]

pub find-put_other : (user : ℕ) (blocks : List CacheBlock) (b : CacheBlock) → b.user ≢ user → find (λ x. nat_eq x.user user) (put_in blocks b) ≡ find (λ x. nat_eq x.user user) blocks
find-put_other user [] b h = rw (ne_eqb b.user user h) refl
find-put_other user (c ∷ cs) b h =
    elim (ltb c.place b.place) as (λ t. find (λ x. nat_eq x.user user) (cond t (c ∷ put_in cs b) (b ∷ c ∷ cs)) ≡ find (λ x. nat_eq x.user user) (c ∷ cs)) [
      | true ↦ ap (λ (o : Option CacheBlock). cond (eqb c.user user) (Some c) o) (find-put_other user cs b h)
      | false ↦ rw (ne_eqb b.user user h) refl
    ]

pub find-put_own : (blocks : List CacheBlock) (b : CacheBlock) → count_in b.user (users_of blocks) ≡ 0 → find (λ x. nat_eq x.user b.user) (put_in blocks b) ≡ Some b
find-put_own [] b h = rw (eq-eqb b.user b.user refl) refl
find-put_own (c ∷ cs) b h =
    elim (ltb c.place b.place) as (λ t. find (λ x. nat_eq x.user b.user) (cond t (c ∷ put_in cs b) (b ∷ c ∷ cs)) ≡ Some b) [
      | true ↦ elim (eqb_tells c.user b.user) [
        | inl at ↦ absurd (omega (arith, rw at.0 at h))
        | inr off ↦ rw off.0 (let rest : count_in b.user (users_of cs) ≡ 0 = omega (arith, rw off.0 at h) in find-put_own cs b rest)
      ]
      | false ↦ rw (eq-eqb b.user b.user refl) refl
    ]

-- A user without a block is not counted, and one with a block is.
pub find-none : (user : ℕ) (blocks : List CacheBlock) → find (λ b. nat_eq b.user user) blocks ≡ None → count_in user (users_of blocks) ≡ 0
find-none user [] h = refl
find-none user (b ∷ bs) h =
    elim (eqb_tells b.user user) [
      | inl at ↦ (let some : Some b ≡ None = rw at.0 at h in absurd (cc))
      | inr off ↦ rw off.0 (let none : find (λ x. nat_eq x.user user) bs ≡ None = rw off.0 at h in omega (arith, find-none user bs none))
    ]

pub find-some : (user : ℕ) (blocks : List CacheBlock) (b : CacheBlock) → find (λ x. nat_eq x.user user) blocks ≡ Some b → (b.user ≡ user) × (0 < count_in user (users_of blocks))
find-some user [] b h = absurd (cc)
find-some user (c ∷ cs) b h =
    elim (eqb_tells c.user user) [
      | inl at ↦ (let some : Some c ≡ Some b = rw at.0 at h in let same : c ≡ b = cc in rw at.0 (ap (λ (x : CacheBlock). x.user) (sym same) ∙ at.1, omega arith))
      | inr off ↦ (let rest : find (λ x. nat_eq x.user user) cs ≡ Some b = rw off.0 at h in let more = find-some user cs b rest in rw off.0 (more.0, omega (arith, more.1)))
    ]

pub find-absent : (user : ℕ) (blocks : List CacheBlock) → count_in user (users_of blocks) ≡ 0 → find (λ b. nat_eq b.user user) blocks ≡ None
find-absent user [] h = refl
find-absent user (b ∷ bs) h =
    elim (eqb_tells b.user user) [
      | inl at ↦ absurd (omega (arith, rw at.0 at h))
      | inr off ↦ rw off.0 (let rest : count_in user (users_of bs) ≡ 0 = omega (arith, rw off.0 at h) in find-absent user bs rest)
    ]

-- The same of counts.
pub count-stays : (q : ℕ → Bool) (user : ℕ) (users : List ℕ) → q user ≡ true → count_in user (filter q users) ≡ count_in user users
count-stays q user [] h = refl
count-stays q user (u ∷ us) h =
    elim (eqb_tells u user) [
      | inl at ↦ (let stays : q u ≡ true = ap q at.1 ∙ h in rw (stays, at.0) (omega (arith, count-stays q user us h)))
      | inr off ↦ rw off.0 (elim (q u) as (λ t. count_in user (cond t (u ∷ filter q us) (filter q us)) ≡ 0 + count_in user us) [
        | true ↦ rw off.0 (omega (arith, count-stays q user us h))
        | false ↦ omega (arith, count-stays q user us h)
      ])
    ]

pub count-gone : (q : ℕ → Bool) (user : ℕ) (users : List ℕ) → q user ≡ false → count_in user (filter q users) ≡ 0
count-gone q user [] h = refl
count-gone q user (u ∷ us) h =
    elim (eqb_tells u user) [
      | inl at ↦ (let gone : q u ≡ false = ap q at.1 ∙ h in rw gone (count-gone q user us h))
      | inr off ↦ elim (q u) as (λ t. count_in user (cond t (u ∷ filter q us) (filter q us)) ≡ 0) [
        | true ↦ rw off.0 (omega (arith, count-gone q user us h))
        | false ↦ count-gone q user us h
      ]
    ]

pub users_of-filter : (q : ℕ → Bool) (blocks : List CacheBlock) → users_of (filter (λ b. q b.user) blocks) ≡ filter q (users_of blocks)
users_of-filter q [] = refl
users_of-filter q (b ∷ bs) =
    elim (q b.user) as (λ t. users_of (cond t (b ∷ filter (λ x. q x.user) bs) (filter (λ x. q x.user) bs)) ≡ cond t (b.user ∷ filter q (users_of bs)) (filter q (users_of bs))) [
      | true ↦ ap (λ us. b.user ∷ us) (users_of-filter q bs)
      | false ↦ users_of-filter q bs
    ]

pub count-put_in : (user : ℕ) (blocks : List CacheBlock) (b : CacheBlock) → count_in user (users_of (put_in blocks b)) ≡ count_in user (b.user ∷ users_of blocks)
count-put_in user [] b = refl
count-put_in user (c ∷ cs) b =
    elim (ltb c.place b.place) as (λ t. count_in user (users_of (cond t (c ∷ put_in cs b) (b ∷ c ∷ cs))) ≡ count_in user (b.user ∷ users_of (c ∷ cs))) [
      | true ↦ omega (arith, count-put_in user cs b)
      | false ↦ refl
    ]

pub count-append : (user : ℕ) (us vs : List ℕ) → count_in user (us ++ vs) ≡ count_in user us + count_in user vs
count-append user [] vs = omega arith
count-append user (u ∷ us) vs = omega (arith, count-append user us vs)

-- What holds of each block holds where some leave, and where one is put in of which it holds.
pub all-filter : (P : CacheBlock → Type 0) (p : CacheBlock → Bool) (blocks : List CacheBlock) → AllByRecursion P blocks → AllByRecursion P (filter p blocks)
all-filter P p [] a = tt
all-filter P p (b ∷ bs) a =
    elim (p b) as (λ t. AllByRecursion P (cond t (b ∷ filter p bs) (filter p bs))) [ true ↦ (a.0, all-filter P p bs a.1) | false ↦ all-filter P p bs a.1 ]

pub all-put_in : (P : CacheBlock → Type 0) (blocks : List CacheBlock) (b : CacheBlock) → AllByRecursion P blocks → P b → AllByRecursion P (put_in blocks b)
all-put_in P [] b a h = (h, tt)
all-put_in P (c ∷ cs) b a h =
    elim (ltb c.place b.place) as (λ t. AllByRecursion P (cond t (c ∷ put_in cs b) (b ∷ c ∷ cs))) [ true ↦ (a.0, all-put_in P cs b a.1 h) | false ↦ (h, a) ]

-- Blocks between two places, in order.
pub between_from : (blocks : List CacheBlock) (low bottom top : ℕ) → low ≤ bottom → AreBetween bottom top blocks → AreBetween low top blocks
between_from [] low bottom top h p = omega (arith, p)
between_from (b ∷ bs) low bottom top h p = (omega (arith, p.0), p.1)

pub between_to : (blocks : List CacheBlock) (bottom top high : ℕ) → top ≤ high → AreBetween bottom top blocks → AreBetween bottom high blocks
between_to [] bottom top high h p = omega (arith, p)
between_to (b ∷ bs) bottom top high h p = (p.0, between_to bs (end_of b) top high h p.1)

pub between-spans : (blocks : List CacheBlock) (bottom top : ℕ) → AreBetween bottom top blocks → bottom ≤ top
between-spans [] bottom top p = p
between-spans (b ∷ bs) bottom top p = omega (arith, p.0, between-spans bs (end_of b) top p.1)

pub between-filter : (p : CacheBlock → Bool) (blocks : List CacheBlock) (bottom top : ℕ) → AreBetween bottom top blocks → AreBetween bottom top (filter p blocks)
between-filter p [] bottom top a = a
between-filter p (b ∷ bs) bottom top a =
    elim (p b) as (λ t. AreBetween bottom top (cond t (b ∷ filter p bs) (filter p bs))) [
      | true ↦ (a.0, between-filter p bs (end_of b) top a.1)
      | false ↦ between_from (filter p bs) bottom (end_of b) top (omega (arith, a.0)) (between-filter p bs (end_of b) top a.1)
    ]

pub clear-filter : (p : CacheBlock → Bool) (blocks : List CacheBlock) (place size : ℕ) → is_clear blocks place size ≡ true → is_clear (filter p blocks) place size ≡ true
clear-filter p [] place size h = refl
clear-filter p (b ∷ bs) place size h =
    let parts = and_parts (leb (place + size) b.place || leb (end_of b) place) (is_clear bs place size) h in
    elim (p b) as (λ t. is_clear (cond t (b ∷ filter p bs) (filter p bs)) place size ≡ true) [
      | true ↦ rw parts.0 (clear-filter p bs place size parts.1)
      | false ↦ clear-filter p bs place size parts.1
    ]

clear_first : (b : CacheBlock) (bs : List CacheBlock) (place size : ℕ) → is_clear (b ∷ bs) place size ≡ true → (place + size ≤ b.place) ⊎ (end_of b ≤ place)
clear_first b bs place size h =
    elim (or_cases (leb (place + size) b.place) (leb (end_of b) place) (and_parts (leb (place + size) b.place || leb (end_of b) place) (is_clear bs place size) h).0) [
      | inl before ↦ inl (leb-true (place + size) b.place before)
      | inr behind ↦ inr (leb-true (end_of b) place behind)
    ]

clear_rest : (b : CacheBlock) (bs : List CacheBlock) (place size : ℕ) → is_clear (b ∷ bs) place size ≡ true → is_clear bs place size ≡ true
clear_rest b bs place size h = (and_parts (leb (place + size) b.place || leb (end_of b) place) (is_clear bs place size) h).1

-- A clear range with a block at or above it ends by the top.
pub clear_below : (blocks : List CacheBlock) (bottom top place size : ℕ) → AreBetween bottom top blocks → AllByRecursion HasSize blocks → is_clear blocks place size ≡ true → has_above blocks place ≡ true → place + size ≤ top
clear_below [] bottom top place size a s clear above = absurd (cc)
clear_below (b ∷ bs) bottom top place size a s clear above =
    elim (clear_first b bs place size clear) [
      | inl before ↦ omega (arith, a.0, between-spans bs (end_of b) top a.1)
      | inr behind ↦ elim (or_cases (leb place b.place) (has_above bs place) above) [
        | inl up ↦ absurd (omega (arith, leb-true place b.place up, s.0))
        | inr rest ↦ clear_below bs (end_of b) top place size a.1 s.1 (clear_rest b bs place size clear) rest
      ]
    ]

put_between : (bottom top : ℕ) (c : CacheBlock) (cs : List CacheBlock) (b : CacheBlock) → AreBetween bottom top (c ∷ cs) → 0 < c.size → bottom ≤ b.place → (b.place + b.size ≤ c.place) ⊎ (end_of c ≤ b.place) →
    (end_of c ≤ b.place → AreBetween (end_of c) top (put_in cs b)) → (t : Bool) → ltb c.place b.place ≡ t → AreBetween bottom top (cond t (c ∷ put_in cs b) (b ∷ c ∷ cs))
put_between bottom top c cs b a s h (inl before) on true e = absurd (omega (arith, ltb-true c.place b.place e))
put_between bottom top c cs b a s h (inr behind) on true e = (a.0, on behind)
put_between bottom top c cs b a s h (inl before) on false e = (h, (before, a.1))
put_between bottom top c cs b a s h (inr behind) on false e = absurd (omega (arith, ltb-false c.place b.place e))

-- A block at a clear range between the two places keeps all in order.
pub between-put_in : (bottom top : ℕ) (blocks : List CacheBlock) (b : CacheBlock) → AreBetween bottom top blocks → AllByRecursion HasSize blocks → bottom ≤ b.place → end_of b ≤ top → is_clear blocks b.place b.size ≡ true → AreBetween bottom top (put_in blocks b)
between-put_in bottom top [] b a s h fits clear = (h, fits)
between-put_in bottom top (c ∷ cs) b a s h fits clear =
    put_between bottom top c cs b a s.0 h (clear_first c cs b.place b.size clear)
    (λ behind. between-put_in (end_of c) top cs b a.1 s.1 behind fits (clear_rest c cs b.place b.size clear))
    (ltb c.place b.place) refl
