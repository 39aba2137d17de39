-- A table of places, and the search for a block by its place.
use Rattle.std.proofs.Common.{◌≡◌, ◌≢◌, ℕ, suc, zero, ◌<◌, ◌≤◌, List, [], ◌∷◌, Option, Some, None, length, get_or, set, nat_eq, not, refl, sym, ap, ◌∙◌, inl, inr, arith}
use Rattle.std.specs.Prelude.{slice_get}
use Rattle.std.specs.List.{AllByRecursion}
use Rattle.std.specs.Option.{option_map}
use Rattle.std.proofs.lemmas.Bool.{cases_lt}
use Rattle.std.proofs.lemmas.Bool.Decides.{eqb_tells}
use Rattle.std.proofs.lemmas.Grind.{get_or-set_at}
use Rattle.std.proofs.lemmas.List.{get_or-set_other, get_or_past}
use Rattle.std.proofs.lemmas.Option.{slice_get_within}
use Rattle.mem_model.specs.Blocks.{CacheBlock}
use Rattle.mem_model.specs.Places.{end_of}
use Rattle.mem_model.specs.Cache.{find_block, put_in, without_block}
use Rattle.mem_model.specs.Gaps.{HasSize}
use Rattle.mem_model.specs.Laid.{AreBetween, count_in, users_of}
use Rattle.mem_model.specs.Tables.{IsTable, IsOwn}
use Rattle.mem_model.proofs.CacheBlocks.{find-stays, find-gone, find-put_own, find-put_other}
use Rattle.mem_model.proofs.CacheMoves.{count-without, found_end}
use Rattle.mem_model.proofs.CacheEdits.{at_position}
use Rattle.mem_model.proofs.Evicting.{there}

abbrev place_of : Option CacheBlock → Option ℕ
place_of o = option_map (λ (b : CacheBlock). b.place) o

some_placed : (o : Option CacheBlock) (place : ℕ) → place_of o ≡ Some place → (b : CacheBlock) × (o ≡ Some b) × (b.place ≡ place)
some_placed None place h = absurd (cc)
some_placed (Some b) place h = (b, refl, (let same : b.place ≡ place = cc in same))

-- A user with a block has an entry.
pub listed : {places : List (Option ℕ)} {blocks : List CacheBlock} (user : ℕ) (b : CacheBlock) → IsTable places blocks → find_block user blocks ≡ Some b → user < length places
listed {places} {blocks} user b t h =
    elim (cases_lt user (length places)) [
      | inl inside ↦ inside
      | inr past ↦ (let none : None ≡ Some b.place = sym (get_or_past places user None past) ∙ t.each user ∙ ap place_of h in absurd (cc))
    ]

pub owner_listed : {places : List (Option ℕ)} {blocks : List CacheBlock} (user at : ℕ) → IsTable places blocks → IsOwn blocks user at → user < length places
owner_listed {places} {blocks} user at t o = (let b = there blocks at o.inside in listed user b.0 t (o.found ∙ b.1))

pub placed_listed : {places : List (Option ℕ)} {blocks : List CacheBlock} (at : ℕ) (b : CacheBlock) → IsTable places blocks → ((user : ℕ) → count_in user (users_of blocks) ≤ 1) → slice_get blocks at ≡ Some b → b.user < length places
placed_listed {places} {blocks} at b t few h = listed b.user b t (at_position blocks at b few h).found

-- The table after a user has left.
pub table-without : {places : List (Option ℕ)} {blocks : List CacheBlock} (user : ℕ) → IsTable places blocks → user < length places → IsTable (set places user None) (without_block blocks user)
table-without {places} {blocks} user t inside = record {
  each = λ v. elim (eqb_tells v user) [
    | inl at ↦ get_or-set_at places user v None None at.1 inside ∙ ap place_of (sym (find-gone (λ u. not (nat_eq u user)) v blocks (rw at.0 refl)))
    | inr off ↦ get_or-set_other places user v None None off.1 ∙ t.each v ∙ ap place_of (sym (find-stays (λ u. not (nat_eq u user)) v blocks (rw off.0 refl)))
  ];
}

table-put : {places : List (Option ℕ)} (others rest : List CacheBlock) (b : CacheBlock) → IsTable places others → b.user < length places → count_in b.user (users_of rest) ≡ 0 → ((v : ℕ) → v ≢ b.user → find_block v others ≡ find_block v rest) →
    IsTable (set places b.user (Some b.place)) (put_in rest b)
table-put {places} others rest b t inside none same = record {
  each = λ v. elim (eqb_tells v b.user) [
    | inl at ↦ get_or-set_at places b.user v (Some b.place) None at.1 inside ∙ ap place_of (sym (ap (λ u. find_block u (put_in rest b)) at.1 ∙ find-put_own rest b none))
    | inr off ↦ get_or-set_other places b.user v (Some b.place) None off.1 ∙ t.each v ∙ ap place_of (same v off.1 ∙ sym (find-put_other v rest b (λ e. off.1 (sym e))))
  ];
}

-- The table after a new block has come, and after a block has moved.
pub table-put_in : {places : List (Option ℕ)} {blocks : List CacheBlock} (b : CacheBlock) → IsTable places blocks → b.user < length places → count_in b.user (users_of blocks) ≡ 0 → IsTable (set places b.user (Some b.place)) (put_in blocks b)
table-put_in {places} {blocks} b t inside none = table-put blocks blocks b t inside none (λ v other. refl)

pub table-moved : {places : List (Option ℕ)} {blocks : List CacheBlock} (b : CacheBlock) (place : ℕ) → IsTable places blocks → b.user < length places → IsTable (set places b.user (Some place)) (put_in (without_block blocks b.user) (record b { place = place }))
table-moved {places} {blocks} b place t inside =
    table-put blocks (without_block blocks b.user) (record b { place = place }) t inside (count-without (record { blocks = blocks; recency = [] }) b.user)
    (λ v other. sym (find-stays (λ u. not (nat_eq u b.user)) v blocks (rw (Rattle.std.proofs.lemmas.Bool.ne_eqb v b.user other) refl)))

-- what an entry says lies below where all blocks end
pub entry_below : {places : List (Option ℕ)} {blocks : List CacheBlock} (user place high : ℕ) → IsTable places blocks → AreBetween 0 high blocks → get_or places user None ≡ Some place → place ≤ high
entry_below {places} {blocks} user place high t a h =
    let b = some_placed (find_block user blocks) place (sym (t.each user) ∙ h) in
    omega (arith, b.2, found_end user 0 high blocks b.0 a b.1)

found_start : (user low high : ℕ) (blocks : List CacheBlock) (b : CacheBlock) → AreBetween low high blocks → find_block user blocks ≡ Some b → low ≤ b.place
found_start user low high [] b a h = absurd (cc)
found_start user low high (c ∷ cs) b a h =
    elim (eqb_tells c.user user) [
      | inl at ↦ (let some : Some c ≡ Some b = rw at.0 at h in let same : c ≡ b = cc in omega (arith, ap (λ (x : CacheBlock). x.place) same, a.0))
      | inr off ↦ (let rest : find_block user cs ≡ Some b = rw off.0 at h in omega (arith, a.0, found_start user (end_of c) high cs b a.1 rest))
    ]

-- Where the places of all blocks before a position are lower, and of those behind not, a block stands there.
found_at : (user low high i : ℕ) (blocks : List CacheBlock) (b : CacheBlock) → AreBetween low high blocks → AllByRecursion HasSize blocks → find_block user blocks ≡ Some b →
    ((k : ℕ) → k < i → (get_or blocks k b).place < b.place) → ((k : ℕ) → i ≤ k → k < length blocks → b.place ≤ (get_or blocks k b).place) → slice_get blocks i ≡ Some b
found_at user low high i [] b a s h lower higher = absurd (cc)
found_at user low high zero (c ∷ cs) b a s h lower higher =
    elim (eqb_tells c.user user) [
      | inl at ↦ (let some : Some c ≡ Some b = rw at.0 at h in some)
      | inr off ↦ (let rest : find_block user cs ≡ Some b = rw off.0 at h in absurd (omega (arith, s.0, higher 0 (omega arith) (omega arith), found_start user (end_of c) high cs b a.1 rest)))
    ]
found_at user low high (suc i) (c ∷ cs) b a s h lower higher =
    elim (eqb_tells c.user user) [
      | inl at ↦ (let some : Some c ≡ Some b = rw at.0 at h in let same : c ≡ b = cc in absurd (omega (arith, lower 0 (omega arith), ap (λ (x : CacheBlock). x.place) same)))
      | inr off ↦ (let rest : find_block user cs ≡ Some b = rw off.0 at h in
          found_at user (end_of c) high i cs b a.1 s.1 rest (λ k l. lower (suc k) (omega arith)) (λ k l m. higher (suc k) (omega arith) (omega arith)))
    ]

-- A search by the place that the table has finds the user's block.
pub own : {places : List (Option ℕ)} {blocks : List CacheBlock} (user place high i : ℕ) → IsTable places blocks → AreBetween 0 high blocks → AllByRecursion HasSize blocks → get_or places user None ≡ Some place →
    ((k : ℕ) (d : CacheBlock) → k < i → (get_or blocks k d).place < place) → ((k : ℕ) (d : CacheBlock) → i ≤ k → k < length blocks → place ≤ (get_or blocks k d).place) → IsOwn blocks user i
own {places} {blocks} user place high i t a s here lower higher =
    let found = some_placed (find_block user blocks) place (sym (t.each user) ∙ here) in
    let at = found_at user 0 high i blocks found.0 a s found.1 (λ k l. omega (arith, lower k found.0 l, found.2)) (λ k l m. omega (arith, higher k found.0 l m, found.2)) in
    record { inside = slice_get_within blocks i found.0 at; found = found.1 ∙ sym at }

-- Blocks in order rise by place.
places_rise : (low high : ℕ) (blocks : List CacheBlock) (j : ℕ) (d : CacheBlock) → AreBetween low high blocks → j < length blocks → low ≤ (get_or blocks j d).place
places_rise low high [] j d a h = absurd (omega arith)
places_rise low high (b ∷ bs) zero d a h = a.0
places_rise low high (b ∷ bs) (suc j) d a h = omega (arith, a.0, places_rise (end_of b) high bs j d a.1 (omega arith))

pub rising_places : (low high : ℕ) (blocks : List CacheBlock) → AreBetween low high blocks → (i j : ℕ) (d : CacheBlock) → i ≤ j → j < length blocks → (get_or blocks i d).place ≤ (get_or blocks j d).place
rising_places low high [] a i j d le lt = absurd (omega arith)
rising_places low high (b ∷ bs) a zero zero d le lt = omega arith
rising_places low high (b ∷ bs) a zero (suc j) d le lt = omega (arith, places_rise (end_of b) high bs j d a.1 (omega arith))
rising_places low high (b ∷ bs) a (suc i) zero d le lt = absurd (omega arith)
rising_places low high (b ∷ bs) a (suc i) (suc j) d le lt = rising_places (end_of b) high bs a.1 i j d (omega arith) (omega arith)
