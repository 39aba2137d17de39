-- What is held of the resources passes from a memory to another.
use Rattle.std.proofs.Common.{◌≡◌, ℕ, zero, suc, ◌≤◌, ◌<◌, subst, List, Bool, true, false, cond, ◌≢◌, [], ◌∷◌, ◌++◌, length, take, inl, inr, Option, Some, None, refl, sym, ap, ◌∙◌, arith}
use Rattle.std.specs.Prelude.{All, Contains, IsSome, IsSomeAnd, IfSome, slice_get, option_map, option_and_then, bytes_eq}
use Rattle.std.proofs.lemmas.Bool.Decides.{eqb_tells}
use Rattle.std.proofs.lemmas.List.Elements.{All-append, All-cons, All-contains, All-contains_itself, All-head, All-nil, All-same, All-tail, Contains-append_left, Contains-append_right}
use Rattle.mem_model.specs.declared.answers.Place.{Place}
use Rattle.mem_model.specs.Cache.{block_of, find_block, peek_bytes}
use Rattle.mem_model.specs.Hunk.{low_bytes}
use Rattle.mem_model.specs.Blocks.{CacheBlock}
use Rattle.mem_model.specs.Keeps.{AreLow, Keeps, KeepsAll, held, unplaced}
use Rattle.mem_model.specs.Memory.{Cache, Memory}
use Rattle.mem_model.proofs.Keeping.{AreLow-Keeps, is_excepted, none_excepted, not_excepted, peek_bytes-Keeps}
use Rattle.search_paths.specs.Mounts.{Mount}
use Rattle.res_table.specs.declared.answers.Res.{Res}
use Rattle.res_table.specs.declared.kinds.Kind.{Kind}
use Rattle.res_table.specs.declared.kinds.Kind.TheVariants as kind
use Rattle.res_table.specs.declared.kinds.Table.{Table}
use Rattle.res_table.specs.declared.kinds.Table.TheVariants.{Models, Sounds}
use Rattle.res_table.specs.declared.slots.Loaded.{Loaded}
use Rattle.res_table.specs.Acquire.{loaded_of}
use Rattle.res_table.specs.Held.{AreHeld, AreThere, IsImageOf, IsSlotUser, bytes_at, low_of, lows_in, lows_of}
use Rattle.res_table.specs.Images.{IsImage, file_of}
use Rattle.res_table.specs.Kept.{users_for}
use Rattle.res_table.specs.Placed.{low_at}
use Rattle.res_table.specs.Resources.{Resources, no_resources, rows_in, with_rows}
use Rattle.res_table.specs.Tables.{entered, found_in, most_of, slot_for, slot_of, user_of}
use Rattle.res_table.proofs.Entering.{Found, some, entered-cons, entered_within, found_within, found-other, found-own, same_name, slot_found, slots_apart}

-- the low place of a row is one of those of its table
low_row : (rows : List (List ℕ × Loaded)) (slot : ℕ) (row : List ℕ × Loaded) (place : Place) → slice_get rows slot ≡ Some row
    → row.1.low ≡ Some place → Contains (lows_in rows) place.0
low_row [] slot row place there low = absurd (cc)
low_row (first ∷ rows) zero row place there low =
    let same : first ≡ row = cc in
    let here : low_of first.1.low ≡ place.0 ∷ [] = ap (λ (r : List ℕ × Loaded). low_of r.1.low) same ∙ ap low_of low in
    Contains-append_left (low_of first.1.low) (lows_in rows) place.0 (rw here (is_excepted place.0))
low_row (first ∷ rows) (suc slot) row place there low =
    Contains-append_right (low_of first.1.low) (lows_in rows) place.0 (low_row rows slot row place there low)

-- the places of each table are of all tables
in_lows : (t : Resources) (table : Table) (place : ℕ) → Contains (lows_in (rows_in t table)) place → Contains (lows_of t) place
in_lows t Models place there = Contains-append_left (lows_in t.models) (lows_in t.sounds) place there
in_lows t Sounds place there = Contains-append_right (lows_in t.models) (lows_in t.sounds) place there

low_found : (t : Resources) (table : Table) (name : List ℕ) (slot : ℕ) (loaded : Loaded) (place : Place)
    → found_in name (rows_in t table) ≡ Some (slot, loaded) → loaded.low ≡ Some place → Contains (lows_of t) place.0
low_found t table name slot loaded place found low = in_lows t table place.0 (by (slot_of name rows) found) where
  rows : List (List ℕ × Loaded)
  rows = rows_in t table

  at_row : (at : ℕ) (row : Option (List ℕ × Loaded)) → slice_get rows at ≡ row → option_map {U = ℕ × Loaded} (λ row. (at, row.1)) row ≡ Some (slot, loaded)
      → Contains (lows_in rows) place.0
  at_row at None there h = absurd (cc)
  at_row at (Some row) there h =
      let both : ◌≡◌ {A = ℕ × Loaded} (at, row.1) (slot, loaded) = cc in
      let same : row.1 ≡ loaded = ap (λ (p : ℕ × Loaded). p.1) both in
      low_row rows at row place there (ap (λ (l : Loaded). l.low) same ∙ low)

  by : (at : Option ℕ) → option_and_then (λ at. option_map {U = ℕ × Loaded} (λ row. (at, row.1)) (slice_get rows at)) at ≡ Some (slot, loaded)
      → Contains (lows_in rows) place.0
  by None h = absurd (cc)
  by (Some at) h = at_row at (slice_get rows at) refl h

pub low_seen : (t : Resources) (m : Memory) (table : Table) (name : List ℕ) (slot : ℕ) (loaded : Loaded) → AreThere t m
    → found_in name (rows_in t table) ≡ Some (slot, loaded) → IfSome loaded.low (λ place. IsSome (low_bytes m place.0))
low_seen t m table name slot loaded is found = by loaded.low refl where
  by : (low : Option Place) → loaded.low ≡ low → IfSome low (λ place. IsSome (low_bytes m place.0))
  by None same = tt
  by (Some place) same = All-contains (λ (p : ℕ). IsSome (low_bytes m p)) (lows_of t) place.0 is.1.low (low_found t table name slot loaded place found same)

pub image_fits : (t : Resources) (m : Memory) (table : Table) (name : List ℕ) (slot : ℕ) (loaded : Loaded) (bytes : List ℕ) → AreThere t m
    → found_in name (rows_in t table) ≡ Some (slot, loaded) → bytes_at m (user_of table slot) loaded.low ≡ Some bytes → loaded.size ≤ length bytes
image_fits t m table name slot loaded bytes is found there =
    let image = is.1.images table name slot loaded found in
    (rw there at image).fits

-- the bytes of a resource that is seen are an image
pub image_seen : (t : Resources) (m : Memory) (table : Table) (name : List ℕ) (slot : ℕ) (loaded : Loaded) (bytes : List ℕ) → AreThere t m
    → found_in name (rows_in t table) ≡ Some (slot, loaded) → bytes_at m (user_of table slot) loaded.low ≡ Some bytes → IsImage loaded.kind (take loaded.size bytes)
image_seen t m table name slot loaded bytes is found there =
    let made = rw there at (is.1.images table name slot loaded found) in
    record { speed = t.speed; source = made.source; small = made.small; image = made.image }

-- what the block of a resource shows after was there before
module _ {lows except : List ℕ} {m n : Memory} (P : List ℕ → Type 0) (kept : Keeps lows except m n) where
  in_cache : (user : ℕ) (after : Option (List ℕ)) → ¬ Contains except user → peek_bytes n.cache user ≡ after → IfSome (peek_bytes m.cache user) P → IfSome after P
  in_cache user None other is was = tt
  in_cache user (Some bytes) other is was =
      let before = peek_bytes-Keeps lows except m n user bytes kept other is in
      rw before at was

  in_low : (place : ℕ) (before : Option (List ℕ)) → Contains lows place → low_bytes m place ≡ before → IsSome before → IfSome before P → IfSome (low_bytes n place) P
  in_low place None there is some was = absurd (cc)
  in_low place (Some bytes) there is some was = rw (kept.low place bytes there is) was

  still_there : (user : ℕ) (low : Option Place) → ¬ Contains except user → ((place : Place) → low ≡ Some place → Contains lows place.0 × IsSome (low_bytes m place.0))
      → IfSome (bytes_at m user low) P → IfSome (bytes_at n user low) P
  still_there user None other in_table was = in_cache user (peek_bytes n.cache user) other refl was
  still_there user (Some place) other in_table was =
      let there = in_table place refl in
      in_low place.0 (low_bytes m place.0) there.0 refl there.1 was

-- what is held of a row stays so, where its user isn't excepted
module _ {mounts : List (Option Mount)} {except : List ℕ} (t : Resources) (m n : Memory) (is : AreHeld mounts t m) (kept : Keeps (lows_of t) except m n)
    (table : Table) (name : List ℕ) (slot : ℕ) (loaded : Loaded) (found : found_in name (rows_in t table) ≡ Some (slot, loaded)) where
  row_image : ¬ Contains except (user_of table slot) → IfSome (bytes_at n (user_of table slot) loaded.low) (IsImageOf t.speed mounts table (file_of table name) loaded)
  row_image other = still_there _ kept (user_of table slot) loaded.low other
      (λ place low.
      let in_table = low_found t table name slot loaded place found low in
      (in_table, All-contains (λ (p : ℕ). IsSome (low_bytes m p)) (lows_of t) place.0 is.low in_table))
      (is.images table name slot loaded found)

-- For callers: what is held stays so over a call that keeps the blocks of the table.
pub AreHeld-Keeps : (mounts : List (Option Mount)) (t : Resources) (m n : Memory) → AreHeld mounts t m → Keeps (lows_of t) [] m n → AreHeld mounts t n
AreHeld-Keeps mounts t m n is kept = record {
  users = rw kept.count is.users;
  few = is.few;
  cached = λ user b has. is.cached user b (kept.users user b (none_excepted user) has);
  low = AreLow-Keeps (lows_of t) [] m n kept is.low;
  images = λ table name slot loaded found. row_image t m n is kept table name slot loaded found (none_excepted (user_of table slot));
}

pub held_kept : (mounts : List (Option Mount)) (t : Resources) (m n : Memory) → AreHeld mounts t m → KeepsAll [] m n → AreHeld mounts t n
held_kept mounts t m n is kept = AreHeld-Keeps mounts t m n is (kept (lows_of t))

-- The low places of a table in which a name was entered are those that it had, and the name's own.
pub own_lows : (P : ℕ → Type 0) (low : Option Place) (rest : List ℕ) → IfSome low (λ place. P place.0) → All P rest → All P (low_of low ++ rest)
own_lows P None rest own all = all
own_lows P (Some place) rest own all = All-cons P place.0 rest own all

pub lows_parts : (P : ℕ → Type 0) (low : Option Place) (rest : List ℕ) → All P (low_of low ++ rest) → IfSome low (λ place. P place.0) × All P rest
lows_parts P None rest all = (tt, all)
lows_parts P (Some place) rest all = (All-head P place.0 rest all, All-tail P place.0 rest all)

lows_either : (P : ℕ → Type 0) (row : List ℕ × Loaded) (rows later : List (List ℕ × Loaded)) (loaded : Loaded) (same : Bool) → IfSome loaded.low (λ place. P place.0)
    → All P (lows_in (row ∷ rows)) → All P (lows_in later) → All P (lows_in (cond same ((row.0, loaded) ∷ rows) (row ∷ later)))
lows_either P row rows later loaded true own all entered = own_lows P loaded.low (lows_in rows) own (lows_parts P row.1.low (lows_in rows) all).1
lows_either P row rows later loaded false own all entered = own_lows P row.1.low (lows_in later) (lows_parts P row.1.low (lows_in rows) all).0 entered

lows-entered : (P : ℕ → Type 0) (rows : List (List ℕ × Loaded)) (name : List ℕ) (loaded : Loaded) → IfSome loaded.low (λ place. P place.0) → All P (lows_in rows)
    → All P (lows_in (entered rows name loaded))
lows-entered P [] name loaded own all = own_lows P loaded.low [] own all
lows-entered P (row ∷ rows) name loaded own all =
    let later = lows-entered P rows name loaded own (lows_parts P row.1.low (lows_in rows) all).1 in
    All-same P _ _ (ap lows_in (entered-cons name loaded row rows)) (lows_either P row rows (entered rows name loaded) loaded (bytes_eq name row.0) own all later)

-- A table's rows stand apart from the other table's, and so do the users of its slots.
rows-with : (t : Resources) (table : Table) (rows : List (List ℕ × Loaded)) → rows_in (with_rows t table rows) table ≡ rows
rows-with t Models rows = refl
rows-with t Sounds rows = refl

user_once : (table : Table) (one other : ℕ) → user_of table one ≡ user_of table other → one ≡ other
user_once Models one other same = same
user_once Sounds one other same = omega (arith, same)

-- a table is the one that was changed, or its rows and its users are others
by_table : {P : Type 0} (t : Resources) (table other : Table) (rows : List (List ℕ × Loaded)) (slot at : ℕ) → slot < most_of table → at < most_of other
    → (other ≡ table → P) → (rows_in (with_rows t table rows) other ≡ rows_in t other → user_of other at ≢ user_of table slot → P) → P
by_table t Models Models rows slot at below within same apart = same refl
by_table t Sounds Sounds rows slot at below within same apart = same refl
by_table t Models Sounds rows slot at below within same apart = apart refl (λ e. omega (arith, below, e))
by_table t Sounds Models rows slot at below within same apart = apart refl (λ e. omega (arith, within, e))

-- an image is in the cache, or needs no user's block
in_cache_or : {P : Type 0} (kind : Kind) (place user : ℕ) → (low_at kind place ≡ None → P) → (users_for kind user ≡ [] → P) → P
in_cache_or kind.Brush place user cached low = low refl
in_cache_or kind.Alias place user cached low = cached refl
in_cache_or kind.Sprite place user cached low = low refl
in_cache_or kind.Wad place user cached low = low refl
in_cache_or kind.Sound place user cached low = cached refl

not_made : (kind : Kind) (own user : ℕ) → user ≢ own → ¬ Contains (users_for kind own) user
not_made kind.Brush own user off = none_excepted user
not_made kind.Alias own user off = not_excepted own user off
not_made kind.Sprite own user off = none_excepted user
not_made kind.Wad own user off = none_excepted user
not_made kind.Sound own user off = not_excepted own user off

not_held : (c : Cache) (user : ℕ) (b : CacheBlock) → peek_bytes c user ≡ None → held c user ≡ Some b → ⊥
unfolding peek_bytes held
not_held c user b absent has = by (block_of c user) absent has where
  by : (o : Option CacheBlock) → option_map (λ (b : CacheBlock). b.bytes) o ≡ None → option_map unplaced o ≡ Some b → ⊥
  by None absent has = absurd (cc)
  by (Some b) absent has = absurd (cc)

there_some : {A : Type 0} (P : A → Type 0) (o : Option A) → IsSomeAnd o P → IsSome o
there_some P None h = absurd h
there_some P (Some a) h = refl

there_if : {A : Type 0} (P : A → Type 0) (o : Option A) → IsSomeAnd o P → IfSome o P
there_if P None h = absurd h
there_if P (Some a) h = h

pub All-front : {X : Type 0} (P : X → Type 0) (xs ys : List X) → All P (xs ++ ys) → All P xs
All-front P xs ys all k d below = All-contains P (xs ++ ys) _ all (Contains-append_left xs ys _ (All-contains_itself xs k d below))

pub All-back : {X : Type 0} (P : X → Type 0) (xs ys : List X) → All P (xs ++ ys) → All P ys
All-back P xs ys all k d below = All-contains P (xs ++ ys) _ all (Contains-append_right xs ys _ (All-contains_itself ys k d below))

-- A resource was loaded for a name whose user had no block.
module _ (mounts : List (Option Mount)) (t : Resources) (m n : Memory) (table : Table) (name : List ℕ) (res : Res) (is : AreHeld mounts t m)
    (room : slot_for name (rows_in t table) < most_of table) (absent : peek_bytes m.cache (user_of table (slot_for name (rows_in t table))) ≡ None)
    (kept : KeepsAll (users_for res.kind (user_of table (slot_for name (rows_in t table)))) m n)
    (built : IsSomeAnd (bytes_at n (user_of table (slot_for name (rows_in t table))) (loaded_of res).low) (IsImageOf t.speed mounts table (file_of table name) (loaded_of res))) where
  abbrev rows : List (List ℕ × Loaded)
  rows = rows_in t table

  abbrev own : ℕ
  own = user_of table (slot_for name rows)

  abbrev loaded : Loaded
  loaded = loaded_of res

  abbrev after : Resources
  after = with_rows t table (entered rows name loaded)

  now : rows_in after table ≡ entered rows name loaded
  now = rows-with t table (entered rows name loaded)

  own_row : found_in name (rows_in after table) ≡ Some (slot_for name rows, loaded)
  own_row = ap (found_in name) now ∙ found-own rows name loaded

  within : (other : Table) (word : List ℕ) (slot : ℕ) (row : Loaded) → found_in word (rows_in t other) ≡ Some (slot, row) → slot < most_of other
  within other word slot row found = omega (arith, found_within (rows_in t other) word slot row found, is.few other)

  -- a row of another user stays
  row_stays : (other : Table) (word : List ℕ) (slot : ℕ) (row : Loaded) → found_in word (rows_in t other) ≡ Some (slot, row) → user_of other slot ≢ own
      → found_in word (rows_in after other) ≡ Some (slot, row)
  row_stays other word slot row found off =
      by_table t table other (entered rows name loaded) (slot_for name rows) slot room (within other word slot row found) same
      (λ rows_same apart. ap (found_in word) rows_same ∙ found) where
        at_name : (named : Bool) → bytes_eq word name ≡ named → found_in word rows ≡ Some (slot, row) → user_of table slot ≢ own → found_in word (rows_in after table) ≡ Some (slot, row)
        at_name true here found off =
            let slots : slot ≡ slot_for name rows = slot_found rows name slot row (ap (λ o. found_in o rows) (sym (same_name word name here)) ∙ found) in
            absurd (off (ap (user_of table) slots))
        at_name false here found off = ap (found_in word) now ∙ found-other rows name word loaded here ∙ found

        same : other ≡ table → found_in word (rows_in after other) ≡ Some (slot, row)
        same is_table =
            subst (λ (x : Table). found_in word (rows_in t x) ≡ Some (slot, row) → user_of x slot ≢ own → found_in word (rows_in after x) ≡ Some (slot, row)) (sym is_table)
            (at_name (bytes_eq word name) refl) found off

  -- a row after is the new one, or was there with another user
  row_case : {P : Type 0} (other : Table) (word : List ℕ) (slot : ℕ) (row : Loaded) → found_in word (rows_in after other) ≡ Some (slot, row) → slot < most_of other
      → (other ≡ table → word ≡ name → slot ≡ slot_for name rows → row ≡ loaded → P) → (found_in word (rows_in t other) ≡ Some (slot, row) → user_of other slot ≢ own → P) → P
  row_case {P} other word slot row found below new old =
      by_table t table other (entered rows name loaded) (slot_for name rows) slot room below same (λ rows_same apart. old (ap (found_in word) (sym rows_same) ∙ found) apart) where
        at_name : (named : Bool) → bytes_eq word name ≡ named → found_in word (rows_in after table) ≡ Some (slot, row)
            → (word ≡ name → slot ≡ slot_for name rows → row ≡ loaded → P) → (found_in word rows ≡ Some (slot, row) → user_of table slot ≢ own → P) → P
        at_name true here found new old =
            let word_is : word ≡ name = same_name word name here in
            let both_rows : some (slot_for name rows) loaded ≡ some slot row = sym own_row ∙ ap (λ o. found_in o (rows_in after table)) (sym word_is) ∙ found in
            let both : ◌≡◌ {A = Found} (slot_for name rows, loaded) (slot, row) = cc in
            new word_is (sym (ap (λ (f : Found). f.0) both)) (sym (ap (λ (f : Found). f.1) both))
        at_name false here found new old =
            let was : found_in word rows ≡ Some (slot, row) = sym (found-other rows name word loaded here) ∙ ap (found_in word) (sym now) ∙ found in
            old was (λ e. slots_apart rows name word slot row here was (user_once table slot (slot_for name rows) e))

        same : other ≡ table → P
        same is_table =
            subst (λ (x : Table). found_in word (rows_in after x) ≡ Some (slot, row) → (x ≡ table → word ≡ name → slot ≡ slot_for name rows → row ≡ loaded → P)
            → (found_in word (rows_in t x) ≡ Some (slot, row) → user_of x slot ≢ own → P) → P) (sym is_table)
            (λ found new old. at_name (bytes_eq word name) refl found (new refl) old) found new old

  loaded_user : (user : ℕ) (b : CacheBlock) → held n.cache user ≡ Some b → IsSlotUser after user
  loaded_user user b has = elim (eqb_tells user own) [
    | inl at ↦
        in_cache_or res.kind res.place own
        (λ cached. record { table = table; name = name; slot = slot_for name rows; loaded = loaded; found = own_row; cached = cached; is = at.1 })
        (λ none.
        let was : held m.cache user ≡ Some b = (kept (lows_of t)).users user b (rw none (none_excepted user)) has in
        absurd (not_held m.cache own b absent (ap (held m.cache) (sym at.1) ∙ was)))
    | inr off ↦
        (let was = is.cached user b ((kept (lows_of t)).users user b (not_made res.kind own user off.1) has) in
        record {
          table = was.table;
          name = was.name;
          slot = was.slot;
          loaded = was.loaded;
          found = row_stays was.table was.name was.slot was.loaded was.found (λ e. off.1 (was.is ∙ e));
          cached = was.cached;
          is = was.is;
        })
  ]

  own_low : (low : Option Place) → IsSome (bytes_at n own low) → IfSome low (λ place. IsSome (low_bytes n place.0))
  own_low None there = tt
  own_low (Some place) there = there

  loaded_low : AreLow n (lows_of after)
  loaded_low = by table refl (own_low loaded.low (there_some _ (bytes_at n own loaded.low) built)) (AreLow-Keeps (lows_of t) (users_for res.kind own) m n (kept (lows_of t)) is.low) where
    by : (x : Table) → table ≡ x → IfSome loaded.low (λ place. IsSome (low_bytes n place.0)) → AreLow n (lows_of t) → AreLow n (lows_of (with_rows t x (entered (rows_in t x) name loaded)))
    by Models at at_own all =
        All-append (λ (p : ℕ). IsSome (low_bytes n p)) (lows_in (entered t.models name loaded)) (lows_in t.sounds)
        (lows-entered (λ (p : ℕ). IsSome (low_bytes n p)) t.models name loaded at_own (All-front (λ (p : ℕ). IsSome (low_bytes n p)) (lows_in t.models) (lows_in t.sounds) all)) (All-back (λ (p : ℕ). IsSome (low_bytes n p)) (lows_in t.models) (lows_in t.sounds) all)
    by Sounds at at_own all =
        All-append (λ (p : ℕ). IsSome (low_bytes n p)) (lows_in t.models) (lows_in (entered t.sounds name loaded)) (All-front (λ (p : ℕ). IsSome (low_bytes n p)) (lows_in t.models) (lows_in t.sounds) all)
        (lows-entered (λ (p : ℕ). IsSome (low_bytes n p)) t.sounds name loaded at_own (All-back (λ (p : ℕ). IsSome (low_bytes n p)) (lows_in t.models) (lows_in t.sounds) all))

  few_after : (other : Table) → length (rows_in after other) ≤ most_of other
  few_after other = by table other room is.few where
    entered_few : (x : Table) → slot_for name (rows_in t x) < most_of x → length (rows_in t x) ≤ most_of x → length (entered (rows_in t x) name loaded) ≤ most_of x
    entered_few x below few = entered_within (rows_in t x) name loaded (most_of x) below few

    by : (x other : Table) → slot_for name (rows_in t x) < most_of x → ((o : Table) → length (rows_in t o) ≤ most_of o)
        → length (rows_in (with_rows t x (entered (rows_in t x) name loaded)) other) ≤ most_of other
    by Models Models below few = entered_few Models below (few Models)
    by Models Sounds below few = few Sounds
    by Sounds Models below few = few Models
    by Sounds Sounds below few = entered_few Sounds below (few Sounds)

  loaded_image : (other : Table) (word : List ℕ) (slot : ℕ) (row : Loaded) → found_in word (rows_in after other) ≡ Some (slot, row)
      → IfSome (bytes_at n (user_of other slot) row.low) (IsImageOf t.speed mounts other (file_of other word) row)
  loaded_image other word slot row found =
      row_case other word slot row found (omega (arith, found_within (rows_in after other) word slot row found, few_after other))
      (λ at named slots new. rw (at, named, slots, new) (there_if _ (bytes_at n own loaded.low) built))
      (λ old off. row_image t m n is (kept (lows_of t)) other word slot row old (not_made res.kind own (user_of other slot) off))

  speed_same : after.speed ≡ t.speed
  speed_same = by table where
    by : (x : Table) → (with_rows t x (entered rows name loaded)).speed ≡ t.speed
    by Models = refl
    by Sounds = refl

  pub held_loaded : AreHeld mounts (with_rows t table (entered (rows_in t table) name (loaded_of res))) n
  held_loaded = record {
    users = rw (kept (lows_of t)).count is.users;
    few = few_after;
    cached = loaded_user;
    low = loaded_low;
    images = λ other word slot row found. rw speed_same (loaded_image other word slot row found);
  }

-- New tables are held over a cache with no blocks.
no_found : (speed : ℕ) (table : Table) (name : List ℕ) (slot : ℕ) (loaded : Loaded) → found_in name (rows_in (no_resources speed) table) ≡ Some (slot, loaded) → ⊥
no_found speed Models name slot loaded found = (let within = found_within [] name slot loaded found in omega (arith, within))
no_found speed Sounds name slot loaded found = (let within = found_within [] name slot loaded found in omega (arith, within))

none_few : (speed : ℕ) (table : Table) → length (rows_in (no_resources speed) table) ≤ most_of table
none_few speed Models = omega arith
none_few speed Sounds = omega arith

no_held : (c : Cache) (user : ℕ) (b : CacheBlock) → c.blocks ≡ [] → held c user ≡ Some b → ⊥
unfolding held
no_held c user b none has = (let found : option_map unplaced (find_block user []) ≡ Some b = ap (λ bs. option_map unplaced (find_block user bs)) (sym none) ∙ has in absurd (cc))

pub AreHeld-new : (mounts : List (Option Mount)) (speed : ℕ) (m : Memory) → m.cache.blocks ≡ [] → 768 ≤ m.users → AreHeld mounts (no_resources speed) m
AreHeld-new mounts speed m blocks users = record {
  users = users;
  few = none_few speed;
  cached = λ user b has. absurd (no_held m.cache user b blocks has);
  low = All-nil (λ (p : ℕ). IsSome (low_bytes m p));
  images = λ table name slot loaded found. absurd (no_found speed table name slot loaded found);
}

-- Each low place of a table is that of a low block.
pub AreHeld-lows : (mounts : List (Option Mount)) (t : Resources) (m : Memory) → AreHeld mounts t m → AreLow m (lows_of t)
AreHeld-lows mounts t m is = is.low

-- What is held is there.
pub AreHeld-there : (mounts : List (Option Mount)) (t : Resources) (m : Memory) → AreHeld mounts t m → AreThere t m
AreHeld-there mounts t m is = (mounts, is)

-- `#[tactic(auto, using(res_table::proofs::Holding::holding_laws))]`
pub ruleset holding_laws = (AreHeld-new, AreHeld-Keeps, AreHeld-there, AreHeld-lows)
