-- What is forgotten where the low hunk is freed to a level, and what is held after that.
use Rattle.std.proofs.Common.{◌≡◌, ℕ, zero, suc, ◌+◌, ◌-◌, ◌<◌, ◌≤◌, inl, inr, Bool, true, false, cond, ltb, List, [], ◌∷◌, length, Option, Some, None, refl, sym, ap, subst, ◌∙◌, arith}
use Rattle.std.specs.Prelude.{All, IfSome, IsSome, slice_get, option_map, option_and_then, bytes_eq, position}
use Rattle.std.specs.List.{AllByRecursion}
use Rattle.std.specs.Map.{keys_of}
use Rattle.std.proofs.lemmas.Bool.{ltb-true}
use Rattle.std.proofs.lemmas.Bool.Decides.{eqb_tells}
use Rattle.std.proofs.lemmas.List.Elements.{All-append, All-nil}
use Rattle.std.proofs.lemmas.Option.{slice_get_cases}
use Rattle.indexmap.specs.IndexMap.{set_value_at}
use Rattle.mem_model.specs.Blocks.{HunkBlock}
use Rattle.mem_model.specs.Cache.{peek_bytes}
use Rattle.mem_model.specs.Hunk.{bytes_above, bytes_from, cut_above, cut_from, low_bytes}
use Rattle.mem_model.specs.Keeps.{Keeps}
use Rattle.mem_model.specs.Laid.{AreLowBlocks, IsHunkBlock, Laid}
use Rattle.mem_model.specs.Memory.{Memory}
use Rattle.mem_model.specs.Operations.{low_cut, low_free}
use Rattle.mem_model.specs.declared.answers.Place.{Place}
use Rattle.mem_model.proofs.CacheLaws.{keeps-low_free, users-low_free}
use Rattle.mem_model.proofs.Keeping.{Keeps-low_free}
use Rattle.mem_model.proofs.Untouched.{left-with_event}
use Rattle.search_paths.specs.Mounts.{Mount}
use Rattle.res_table.specs.declared.kinds.Table.{Table}
use Rattle.res_table.specs.declared.kinds.Table.TheVariants.{Models, Sounds}
use Rattle.res_table.specs.declared.slots.Loaded.{Loaded}
use Rattle.res_table.specs.Forgotten.{forgotten, left_below, low_below, rows_below}
use Rattle.res_table.specs.Held.{AreHeld, IsImageOf, IsSlotUser, bytes_at, lows_in, lows_of}
use Rattle.res_table.specs.Images.{file_of}
use Rattle.res_table.specs.Resources.{Resources, rows_in}
use Rattle.res_table.specs.Tables.{SlotTable, found_in, most_of, slot_of, user_of}
use Rattle.res_table.proofs.Acquiring.{not_held}
use Rattle.res_table.proofs.Entering.{Found, Row, found_within, some}
use Rattle.res_table.proofs.Holding.{AreHeld-Keeps, All-back, All-front, lows_parts, own_lows}

-- The rows are gone over from the first on.
abbrev row_below : (level : ℕ) → Row → Row
row_below level row = (row.0, left_below level row.1)

abbrev pub below_to : (level count : ℕ) → List Row → List Row
below_to level zero rows = rows
below_to level (suc count) [] = []
below_to level (suc count) (row ∷ rows) = row_below level row ∷ below_to level count rows

below-next : (level count : ℕ) (rows : List Row) → slice_get (below_to level count rows) count ≡ slice_get rows count
below-next level zero rows = refl
below-next level (suc count) [] = refl
below-next level (suc count) (row ∷ rows) = below-next level count rows

below-set : (level count : ℕ) (rows : List Row) (row : Row) → slice_get rows count ≡ Some row
    → set_value_at (below_to level count rows) count (left_below level row.1) ≡ below_to level (suc count) rows
below-set level zero [] row there = absurd (cc)
below-set level zero (first ∷ rows) row there =
    let same : first ≡ row = cc in
    ap (λ (r : Row). (first.0, left_below level r.1) ∷ rows) (sym same)
below-set level (suc count) [] row there = absurd (cc)
below-set level (suc count) (first ∷ rows) row there = ap (λ (later : List Row). row_below level first ∷ later) (below-set level count rows row there)

pub below-all : (level : ℕ) (rows : List Row) → below_to level (length rows) rows ≡ rows_below level rows
below-all level [] = refl
below-all level (row ∷ rows) = ap (λ (later : List Row). row_below level row ∷ later) (below-all level rows)

pub length-below_to : (level count : ℕ) (rows : List Row) → length (below_to level count rows) ≡ length rows
length-below_to level zero rows = refl
length-below_to level (suc count) [] = refl
length-below_to level (suc count) (row ∷ rows) = ap suc (length-below_to level count rows)

-- A table whose first rows are so, and then the next one.
pub below-step : (level count : ℕ) (start now new : SlotTable) → count < length start.rows → now ≡ record start { rows = below_to level count start.rows }
    → IfSome (slice_get now.rows count) (λ row. new ≡ record now { rows = set_value_at now.rows count (left_below level row.1) })
    → new ≡ record start { rows = below_to level (count + 1) start.rows }
below-step level count start now new within is set = by (slice_get start.rows count) refl (rw (is, below-next level count start.rows) at set) where
  by : (row : Option Row) → slice_get start.rows count ≡ row
      → IfSome row (λ row. new ≡ record start { rows = set_value_at (below_to level count start.rows) count (left_below level row.1) })
      → new ≡ record start { rows = below_to level (count + 1) start.rows }
  by None past h = elim (slice_get_cases start.rows count).1 [
    | inl there ↦ (let row = there.2 in absurd (cc))
    | inr off ↦ absurd (omega (arith, within, off.0))
  ]
  by (Some row) there h = h ∙ ap (λ (rows : List Row). record start { rows = rows }) (below-set level count start.rows row there ∙ ap (λ n. below_to level n start.rows) (let e : suc count ≡ count + 1 = omega arith in e))

length-below : (level : ℕ) (rows : List Row) → length (rows_below level rows) ≡ length rows
length-below level [] = refl
length-below level (row ∷ rows) = ap suc (length-below level rows)

-- A name has its slot still, with what is left there.
abbrev left_found : (level : ℕ) → Found → Found
left_found level found = (found.0, left_below level found.1)

keys-below : (level : ℕ) (rows : List Row) → keys_of (rows_below level rows) ≡ keys_of rows
keys-below level [] = refl
keys-below level (row ∷ rows) = ap (λ (keys : List (List ℕ)). row.0 ∷ keys) (keys-below level rows)

row-below : (level : ℕ) (rows : List Row) (slot : ℕ) → slice_get (rows_below level rows) slot ≡ option_map (row_below level) (slice_get rows slot)
row-below level [] slot = refl
row-below level (row ∷ rows) zero = refl
row-below level (row ∷ rows) (suc slot) = row-below level rows slot

abbrev at_slot : List Row → ℕ → Option Found
at_slot rows slot = option_map {U = Found} (λ row. (slot, row.1)) (slice_get rows slot)

found-below : (level : ℕ) (name : List ℕ) (rows : List Row) → found_in name (rows_below level rows) ≡ option_map (left_found level) (found_in name rows)
found-below level name rows = ap (λ keys. option_and_then (at_slot (rows_below level rows)) (position (bytes_eq name) keys)) (keys-below level rows) ∙ by (slot_of name rows) where
  at_row : (slot : ℕ) (row left : Option Row) → left ≡ option_map (row_below level) row
      → option_map {U = Found} (λ r. (slot, r.1)) left ≡ option_map (left_found level) (option_map {U = Found} (λ r. (slot, r.1)) row)
  at_row slot None left is = rw is refl
  at_row slot (Some r) left is = rw is refl

  by : (slot : Option ℕ) → option_and_then (at_slot (rows_below level rows)) slot ≡ option_map (left_found level) (option_and_then (at_slot rows) slot)
  by None = refl
  by (Some slot) = at_row slot (slice_get rows slot) _ (row-below level rows slot)

found-forgotten : (level : ℕ) (t : Resources) (table : Table) (name : List ℕ) → found_in name (rows_in (forgotten level t) table) ≡ option_map (left_found level) (found_in name (rows_in t table))
found-forgotten level t Models name = found-below level name t.models
found-forgotten level t Sounds name = found-below level name t.sounds

-- what is found after was found before, with its low place
record WasFound (level : ℕ) (t : Resources) (table : Table) (name : List ℕ) (slot : ℕ) (loaded : Loaded) : Type 0 where
  was : Loaded
  found : found_in name (rows_in t table) ≡ some slot was
  left : loaded ≡ left_below level was

was_found : (level : ℕ) (t : Resources) (table : Table) (name : List ℕ) (slot : ℕ) (loaded : Loaded) → found_in name (rows_in (forgotten level t) table) ≡ some slot loaded
    → WasFound level t table name slot loaded
was_found level t table name slot loaded after = by (found_in name (rows_in t table)) refl (sym (found-forgotten level t table name) ∙ after) where
  by : (o : Option Found) → found_in name (rows_in t table) ≡ o → option_map (left_found level) o ≡ some slot loaded → WasFound level t table name slot loaded
  by None is h = absurd (cc)
  by (Some f) is h =
      let both : ◌≡◌ {A = Found} (left_found level f) (slot, loaded) = cc in
      let slots : f.0 ≡ slot = ap (λ (g : Found). g.0) both in
      record { was = f.1; found = is ∙ ap (λ n. some n f.1) slots; left = sym (ap (λ (g : Found). g.1) both) }

-- what is loaded in a slot
row_found : (name : List ℕ) (rows : List Row) (slot : ℕ) (loaded : Loaded) → found_in name rows ≡ some slot loaded → option_map (λ (row : Row). row.1) (slice_get rows slot) ≡ Some loaded
row_found name rows slot loaded found = by (slot_of name rows) found where
  at_row : (at : ℕ) (row : Option Row) → slice_get rows at ≡ row → option_map {U = Found} (λ r. (at, r.1)) row ≡ some slot loaded
      → option_map (λ (row : Row). row.1) (slice_get rows slot) ≡ Some loaded
  at_row at None is h = absurd (cc)
  at_row at (Some row) is h =
      let both : ◌≡◌ {A = Found} (at, row.1) (slot, loaded) = cc in
      let slots : at ≡ slot = ap (λ (g : Found). g.0) both in
      let same : row.1 ≡ loaded = ap (λ (g : Found). g.1) both in
      ap (λ n. option_map (λ (r : Row). r.1) (slice_get rows n)) (sym slots) ∙ ap (option_map (λ (r : Row). r.1)) is ∙ ap Some same

  by : (at : Option ℕ) → option_and_then (at_slot rows) at ≡ some slot loaded → option_map (λ (row : Row). row.1) (slice_get rows slot) ≡ Some loaded
  by None h = absurd (cc)
  by (Some at) h = at_row at (slice_get rows at) refl h

-- slots of one user are one slot
one_slot : (P : Table → ℕ → Type 0) (table other : Table) (slot at : ℕ) → slot < most_of table → at < most_of other → user_of table slot ≡ user_of other at → P other at → P table slot
one_slot P Models Models slot at within below same p = subst (P Models) (sym same) p
one_slot P Sounds Sounds slot at within below same p = subst (P Sounds) (let e : at ≡ slot = omega (arith, same) in e) p
one_slot P Models Sounds slot at within below same p = absurd (omega (arith, same, within))
one_slot P Sounds Models slot at within below same p = absurd (omega (arith, same, below))

-- A resource that lies low has no block of the cache.
module _ {mounts : List (Option Mount)} (t : Resources) (m : Memory) (is : AreHeld mounts t m) where
  no_block : (table : Table) (name : List ℕ) (slot : ℕ) (loaded : Loaded) (place : Place) → found_in name (rows_in t table) ≡ some slot loaded → loaded.low ≡ Some place
      → peek_bytes m.cache (user_of table slot) ≡ None
  no_block table name slot loaded place found low = not_held m.cache (user_of table slot) (λ b has.
      let at = is.cached (user_of table slot) b has in
      let within : slot < most_of table = omega (arith, found_within (rows_in t table) name slot loaded found, is.few table) in
      let below : at.slot < most_of at.table = omega (arith, found_within (rows_in t at.table) at.name at.slot at.loaded at.found, is.few at.table) in
      let here = one_slot (λ x n. option_map (λ (row : Row). row.1) (slice_get (rows_in t x) n) ≡ Some at.loaded) table at.table slot at.slot within below at.is
      (row_found at.name (rows_in t at.table) at.slot at.loaded at.found) in
      let both : Some loaded ≡ Some at.loaded = sym (row_found name (rows_in t table) slot loaded found) ∙ here in
      let same : loaded ≡ at.loaded = cc in
      let none : Some place ≡ None = sym low ∙ ap (λ (l : Loaded). l.low) same ∙ at.cached in
      absurd (cc))

-- The low places of what is left are those below the level.
lows-below : (P Q : ℕ → Type 0) (level : ℕ) → ((place : ℕ) → place - 16 < level → P place → Q place) → (rows : List Row) → All P (lows_in rows) → All Q (lows_in (rows_below level rows))
lows-below P Q level pass [] all = All-nil Q
lows-below P Q level pass (row ∷ rows) all =
    let parts = lows_parts P row.1.low (lows_in rows) all in
    own_lows Q (low_below level row.1.low) (lows_in (rows_below level rows)) (own row.1.low parts.0) (lows-below P Q level pass rows parts.1) where
      tested : (place : Place) (b : Bool) → ltb (place.0 - 16) level ≡ b → P place.0 → IfSome (cond b (Some place) None) (λ (p : Place). Q p.0)
      tested place true is p = pass place.0 (ltb-true (place.0 - 16) level is) p
      tested place false is p = tt

      own : (low : Option Place) → IfSome low (λ (p : Place). P p.0) → IfSome (low_below level low) (λ (p : Place). Q p.0)
      own None p = tt
      own (Some place) p = tested place (ltb (place.0 - 16) level) refl p

lows-forgotten : (P Q : ℕ → Type 0) (level : ℕ) → ((place : ℕ) → place - 16 < level → P place → Q place) → (t : Resources) → All P (lows_of t) → All Q (lows_of (forgotten level t))
lows-forgotten P Q level pass t all =
    All-append Q (lows_in (rows_below level t.models)) (lows_in (rows_below level t.sounds)) (lows-below P Q level pass t.models (All-front P (lows_in t.models) (lows_in t.sounds) all))
    (lows-below P Q level pass t.sounds (All-back P (lows_in t.models) (lows_in t.sounds) all))

-- What is held is held still of what is left.
module _ (mounts : List (Option Mount)) (t : Resources) (m : Memory) (level : ℕ) (is : AreHeld mounts t m) where
  few_left : (table : Table) → length (rows_in (forgotten level t) table) ≤ most_of table
  few_left Models = omega (arith, length-below level t.models, is.few Models)
  few_left Sounds = omega (arith, length-below level t.sounds, is.few Sounds)

  user_left : (user : ℕ) → IsSlotUser t user → IsSlotUser (forgotten level t) user
  user_left user was = record {
    table = was.table;
    name = was.name;
    slot = was.slot;
    loaded = left_below level was.loaded;
    found = found-forgotten level t was.table was.name ∙ ap (option_map (left_found level)) was.found;
    cached = ap (low_below level) was.cached;
    is = was.is;
  }

  image_left : (table : Table) (name : List ℕ) (slot : ℕ) (was : Loaded) → found_in name (rows_in t table) ≡ some slot was
      → IfSome (bytes_at m (user_of table slot) (left_below level was).low) (IsImageOf t.speed mounts table (file_of table name) (left_below level was))
  image_left table name slot was found = by was.low refl (is.images table name slot was found) where
    image : {bytes : List ℕ} → IsImageOf t.speed mounts table (file_of table name) was bytes → IsImageOf t.speed mounts table (file_of table name) (left_below level was) bytes
    image i = record { source = i.source; small = i.small; kind = i.kind; image = i.image; fits = i.fits; told = i.told }

    images : (o : Option (List ℕ)) → IfSome o (IsImageOf t.speed mounts table (file_of table name) was) → IfSome o (IsImageOf t.speed mounts table (file_of table name) (left_below level was))
    images None i = tt
    images (Some bytes) i = image i

    tested : (place : Place) → was.low ≡ Some place → (b : Bool) → IfSome (low_bytes m place.0) (IsImageOf t.speed mounts table (file_of table name) was)
        → IfSome (bytes_at m (user_of table slot) (cond b (Some place) None)) (IsImageOf t.speed mounts table (file_of table name) (left_below level was))
    tested place low true there = images (low_bytes m place.0) there
    tested place low false there = rw (no_block t m is table name slot was place found low) tt

    by : (low : Option Place) → was.low ≡ low → IfSome (bytes_at m (user_of table slot) low) (IsImageOf t.speed mounts table (file_of table name) was)
        → IfSome (bytes_at m (user_of table slot) (low_below level low)) (IsImageOf t.speed mounts table (file_of table name) (left_below level was))
    by None low there = images (peek_bytes m.cache (user_of table slot)) there
    by (Some place) low there = tested place low (ltb (place.0 - 16) level) there

  held_left : AreHeld mounts (forgotten level t) m
  held_left = record {
    users = is.users;
    few = few_left;
    cached = λ user b has. user_left user (is.cached user b has);
    low = lows-forgotten (λ p. IsSome (low_bytes m p)) (λ p. IsSome (low_bytes m p)) level (λ place below there. there) t is.low;
    images = λ table name slot loaded after.
        let was = was_found level t table name slot loaded after in
        rw was.left (image_left table name slot was.was was.found);
  }

-- No block of the low hunk goes over a lawful mark.
some_rest : (b : HunkBlock) (o : Option (List HunkBlock)) → IsSome (option_map (λ kept. b ∷ kept) o) → IsSome o
some_rest b None h = absurd (cc)
some_rest b (Some kept) h = refl

mark_behind : (start : ℕ) (blocks : List HunkBlock) (mark : ℕ) → IsSome (cut_from start blocks mark) → start ≤ mark
mark_behind start [] mark cut = elim (eqb_tells start mark) [
  | inl at ↦ omega (arith, at.1)
  | inr off ↦ (let none = rw off.0 at cut in absurd (cc))
]
mark_behind start (b ∷ bs) mark cut = elim (eqb_tells start mark) [
  | inl at ↦ omega (arith, at.1)
  | inr off ↦ omega (arith, mark_behind (start + b.size) bs mark (some_rest b (cut_from (start + b.size) bs mark) (rw off.0 at cut)))
]

place_behind : (start : ℕ) (blocks : List HunkBlock) (place : ℕ) → IsSome (bytes_from start blocks place) → start + 16 ≤ place
place_behind start [] place there = absurd (cc)
place_behind start (b ∷ bs) place there = elim (eqb_tells (start + 16) place) [
  | inl at ↦ omega (arith, at.1)
  | inr off ↦ omega (arith, place_behind (start + b.size) bs place (rw off.0 at there))
]

below_from : (start : ℕ) (blocks : List HunkBlock) (mark place : ℕ) → AllByRecursion IsHunkBlock blocks → IsSome (cut_from start blocks mark) → place - 16 < mark
    → IsSome (bytes_from start blocks place) → place ≤ mark
below_from start [] mark place all cut below there = absurd (cc)
below_from start (b ∷ bs) mark place all cut below there = elim (eqb_tells start mark) [
  | inl end ↦ absurd (omega (arith, end.1, place_behind start (b ∷ bs) place there))
  | inr on ↦
      (let rest = some_rest b (cut_from (start + b.size) bs mark) (rw on.0 at cut) in
      elim (eqb_tells (start + 16) place) [
        | inl at ↦ omega (arith, at.1, all.0.header, mark_behind (start + b.size) bs mark rest)
        | inr off ↦ below_from (start + b.size) bs mark place all.1 rest below (rw off.0 at there)
      ])
]

below_above : (low : List HunkBlock) (mark place : ℕ) → AreLowBlocks low → IsSome (cut_above low mark) → place - 16 < mark → IsSome (bytes_above low place) → place ≤ mark
below_above [] mark place laid cut below there = absurd laid
below_above (zone ∷ blocks) mark place laid cut below there = below_from zone.size blocks mark place laid.1 (some_rest zone (cut_from zone.size blocks mark) cut) below there

below_mark : (m : Memory) (mark place : ℕ) → Laid m → IsSome (cut_above m.low mark) → place - 16 < mark → IsSome (low_bytes m place) → place ≤ mark
unfolding low_bytes
below_mark m mark place laid cut below there = below_above m.low mark place laid.low cut below there

-- At any other mark the low hunk stays.
low_stays : (m : Memory) (mark : ℕ) → cut_above m.low mark ≡ None → (low_free m mark).after.low ≡ m.low
unfolding low_free
low_stays m mark none = left-with_event (λ (n : Memory). n.low) (λ n events. refl) _ _ ∙ ap (λ (kept : Option (List HunkBlock)). (low_cut m mark kept).after.low) none

low_bytes-stays : (m n : Memory) (place : ℕ) → n.low ≡ m.low → low_bytes n place ≡ low_bytes m place
unfolding low_bytes
low_bytes-stays m n place same = ap (λ (low : List HunkBlock). bytes_above low place) same

-- For callers: a freeing of the low hunk to a level keeps the blocks of what is left, and so what is held.
module _ (mounts : List (Option Mount)) (t : Resources) (m : Memory) (level : ℕ) (is : AreHeld mounts t m) (laid : Laid m) where
  pub Keeps-forgotten : Keeps (lows_of (forgotten level t)) [] m (low_free m level).after
  Keeps-forgotten = by (cut_above m.low level) refl where
    by : (kept : Option (List HunkBlock)) → cut_above m.low level ≡ kept → Keeps (lows_of (forgotten level t)) [] m (low_free m level).after
    by None none = record {
      low = λ place bytes in_table h. low_bytes-stays m (low_free m level).after place (low_stays m level none) ∙ h;
      users = λ user b other h. (keeps-low_free m level laid).others user b tt h;
      count = users-low_free m level;
    }
    by (Some kept) cut =
        let lawful : IsSome (cut_above m.low level) = rw cut refl in
        Keeps-low_free (lows_of (forgotten level t)) [] m level laid
        (lows-forgotten (λ p. IsSome (low_bytes m p)) (λ p. p ≤ level) level (λ place below there. below_mark m level place laid lawful below there) t is.low)

  pub AreHeld-forgotten : AreHeld mounts (forgotten level t) (low_free m level).after
  AreHeld-forgotten = AreHeld-Keeps mounts (forgotten level t) m (low_free m level).after (held_left mounts t m level is) Keeps-forgotten

-- `#[tactic(auto, using(res_table::proofs::Forgetting::forgetting_laws))]`
pub ruleset forgetting_laws = (AreHeld-forgotten, Keeps-forgotten)
