-- What is acquired.
use Rattle.std.proofs.Common.{◌≡◌, ℕ, ◌+◌, ◌<◌, ◌≤◌, Bool, cond, true, false, List, length, Option, Some, None, Result, Ok, Err, refl, sym, ap, subst, ◌∙◌, arith, inl, inr}
use Rattle.std.specs.Prelude.{nat_lt, slice_get, option_map, option_and_then, unwrap_or, IfSome, is_none, bytes_eq}
use Rattle.std.specs.Option.{option_or}
use Rattle.std.proofs.lemmas.Bool.{ltb-true}
use Rattle.std.proofs.lemmas.Option.{slice_get_cases}
use Rattle.indexmap.proofs.MapLemmas.{Found-position}
use Rattle.mem_model.specs.Answer.{Answered}
use Rattle.mem_model.specs.Blocks.{CacheBlock}
use Rattle.mem_model.specs.Cache.{block_of, peek_bytes, peek_place}
use Rattle.mem_model.specs.Keeps.{held, unplaced}
use Rattle.mem_model.specs.Memory.{Memory, Cache}
use Rattle.mem_model.specs.declared.answers.Place.{Place}
use Rattle.base_fields.specs.Names.{base_of}
use Rattle.search_paths.specs.Mounts.{Mount}
use Rattle.file_load.specs.Loads.{Loading}
use Rattle.res_table.specs.declared.answers.AcquireError.{AcquireError}
use Rattle.res_table.specs.declared.answers.AcquireError.TheVariants as error
use Rattle.res_table.specs.declared.answers.Res.{Res}
use Rattle.res_table.specs.declared.kinds.Table.{Table}
use Rattle.res_table.specs.declared.kinds.Table.TheVariants.{Models, Sounds}
use Rattle.res_table.specs.declared.slots.Loaded.{Loaded}
use Rattle.res_table.proofs.Entering.{found_within}
use Rattle.res_table.proofs.Kept.{kept_same}
use Rattle.res_table.specs.Acquire.{Acquired, Acquires, IsAcquired, answered_after, answered_at, answered_before, loaded_of, place_of}
use Rattle.res_table.specs.Held.{AreHeld}
use Rattle.res_table.specs.Images.{file_of}
use Rattle.res_table.specs.Loads.{IsMadeOf, Makes, made_of}
use Rattle.res_table.specs.Ready.{IsFree}
use Rattle.res_table.specs.Resources.{Resources, rows_in, with_rows}
use Rattle.res_table.specs.Tables.{entered, most_of, slot_for, slot_of, user_of}

-- a user without a place has no bytes
bytes_of_none : (c : Cache) (user : ℕ) → peek_place c user ≡ None → peek_bytes c user ≡ None
unfolding peek_bytes
bytes_of_none c user h = by (block_of c user) h where
  by : (o : Option CacheBlock) → option_map (λ (b : CacheBlock). b.place + 40) o ≡ None → option_map (λ (b : CacheBlock). b.bytes) o ≡ None
  by None e = refl
  by (Some b) e = absurd (cc)

pub not_held : (c : Cache) (user : ℕ) → ((b : CacheBlock) → held c user ≡ Some b → ⊥) → peek_bytes c user ≡ None
unfolding peek_bytes held
not_held c user h = by (block_of c user) h where
  by : (o : Option CacheBlock) → ((b : CacheBlock) → option_map unplaced o ≡ Some b → ⊥) → option_map (λ (b : CacheBlock). b.bytes) o ≡ None
  by None h = refl
  by (Some b) h = absurd (h (unplaced b) refl)

-- the next slot's user is that of no slot
no_next : (t : Resources) (table other : Table) (slot : ℕ) → ((o : Table) → length (rows_in t o) ≤ most_of o) → length (rows_in t table) < most_of table
    → slot < length (rows_in t other) → user_of table (length (rows_in t table)) ≡ user_of other slot → ⊥
no_next t Models Models slot few room within same = absurd (omega (arith, same, within))
no_next t Models Sounds slot few room within same = absurd (omega (arith, same, room))
no_next t Sounds Models slot few room within same = absurd (omega (arith, same, within, few Models))
no_next t Sounds Sounds slot few room within same = absurd (omega (arith, same, within))

nothing : {A : Type 0} (given : ℕ → A) (o : Option ℕ) → option_map given o ≡ None → o ≡ None
nothing given None e = refl
nothing given (Some place) e = absurd (cc)

at_place : {A : Type 0} (m : Memory) (user : ℕ) (low : Option Place) (given : ℕ → A) → option_map given (place_of m user low) ≡ None → peek_bytes m.cache user ≡ None
at_place m user None given h = bytes_of_none m.cache user (nothing given (peek_place m.cache user) h)
at_place m user (Some place) given h = absurd (cc)

-- a slot that was found is there
row_there : (name : List ℕ) (rows : List (List ℕ × Loaded)) (slot : ℕ) → slot_of name rows ≡ Some slot → slice_get rows slot ≡ None → ⊥
row_there name rows slot at past =
    let within = (Found-position (bytes_eq name) rows slot at).within in
    elim (slice_get_cases rows slot).1 [
      | inl there ↦ (let is = there.2 in absurd (cc))
      | inr off ↦ absurd (omega (arith, within, off.0))
    ]

-- Where the file is needed the user of the name's slot has no block.
module _ {mounts : List (Option Mount)} (t : Resources) (m : Memory) (table : Table) (name : List ℕ) (is : AreHeld mounts t m) where
  none_next : length (rows_in t table) < most_of table → peek_bytes m.cache (user_of table (length (rows_in t table))) ≡ None
  none_next room = not_held m.cache (user_of table (length (rows_in t table))) (λ b has.
      let at = is.cached (user_of table (length (rows_in t table))) b has in
      no_next t table at.table at.slot is.few room (found_within (rows_in t at.table) at.name at.slot at.loaded at.found) at.is)

  has_room : answered_at t m table None ≡ None → length (rows_in t table) < most_of table
  has_room before = by (nat_lt (length (rows_in t table)) (most_of table)) refl before where
    by : (b : Bool) → nat_lt (length (rows_in t table)) (most_of table) ≡ b → cond {A = Option Acquired} b None (Some (record { answer = Err error.TableFull; table = t; after = m })) ≡ None
        → length (rows_in t table) < most_of table
    by true is before = ltb-true (length (rows_in t table)) (most_of table) is
    by false is before = absurd (cc)

  absent_at : (slot : Option ℕ) → slot_of name (rows_in t table) ≡ slot
      → answered_at t m table (option_and_then (λ at. option_map (λ row. (at, row.1)) (slice_get (rows_in t table) at)) slot) ≡ None
      → peek_bytes m.cache (user_of table (unwrap_or slot (length (rows_in t table)))) ≡ None
  absent_at None at before = none_next (has_room before)
  absent_at (Some slot) at before = by (slice_get (rows_in t table) slot) refl before where
    by : (row : Option (List ℕ × Loaded)) → slice_get (rows_in t table) slot ≡ row
        → answered_at t m table (option_map (λ row. (slot, row.1)) row) ≡ None → peek_bytes m.cache (user_of table slot) ≡ None
    by None past h = absurd (row_there name (rows_in t table) slot at past)
    by (Some row) there h = at_place m (user_of table slot) row.1.low _ h

  pub absent_user : answered_before t m table name ≡ None → peek_bytes m.cache (user_of table (slot_for name (rows_in t table))) ≡ None
  unfolding answered_before
  absent_user before = absent_at (slot_of name (rows_in t table)) refl before

  -- and is one of the cache's
  user_below : (x : Table) (slot : ℕ) → slot < most_of x → user_of x slot < 768
  user_below Models slot below = omega (arith, below)
  user_below Sounds slot below = omega (arith, below)

  pub free_user : slot_for name (rows_in t table) < most_of table → answered_before t m table name ≡ None → IsFree m (user_of table (slot_for name (rows_in t table)))
  free_user room before = record {
    known = omega (arith, user_below table (slot_for name (rows_in t table)) room, is.users);
    absent = absent_user before;
  }

-- What was answered with it.
module _ (t : Resources) (table : Table) (name : List ℕ) (m : Memory) (before : Option Acquired) (told : Option Loading) (needed : before ≡ None) where
  abbrev make : Loading → Answered (Result Res AcquireError)
  make = made_of t.speed table (user_of table (slot_for name (rows_in t table))) (base_of (file_of table name))

  abbrev Told : Result Res AcquireError → Resources → Memory → Type 0
  Told result after new = IfSome (option_or before (option_map (answered_after t m table name) told)) (λ given. Acquires (is_none before) given result after new)

  made_ok : (res : Res) (new : Memory) (told : Option Loading) → IsMadeOf make told (Ok res) new
      → IfSome (option_map (answered_after t m table name) told) (λ given. IsAcquired given (Ok res) (with_rows t table (entered (rows_in t table) name (loaded_of res))) new)
  unfolding answered_after
  made_ok res new None made = tt
  made_ok res new (Some given) made =
      let answer : (make given).answer ≡ Ok res = ap (λ l. (make l).answer) made.tells ∙ made.made.answer in
      let after : new ≡ (make given).after = made.made.after ∙ ap (λ l. (make l).after) (sym made.tells) in
      rw answer (record { answer = refl; table_is = refl; after = after })

  made_err : (e : AcquireError) (new : Memory) (told : Option Loading) → IsMadeOf make told (Err e) new
      → IfSome (option_map (answered_after t m table name) told) (λ given. IsAcquired given (Err e) t new)
  unfolding answered_after
  made_err e new None made = tt
  made_err e new (Some given) made =
      let answer : (make given).answer ≡ Err e = ap (λ l. (make l).answer) made.tells ∙ made.made.answer in
      let after : new ≡ (make given).after = made.made.after ∙ ap (λ l. (make l).after) (sym made.tells) in
      rw answer (record { answer = refl; table_is = refl; after = after })

  pub later_ok : (res : Res) (new : Memory) → Makes make told (Ok res) new
      → Told (Ok res) (with_rows t table (entered (rows_in t table) name (loaded_of res))) new
  later_ok res new made = rw needed (made_ok res new told made)

  err_later : (e : AcquireError) (new : Memory) → Makes make told (Err e) new → Told (Err e) t new
  err_later error.TableFull new made = absurd made
  err_later error.NotFound new made = rw needed (made_err error.NotFound new told made)
  err_later (error.BeyondPack end whole) new made = rw needed (made_err (error.BeyondPack end whole) new told made)
  err_later (error.Bad fault) new made = rw needed (made_err (error.Bad fault) new told made)
  err_later (error.NoRoom asked room) new made = rw needed (made_err (error.NoRoom asked room) new told made)
  err_later (error.FolderFault folder) new made = rw needed (any (option_map (answered_after t m table name) told)) where
    any : (o : Option Acquired) → IfSome o (λ given. true ≡ true)
    any None = tt
    any (Some given) = refl
  err_later error.OutOfMemory new made = rw needed (any (option_map (answered_after t m table name) told)) where
    any : (o : Option Acquired) → IfSome o (λ given. true ≡ true)
    any None = tt
    any (Some given) = refl

  pub later_err : (e : AcquireError) (new : Memory) (by : Loading → Answered (Result Res AcquireError)) (of : Option Loading) → Makes by of (Err e) new
      → by ≡ make → of ≡ told → Told (Err e) t new
  later_err e new by of made same_make same_told =
      err_later e new (subst (λ (o : Option Loading). Makes make o (Err e) new) same_told
      (subst (λ (mk : Loading → Answered (Result Res AcquireError)). Makes mk of (Err e) new) same_make made))

pub ruleset presence = (Found-position, kept_same)
