-- Acquiring a resource.
use Rattle.std.specs.Prelude.{ℕ, ◌≡◌, Bool, IsTrue, false, nat_lt, if◌then◌else◌, List, length}
use Rattle.std.specs.Prelude.{Option, Some, None}
use Rattle.std.specs.Prelude.{option_map, Result, Ok, Err}
use Rattle.std.specs.Option.{option_or}
use Rattle.base_fields.specs.Names.{base_of}
use Rattle.mem_model.specs.declared.answers.Place.{Place}
use Rattle.mem_model.specs.Answer.{Answered}
use Rattle.mem_model.specs.Cache.{peek_place}
use Rattle.mem_model.specs.Memory.{Memory}
use Rattle.mem_model.specs.Operations.{check}
use Rattle.file_load.specs.Loads.{Loading}
use Rattle.res_table.specs.declared.answers.AcquireError.{AcquireError}
use Rattle.res_table.specs.declared.answers.AcquireError.TheVariants as error
use Rattle.res_table.specs.declared.answers.Res.{Res}
use Rattle.res_table.specs.declared.kinds.Table.{Table}
use Rattle.res_table.specs.declared.slots.Loaded.{Loaded}
use Rattle.res_table.specs.Images.{file_of}
use Rattle.res_table.specs.Loads.{made_of}
use Rattle.res_table.specs.Placed.{low_at}
use Rattle.res_table.specs.Resources.{Resources, rows_in, with_rows}
use Rattle.res_table.specs.Tables.{found_in, most_of, slot_for, user_of, entered}

-- where a resource of a user is, if it is there: at its low place, or in the user's block
abbrev pub place_of : Memory → (user : ℕ) → Option Place → Option ℕ
place_of m user None = peek_place m.cache user
place_of m user (Some place) = Some place.0

-- a resource that is there is used: a block of the cache is checked
abbrev pub used : Memory → (user : ℕ) → Option Place → Memory
used m user None = (check m user).after
used m user (Some place) = m

-- a resource at a place that was loaded before
abbrev pub old_res : Loaded → ℕ → Res
old_res loaded place = record { kind = loaded.kind; size = loaded.size; place = place; loaded = false }

-- what is kept of a resource that was loaded
abbrev pub loaded_of : Res → Loaded
loaded_of res = record { kind = res.kind; size = res.size; low = low_at res.kind res.place }

pub record Acquired : Type 0 where
  pub answer : Result Res AcquireError
  pub table : Resources
  pub after : Memory

module _ (t : Resources) (m : Memory) (table : Table) where
  -- What is answered without the file: a resource that is there, and that there is room for no further name.
  abbrev pub answered_at : Option (ℕ × Loaded) → Option Acquired
  answered_at None =
      if nat_lt (length (rows_in t table)) (most_of table) then None
      else Some (record { answer = Err error.TableFull; table = t; after = m })
  answered_at (Some found) =
      option_map (λ place. record {
        answer = Ok (old_res found.1 place);
        table = t;
        after = used m (user_of table found.0) found.1.low;
      }) (place_of m (user_of table found.0) found.1.low)

  module _ (name : List ℕ) where
    unfoldable pub answered_before : Option Acquired
    answered_before = answered_at (found_in name (rows_in t table))

    -- The name enters the table with its first load, and a later load replaces what is kept.
    abbrev pub with_load : Answered (Result Res AcquireError) → Result Res AcquireError → Acquired
    with_load made (Ok res) = record {
      answer = Ok res;
      table = with_rows t table (entered (rows_in t table) name (loaded_of res));
      after = made.after;
    }
    with_load made (Err e) = record { answer = Err e; table = t; after = made.after }

    -- The file was loaded, and its resource is built for the user of the name's slot.
    unfoldable pub answered_after : Loading → Acquired
    answered_after loading =
        let user = user_of table (slot_for name (rows_in t table)) in
        let made = made_of t.speed table user (base_of (file_of table name)) loading in
        with_load made made.answer

    -- A resource is acquired, with the loading of its file where that is told.
    abbrev pub acquire : Option Loading → Option Acquired
    acquire told = option_or answered_before (option_map answered_after told)

-- what was answered without the file
abbrev pub before_of : Resources → Memory → Result (Option Res) AcquireError → Option Acquired
before_of t m (Ok None) = None
before_of t m (Ok (Some res)) = Some (record { answer = Ok res; table = t; after = m })
before_of t m (Err e) = Some (record { answer = Err e; table = t; after = m })

-- The table after a call: a resource that was loaded is entered, and else it stays.
abbrev pub table_after : Resources → Table → List ℕ → Result Res AcquireError → Resources
table_after t table name (Ok res) =
    if res.loaded then with_rows t table (entered (rows_in t table) name (loaded_of res)) else t
table_after t table name (Err e) = t

pub record IsAcquired (given : Acquired) (result : Result Res AcquireError) (table : Resources) (m : Memory) : Type 0 where
  pub answer : given.answer ≡ result
  pub table_is : table ≡ given.table
  pub after : m ≡ given.after

-- The call acquired as the definition says. Only where the file is needed a fault of a folder and a want of memory end it.
abbrev pub Acquires : (needed : Bool) → Acquired → Result Res AcquireError → Resources → Memory → Type 0
Acquires needed given (Ok res) table m = IsAcquired given (Ok res) table m
Acquires needed given (Err error.TableFull) table m = IsAcquired given (Err error.TableFull) table m
Acquires needed given (Err error.NotFound) table m = IsAcquired given (Err error.NotFound) table m
Acquires needed given (Err (error.BeyondPack end whole)) table m =
    IsAcquired given (Err (error.BeyondPack end whole)) table m
Acquires needed given (Err (error.Bad fault)) table m = IsAcquired given (Err (error.Bad fault)) table m
Acquires needed given (Err (error.NoRoom asked room)) table m = IsAcquired given (Err (error.NoRoom asked room)) table m
Acquires needed given (Err (error.FolderFault folder)) table m = IsTrue needed
Acquires needed given (Err error.OutOfMemory) table m = IsTrue needed
