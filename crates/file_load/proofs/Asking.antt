-- The calls of a load, by those of its search and of its reading.
use Prim.Native.Nat.{zero, suc}
use Rattle.std.proofs.Common.{◌≡◌, ◌<◌, ℕ, false, List, [], ◌∷◌, ◌++◌, length, take, Option, Some, None, IfSome, Result, Ok, refl, sym, arith}
use Rattle.std.specs.Prelude.{slice_get, option_map, IfOk}
use Rattle.std.proofs.lemmas.List.{append-nil}
use Rattle.search_paths.specs.declared.answers.FileRef.{FileRef}
use Rattle.search_paths.specs.declared.answers.FolderFault.{FolderFault}
use Rattle.search_paths.specs.declared.answers.MountRow.{MountRow}
use Rattle.search_paths.specs.Answers.{placed, IsFirstOf, AsksInOrder, folders_among, folder_in}
use Rattle.search_paths.specs.Counts.{CallsOnce}
use Rattle.search_paths.specs.Mounts.{FileAt, Mount, find_told}
use Rattle.search_paths.proofs.Calls.{called_then}
use Rattle.mem_model.specs.declared.answers.RoomError.{RoomError}
use Rattle.mem_model.specs.declared.answers.RoomError.TheVariants as room
use Rattle.file_load.specs.declared.errors.LoadError.{LoadError}
use Rattle.file_load.specs.declared.errors.LoadError.TheVariants as error
use Rattle.file_load.specs.Calls.{IsSearch, was_read, folder_at, AsksFor}
use Rattle.file_load.specs.Files.{IsUnreadable}
use Rattle.file_load.specs.Refusals.{refused}

missing : (rows : List MountRow) (number : ℕ) → number < length rows → slice_get rows number ≡ None → ⊥
missing [] number inside past = omega arith
missing (row ∷ rows) zero inside past = cc
missing (row ∷ rows) (suc number) inside past = missing rows number (omega arith) past

folder_there : {F : Type 0} (calls : F → ℕ) (mid after : List F) (rows : List MountRow) (number : ℕ) → number < length rows → IfSome (slice_get rows number) (λ mount. CallsOnce calls (folder_in mount ∷ []) mid after) → CallsOnce calls (folder_at (slice_get rows number)) mid after
folder_there calls mid after rows number inside once = by (slice_get rows number) refl once
  where
    by : (row : Option MountRow) → slice_get rows number ≡ row → IfSome row (λ mount. CallsOnce calls (folder_in mount ∷ []) mid after) → CallsOnce calls (folder_at row) mid after
    by None past one = absurd (missing rows number inside past)
    by (Some row) here one = one

-- the file that was found is the first
first_of : (told : Option (Option (ℕ × FileAt))) (file : FileRef) → IfSome told (λ found. option_map placed found ≡ Some file) → IfSome told (λ found. Some file ≡ option_map placed found)
first_of None file is = tt
first_of (Some found) file is = sym is

module _ {F : Type 0} (calls : F → ℕ) (name : List ℕ) (mounts : List (Option Mount)) (rows : List MountRow) (before : List F) where
  -- nothing was read
  pub asks_alone : (after : List F) (found : Result (Option FileRef) FolderFault) (end : Option LoadError) → IfOk found (IsFirstOf name mounts) → AsksInOrder calls rows before after found → IsSearch found end → was_read end ≡ false
      → AsksFor calls name mounts rows before after end
  asks_alone after found end first asks search unread = record {
    found = found;
    first = first;
    search = search;
    most = asks.most;
    asked = asks.asked;
    called = rw (unread, append-nil (folders_among (take asks.most rows))) asks.called;
  }

  -- a file was found
  module _ (mid : List F) (file : FileRef) (first : IfSome (find_told name mounts) (λ found. option_map placed found ≡ Some file)) (asks : AsksInOrder calls rows before mid (Ok (Some file))) where
    is_first : IsFirstOf name mounts (Some file)
    is_first = first_of (find_told name mounts) file first

    -- no block is given
    pub asks_refused : (fault : RoomError) → AsksFor calls name mounts rows before mid (Some (refused fault))
    asks_refused (room.NoRoom asked free) = asks_alone mid (Ok (Some file)) (Some (error.NoRoom asked free)) is_first asks (file, refl) refl
    asks_refused room.OutOfMemory = asks_alone mid (Ok (Some file)) (Some error.OutOfMemory) is_first asks (file, refl) refl

    module _ (after : List F) (inside : file.mount < length rows) (once : IfSome (slice_get rows file.mount) (λ mount. CallsOnce calls (folder_in mount ∷ []) mid after)) where
      read : CallsOnce calls (folders_among (take asks.most rows) ++ folder_at (slice_get rows file.mount)) before after
      read = called_then calls (folders_among (take asks.most rows)) (folder_at (slice_get rows file.mount)) before mid after asks.called (folder_there calls mid after rows file.mount inside once)

      -- it is read, or its folder fails
      pub asks_read : AsksFor calls name mounts rows before after None
      asks_read = record { found = Ok (Some file); first = is_first; search = (file, refl); most = asks.most; asked = asks.asked; called = read }

      pub asks_unread : (fault : LoadError) → IsUnreadable fault → AsksFor calls name mounts rows before after (Some fault)
      asks_unread error.NotFound is = absurd is
      asks_unread (error.BeyondPack end whole) is = absurd is
      asks_unread (error.NoRoom asked free) is = absurd is
      asks_unread (error.FolderFault folder at) is = rw is (record { found = Ok (Some file); first = is_first; search = (file, refl); most = asks.most; asked = asks.asked; called = read })
      asks_unread error.OutOfMemory is = absurd is
