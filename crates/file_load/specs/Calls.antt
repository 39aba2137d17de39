-- The calls of folders that a load makes.
use Rattle.std.specs.Prelude.{◌≡◌, ℕ, ◌+◌, Bool, true, false, if◌then◌else◌, List, [], ◌∷◌, ◌++◌, take, slice_get}
use Rattle.std.specs.Prelude.{Option, Some, None}
use Rattle.std.specs.Prelude.{IfOk, Result, Ok, Err}
use Rattle.search_paths.specs.declared.answers.FileRef.{FileRef}
use Rattle.search_paths.specs.declared.answers.FolderFault.{FolderFault}
use Rattle.search_paths.specs.declared.answers.MountRow.{MountRow}
use Rattle.search_paths.specs.Answers.{IsFirstOf, HasAsked, folders_among, folder_in}
use Rattle.search_paths.specs.Counts.{CallsOnce}
use Rattle.search_paths.specs.Mounts.{Mount}
use Rattle.file_load.specs.declared.errors.LoadError.{LoadError}
use Rattle.file_load.specs.declared.errors.LoadError.TheVariants as error
use Rattle.file_load.specs.declared.errors.Stage.TheVariants as stage

abbrev pub IsFound : Result (Option FileRef) FolderFault → Type 0
IsFound found = (file : FileRef) × (found ≡ Ok (Some file))

-- what the search answered, by how the load ended: with this error, or with none
abbrev pub IsSearch : Result (Option FileRef) FolderFault → Option LoadError → Type 0
IsSearch found None = IsFound found
IsSearch found (Some error.NotFound) = found ≡ Ok None
IsSearch found (Some (error.BeyondPack end whole)) =
    (file : FileRef) × (found ≡ Ok (Some file)) × (file.offset + file.length ≡ end) × (file.whole ≡ whole)
IsSearch found (Some (error.NoRoom asked room)) = IsFound found
IsSearch found (Some (error.FolderFault folder stage.Find)) = found ≡ Err (record { folder = folder })
IsSearch found (Some (error.FolderFault folder stage.Read)) = IsFound found
IsSearch found (Some error.OutOfMemory) = IsFound found

-- whether the file's bytes were asked for
abbrev pub was_read : Option LoadError → Bool
was_read None = true
was_read (Some error.NotFound) = false
was_read (Some (error.BeyondPack end whole)) = false
was_read (Some (error.NoRoom asked room)) = false
was_read (Some (error.FolderFault folder stage.Find)) = false
was_read (Some (error.FolderFault folder stage.Read)) = true
was_read (Some error.OutOfMemory) = false

-- the folder of a mount that is listed so
abbrev pub folder_at : Option MountRow → List ℕ
folder_at None = []
folder_at (Some mount) = folder_in mount ∷ []

-- the folder that has the bytes of the file that was found
abbrev pub folder_of : List MountRow → Result (Option FileRef) FolderFault → List ℕ
folder_of rows (Ok None) = []
folder_of rows (Ok (Some file)) = folder_at (slice_get rows file.mount)
folder_of rows (Err fault) = []

-- The mounts are asked for the file from the front on, once each, up to the one that has it; and the folder that has its
-- bytes once more where these were asked for.
pub record AsksFor {F : Type 0} (calls : F → ℕ) (name : List ℕ) (mounts : List (Option Mount)) (rows : List MountRow)
    (before after : List F) (end : Option LoadError) : Type 0 where
  pub found : Result (Option FileRef) FolderFault
  pub first : IfOk found (IsFirstOf name mounts)
  pub search : IsSearch found end
  pub most : ℕ
  pub asked : HasAsked rows found most
  pub called : CallsOnce calls
      (folders_among (take most rows) ++ (if was_read end then folder_of rows found else [])) before after
