-- What the calls of the path answer.
use Rattle.std.specs.Prelude.{◌≡◌, ℕ, ◌+◌, ◌^◌, ◌<◌, ◌≤◌, List, [], ◌∷◌, ◌++◌, length, map, reverse, take, slice_get}
use Rattle.std.specs.Prelude.{slice_range, Option, Some, None, option_map, IfSome, IsOkAnd, Result, Ok, Err, ⊤}
use Rattle.outside_io.specs.Causes.{Rose}
use Rattle.search_paths.specs.declared.answers.FileRef.{FileRef}
use Rattle.search_paths.specs.declared.answers.FolderFault.{FolderFault}
use Rattle.search_paths.specs.declared.answers.MountError.{MountError}
use Rattle.search_paths.specs.declared.answers.MountError.TheVariants as error
use Rattle.search_paths.specs.declared.answers.MountRow.{MountRow}
use Rattle.search_paths.specs.declared.answers.MountRow.TheVariants as row
use Rattle.search_paths.specs.Counts.{CallsOnce}
use Rattle.search_paths.specs.Mounts.{FileAt, Mount, BadPack, bad_pack, file_in, find_told}

-- where a file stands on the path, in the mount of this number
abbrev pub ref_of : ℕ → FileAt → FileRef
ref_of mount file = record { mount = mount; offset = file.offset; length = file.size; whole = file.whole }

-- where a file that was found stands
abbrev pub placed : ℕ × FileAt → FileRef
placed found = ref_of found.0 found.1

-- this is the first file of the name, or there is none, where the mounts tell it
abbrev pub IsFirstOf : List ℕ → List (Option Mount) → Option FileRef → Type 0
IsFirstOf name mounts file = IfSome (find_told name mounts) (λ found. file ≡ option_map placed found)

-- where the mount tells its files, it has a file of this name there
abbrev pub HasFile : List ℕ → FileRef → Option Mount → Type 0
HasFile name file mount = IfSome mount (λ m. option_map (ref_of file.mount) (file_in name m.files) ≡ Some file)

-- these are the file's bytes from `at` on, where it lies inside
abbrev pub IsPart : ℕ → List ℕ → FileAt → Type 0
IsPart at part file = IfSome file.bytes (λ bytes. part ≡ slice_range bytes at (at + length part))

-- where the mount tells its files, these are the bytes of its file of this name from `at` on
abbrev pub IsFilePart : List ℕ → ℕ → List ℕ → Option Mount → Type 0
IsFilePart name at part mount = IfSome mount (λ m. IfSome (file_in name m.files) (IsPart at part))

-- the folders among mounts that are listed so
abbrev pub folders_among : List MountRow → List ℕ
folders_among [] = []
folders_among (row.Folder folder ∷ rows) = folder ∷ folders_among rows
folders_among (row.Pack folder pack count ∷ rows) = folders_among rows

-- How many mounts were asked for a file: those up to the one that has it, or whose folder failed; or all.
abbrev pub HasAsked : List MountRow → Result (Option FileRef) FolderFault → ℕ → Type 0
HasAsked rows (Ok None) most = most ≡ length rows
HasAsked rows (Ok (Some file)) most = most ≡ file.mount + 1
HasAsked rows (Err fault) most = (last : ℕ) × (most ≡ last + 1) × (slice_get rows last ≡ Some (row.Folder fault.folder))

-- The mounts are asked one after another, from the front on: each folder among those that were asked was called once.
pub record AsksInOrder {F : Type 0} (calls : F → ℕ) (rows : List MountRow) (before after : List F)
    (result : Result (Option FileRef) FolderFault) : Type 0 where
  pub most : ℕ
  pub asked : HasAsked rows result most
  pub called : CallsOnce calls (folders_among (take most rows)) before after

-- the folder of a mount that is listed so
abbrev pub folder_in : MountRow → ℕ
folder_in (row.Folder folder) = folder
folder_in (row.Pack folder pack count) = folder

-- how large the numbers are of a file on a path of so many mounts
pub record IsFileRef (mounts : ℕ) (file : FileRef) : Type 0 where
  pub mount : file.mount < mounts
  pub offset : file.offset < 2 ^ 32
  pub length : file.length < 2 ^ 62

-- The mounts of the folder stand in front of those before, or the bad pack is its first. What a fault of the folder and a
-- want of memory say of its packs stands in `Asks`.
abbrev pub IsMounted : Result (List Mount) BadPack → List (Option Mount) → List (Option Mount) → Result (Unit {0}) MountError
    → Type 0
IsMounted own before after (Ok done) = IsOkAnd own (λ mounts. after ≡ map Some mounts ++ before)
IsMounted own before after (Err (error.BadPack folder pack fault)) = own ≡ Err (bad_pack folder pack fault)
IsMounted own before after (Err (error.FolderFault folder)) = ⊤
IsMounted own before after (Err error.OutOfMemory) = ⊤

-- the rows of packs with these counts, the first of this number
abbrev pub pack_rows : ℕ → ℕ → List ℕ → List MountRow
pack_rows folder number [] = []
pack_rows folder number (count ∷ counts) = row.Pack folder number count ∷ pack_rows folder (number + 1) counts

-- the folder's row, and at most 32 of its packs, the last first, stand in front of those before
abbrev pub AddsRows : ℕ → List MountRow → List MountRow → Type 0
AddsRows folder before after =
    (counts : List ℕ) × (length counts ≤ 32) × (after ≡ reverse (pack_rows folder 0 counts) ++ row.Folder folder ∷ before)

-- an error of a folder names the one of this number
abbrev pub IsOfFolder : ℕ → MountError → Type 0
IsOfFolder number (error.BadPack folder pack fault) = (folder ≡ number) × (pack < 32)
IsOfFolder number (error.FolderFault folder) = folder ≡ number
IsOfFolder number error.OutOfMemory = ⊤

-- a fault of the folder comes only where its count rose
abbrev pub IsCaused : ℕ → ℕ → Result (Unit {0}) MountError → Type 0
IsCaused before after (Ok done) = ⊤
IsCaused before after (Err (error.BadPack folder pack fault)) = ⊤
IsCaused before after (Err (error.FolderFault folder)) = Rose before after
IsCaused before after (Err error.OutOfMemory) = ⊤
