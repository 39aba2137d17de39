-- The path: its folders with what they tell and their counts, and its mounts, from its front on.
use Rattle.std.specs.Prelude.{◌≡◌, ◌+◌, ◌-◌, ◌*◌, ◌<◌, ◌≤◌, ℕ, List, [], ◌∷◌, ◌++◌, All, length, map, slice_get}
use Rattle.std.specs.Prelude.{Option, Some, option_map, option_and_then, Result}
use Rattle.std.specs.Option.{option_flatten}
use Rattle.outside_io.specs.Files.{File}
use Rattle.pack_files.specs.declared.filter.Filter.{Filter}
use Rattle.search_paths.specs.declared.answers.MountError.{MountError}
use Rattle.search_paths.specs.declared.answers.MountRow.{MountRow}
use Rattle.search_paths.specs.declared.mounted.Mounted.{Mounted}
use Rattle.search_paths.specs.Answers.{IsCaused}
use Rattle.search_paths.specs.Calls.{Asks}
use Rattle.search_paths.specs.Mounts.{Mount}
use Rattle.search_paths.specs.Kept.{folder_of, row_of, mount_of, IsDirectory, IsFiltered}

-- the folders that are held, each at its number, and what is kept of the mounts, from the front of the path on
pub record PathState (F : Type 0) : Type 0 where
  pub folders : List F
  pub mounts : List Mounted

-- how the mounts are listed
abbrev pub rows_of : {F : Type 0} → PathState F → List MountRow
rows_of path = map row_of path.mounts

-- a count of each folder
abbrev pub counts_of : {F : Type 0} → (F → ℕ) → PathState F → List ℕ
counts_of count path = map count path.folders

-- the values, where each is there
abbrev pub all_some : {X : Type 0} → List (Option X) → Option (List X)
all_some [] = Some []
all_some (x ∷ xs) = option_and_then (λ first. option_map (λ rest. first ∷ rest) (all_some xs)) x

module _ {F : Type 0} (files : F → Option (List File)) where
  -- what each folder tells of its files
  abbrev pub told_of : PathState F → List (Option (List File))
  told_of path = map files path.folders

  -- each mount, where its folder tells its files
  abbrev pub told_mounts : PathState F → List (Option Mount)
  told_mounts path = map (mount_of (told_of path)) path.mounts

  abbrev pub mount_at : ℕ → PathState F → Option Mount
  mount_at number path = option_flatten (slice_get (told_mounts path) number)

  -- the mounts, where all of their folders tell their files
  abbrev pub mounts_of : PathState F → Option (List Mount)
  mounts_of path = all_some (told_mounts path)

-- At most 65536 folders, and 33 mounts for each. The folder of a mount is there, and a directory is the one that it has.
-- Each folder has a filter, by which its packs may have each of their names.
pub record IsPath {F : Type 0} (files : F → Option (List File)) (filters : List Filter) (path : PathState F) : Type 0 where
  pub most : length path.folders ≤ 65536
  pub few : length path.mounts ≤ 33 * length path.folders
  pub inside : All (λ mounted. folder_of mounted < length path.folders) path.mounts
  pub read : All (IsDirectory (told_of files path)) path.mounts
  pub one_each : length filters ≡ length path.folders
  pub filtered : All (IsFiltered filters) path.mounts

-- the mounts, and what the folders tell, are as before
pub record SamePath {F : Type 0} (files : F → Option (List File)) (before after : PathState F) : Type 0 where
  pub rows : rows_of after ≡ rows_of before
  pub mounts : told_mounts files after ≡ told_mounts files before
  pub told : told_of files after ≡ told_of files before

-- A folder is kept last: this is what it is now. It tells what it told, its faults don't fall, and a fault has its cause.
-- It was asked for its packs, of which as many are mounted as the path has mounts more, but for the folder itself.
pub record AddsFolder {F : Type 0} (files : F → Option (List File)) (faults calls : F → ℕ) (folder : F)
    (before after : PathState F) (result : Result (Unit {0}) MountError) : Type 0 where
  pub now : F
  pub last : after.folders ≡ before.folders ++ now ∷ []
  pub told : files now ≡ files folder
  pub fault_count : faults folder ≤ faults now
  pub asks : Asks files calls (length after.mounts - (length before.mounts + 1)) folder now result
  pub caused : IsCaused (faults folder) (faults now) result
