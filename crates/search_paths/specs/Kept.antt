-- What is kept of mounts, and what it means by what the folders tell.
use Rattle.std.specs.Prelude.{◌≡◌, ◌<◌, ⊤, IsSomeAnd, ℕ, List, slice_get, Option, Some, option_map, option_and_then, Ok}
use Rattle.std.specs.Option.{option_flatten, ForSome}
use Rattle.outside_io.specs.Files.{File, bytes_of}
use Rattle.pack_files.specs.declared.filter.Filter.{Filter}
use Rattle.pack_files.specs.Filters.{HasRows}
use Rattle.pack_files.specs.Packs.{PackTable, pack_of}
use Rattle.search_paths.specs.declared.answers.MountRow.{MountRow}
use Rattle.search_paths.specs.declared.answers.MountRow.TheVariants as row
use Rattle.search_paths.specs.declared.mounted.Mounted.{Mounted}
use Rattle.search_paths.specs.declared.mounted.Mounted.TheVariants as kept
use Rattle.search_paths.specs.Mounts.{Mount, folder_mount, pack_mount, pack_name}

-- what the folder of this number tells
abbrev pub told_at : ℕ → List (Option (List File)) → Option (List File)
told_at folder told = option_flatten (slice_get told folder)

-- the number of its folder
abbrev pub folder_of : Mounted → ℕ
folder_of (kept.Folder folder) = folder
folder_of (kept.Pack folder pack directory) = folder

-- how it is listed
abbrev pub row_of : Mounted → MountRow
row_of (kept.Folder folder) = row.Folder folder
row_of (kept.Pack folder pack directory) = row.Pack folder pack directory.count

-- the mount, where its folder tells its files
abbrev pub mount_of : List (Option (List File)) → Mounted → Option Mount
mount_of told (kept.Folder folder) = option_map (folder_mount folder) (told_at folder told)
mount_of told (kept.Pack folder pack directory) =
    option_map (λ bytes. pack_mount folder pack bytes directory)
    (option_and_then (bytes_of (pack_name pack)) (told_at folder told))

-- a directory is that of the folder's pack of this number
abbrev pub IsDirectory : List (Option (List File)) → Mounted → Type 0
IsDirectory told mounted = (folder pack : ℕ) (directory : PackTable) → mounted ≡ kept.Pack folder pack directory
    → ForSome (told_at folder told) (λ files. option_map pack_of (bytes_of (pack_name pack) files) ≡ Some (Ok directory))

-- the filter of its folder may have each name of a pack
abbrev pub IsFiltered : List Filter → Mounted → Type 0
IsFiltered filters (kept.Folder folder) = ⊤
IsFiltered filters (kept.Pack folder pack directory) =
    (pack < 32) × IsSomeAnd (slice_get filters folder) (λ filter. HasRows filter.masks.items pack directory.rows)
