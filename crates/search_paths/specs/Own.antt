-- What is kept of a folder while it is mounted, by what it tells itself.
use Rattle.std.specs.Prelude.{◌≡◌, ◌<◌, ℕ, ⊤, List, Option, Some, option_map, IfSome, Result, Ok, Err}
use Rattle.outside_io.specs.Files.{File, bytes_of}
use Rattle.pack_files.specs.declared.faults.PackFault.{PackFault}
use Rattle.pack_files.specs.declared.filter.Filter.{Filter}
use Rattle.pack_files.specs.Filters.{HasRows}
use Rattle.pack_files.specs.Packs.{PackTable, pack_of}
use Rattle.search_paths.specs.declared.answers.MountError.{MountError}
use Rattle.search_paths.specs.declared.answers.MountError.TheVariants as error
use Rattle.search_paths.specs.declared.mounted.Mounted.{Mounted}
use Rattle.search_paths.specs.declared.mounted.Mounted.TheVariants as kept
use Rattle.search_paths.specs.Mounts.{Mount, folder_mount, pack_mount, pack_name}

-- the mount of a folder that tells these files
abbrev pub mount_in : List File → Mounted → Option Mount
mount_in files (kept.Folder folder) = Some (folder_mount folder files)
mount_in files (kept.Pack folder pack directory) =
    option_map (λ bytes. pack_mount folder pack bytes directory) (bytes_of (pack_name pack) files)

-- a mount is of the folder of this number, and a directory is that of its pack
abbrev pub IsOwn : ℕ → Option (List File) → Mounted → Type 0
IsOwn number told (kept.Folder folder) = folder ≡ number
IsOwn number told (kept.Pack folder pack directory) =
    (folder ≡ number) × IfSome told (λ files. option_map pack_of (bytes_of (pack_name pack) files) ≡ Some (Ok directory))

-- a filter may have each name of a pack
abbrev pub IsIn : Filter → Mounted → Type 0
IsIn filter (kept.Folder folder) = ⊤
IsIn filter (kept.Pack folder pack directory) = (pack < 32) × HasRows filter.masks.items pack directory.rows

-- The pack that was found, or its fault, is that of the folder's bytes, or there is none. A fault of the folder and a want
-- of memory say nothing of it.
abbrev pub IsFound : ℕ → ℕ → Option (Result PackTable PackFault) → Result (Option PackTable) MountError → Type 0
IsFound number pack told (Ok found) = told ≡ option_map Ok found
IsFound number pack told (Err (error.BadPack folder bad fault)) =
    (folder ≡ number) × (bad ≡ pack) × (told ≡ Some (Err fault))
IsFound number pack told (Err (error.FolderFault folder)) = ⊤
IsFound number pack told (Err error.OutOfMemory) = ⊤
