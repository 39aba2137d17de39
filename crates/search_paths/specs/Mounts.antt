-- Mounts: what has files by their names, and the path of them.
use Rattle.std.specs.Prelude.{ℕ, zero, suc, ◌+◌, nat_le, if◌then◌else◌, List, [], ◌∷◌, ◌++◌, length, map, slice_range}
use Rattle.std.specs.Prelude.{Option, Some, None, option_map, Result, Ok, Err, bytes_eq, codes, decimal}
use Rattle.std.specs.Option.{option_or}
use Rattle.std.specs.Result.{result_map_both}
use Rattle.outside_io.specs.Files.{File, bytes_of}
use Rattle.pack_files.specs.declared.faults.PackFault.{PackFault}
use Rattle.pack_files.specs.Packs.{Row, PackTable, pack_of}
use Rattle.search_paths.specs.declared.answers.MountRow.{MountRow}
use Rattle.search_paths.specs.declared.answers.MountRow.TheVariants as row

-- a file: the size of what it lies in, where it lies there, how many bytes it has, and these, where it lies inside
pub record FileAt : Type 0 where
  pub whole : ℕ
  pub offset : ℕ
  pub size : ℕ
  pub bytes : Option (List ℕ)

-- the part of these bytes, where it lies inside
abbrev pub cut : List ℕ → ℕ → ℕ → Option (List ℕ)
cut bytes offset size =
    if nat_le (offset + size) (length bytes) then Some (slice_range bytes offset (offset + size)) else None

abbrev pub file_within : List ℕ → ℕ → ℕ → FileAt
file_within bytes offset size = record { whole = length bytes; offset = offset; size = size; bytes = cut bytes offset size }

-- a file and its name
pub record Named : Type 0 where
  pub name : List ℕ
  pub file : FileAt

-- a mount: how it is listed, and its files, of which the first of a name counts
pub record Mount : Type 0 where
  pub row : MountRow
  pub files : List Named

abbrev pub file_in : List ℕ → List Named → Option FileAt
file_in name [] = None
file_in name (named ∷ files) = if bytes_eq named.name name then Some named.file else file_in name files

-- a folder has each of its files whole
abbrev pub whole_file : File → Named
whole_file file = record { name = file.name; file = file_within file.bytes 0 (length file.bytes) }

abbrev pub folder_mount : ℕ → List File → Mount
folder_mount folder files = record { row = row.Folder folder; files = map whole_file files }

-- a pack has the first entry of each name, cut from its bytes
abbrev pub packed_file : List ℕ → Row → Named
packed_file bytes row = record { name = row.name; file = file_within bytes row.entry.offset row.entry.length }

abbrev pub pack_mount : ℕ → ℕ → List ℕ → PackTable → Mount
pack_mount folder pack bytes table =
    record { row = row.Pack folder pack table.count; files = map (packed_file bytes) table.rows }

-- the first mount that has the name, and its file; the first mount has this number
abbrev pub find_from : ℕ → List ℕ → List Mount → Option (ℕ × FileAt)
find_from number name [] = None
find_from number name (mount ∷ mounts) =
    option_or (option_map (λ file. (number, file)) (file_in name mount.files)) (find_from (number + 1) name mounts)

abbrev pub find_in : List ℕ → List Mount → Option (ℕ × FileAt)
find_in name mounts = find_from 0 name mounts

-- what is found in a mount of this number, or what the later mounts have
abbrev pub here_or_later : ℕ → Option FileAt → Option (Option (ℕ × FileAt)) → Option (Option (ℕ × FileAt))
here_or_later number None later = later
here_or_later number (Some file) later = Some (Some (number, file))

-- The same among mounts of which not all are told: they are walked from the front, and where one that isn't told comes
-- before the first that has the name, it is not told what is found. The first mount has this number.
abbrev pub find_told_from : ℕ → List ℕ → List (Option Mount) → Option (Option (ℕ × FileAt))
find_told_from number name [] = Some None
find_told_from number name (None ∷ mounts) = None
find_told_from number name (Some mount ∷ mounts) =
    here_or_later number (file_in name mount.files) (find_told_from (number + 1) name mounts)

abbrev pub find_told : List ℕ → List (Option Mount) → Option (Option (ℕ × FileAt))
find_told name mounts = find_told_from 0 name mounts

-- the name of the pack of this number
abbrev pub pack_name : ℕ → List ℕ
pack_name number = codes "pak" ++ (decimal number ++ codes ".pak")

-- the packs of these files from this number on, up to the first that is missing, and at most so many
abbrev pub before_missing : Option (List ℕ) → List (List ℕ) → List (List ℕ)
before_missing None packs = []
before_missing (Some bytes) packs = bytes ∷ packs

abbrev pub packs_from : ℕ → ℕ → List File → List (List ℕ)
packs_from zero number files = []
packs_from (suc most) number files = before_missing (bytes_of (pack_name number) files) (packs_from most (number + 1) files)

abbrev pub packs_of : List File → List (List ℕ)
packs_of files = packs_from 32 0 files

-- a pack that is not taken
pub record BadPack : Type 0 where
  pub folder : ℕ
  pub pack : ℕ
  pub fault : PackFault

abbrev pub bad_pack : ℕ → ℕ → PackFault → BadPack
bad_pack folder pack fault = record { folder = folder; pack = pack; fault = fault }

abbrev pub result_and_then : {T U E : Type 0} → Result T E → (T → Result U E) → Result U E
result_and_then (Ok value) next = next value
result_and_then (Err error) next = Err error

-- the mount of these bytes as a pack
abbrev pub pack_in : ℕ → ℕ → List ℕ → Result Mount BadPack
pack_in folder number bytes = result_map_both (pack_mount folder number bytes) (bad_pack folder number) (pack_of bytes)

-- these packs, the first of this number, one after another in front of the mounts, or the first of them that is bad
abbrev pub in_front : ℕ → ℕ → List (List ℕ) → List Mount → Result (List Mount) BadPack
in_front folder number [] mounts = Ok mounts
in_front folder number (bytes ∷ packs) mounts =
    result_and_then (pack_in folder number bytes) (λ mount. in_front folder (number + 1) packs (mount ∷ mounts))

-- the mounts of a folder: it and its packs, the last first; or its first bad pack
abbrev pub own_mounts : ℕ → List File → Result (List Mount) BadPack
own_mounts folder files = in_front folder 0 (packs_of files) (folder_mount folder files ∷ [])

-- folders, the first of this number, one after another in front of the mounts, or the first bad pack
abbrev pub with_folders : ℕ → List (List File) → List Mount → Result (List Mount) BadPack
with_folders number [] mounts = Ok mounts
with_folders number (files ∷ folders) mounts =
    result_and_then (own_mounts number files) (λ own. with_folders (number + 1) folders (own ++ mounts))

-- the path of these folders, or the first bad pack
abbrev pub mounted : List (List File) → Result (List Mount) BadPack
mounted folders = with_folders 0 folders []
