-- Paths of a few folders.
use Rattle.std.proofs.Common.{◌≡◌, ℕ, List, [], ◌∷◌, ◌++◌, map, replicate, Some, None, Ok, Err, codes, refl}
use Rattle.std.specs.Prelude.{Result}
use Rattle.std.specs.Fmt.{digits}
use Rattle.std.specs.Result.{result_map_both}
use Rattle.base_fields.specs.Fields.{u32_in, u32_bytes}
use Rattle.outside_io.specs.Files.{File}
use Rattle.pack_files.specs.declared.faults.PackFault.TheVariants.{NotPack}
use Rattle.pack_files.specs.Packs.{pack_of}
use Rattle.search_paths.specs.declared.answers.MountRow.{MountRow}
use Rattle.search_paths.specs.declared.answers.MountRow.TheVariants.{Folder, Pack}
use Rattle.search_paths.specs.Mounts.{Mount, BadPack, find_in, pack_name, packs_of, folder_mount, own_mounts, mounted}

first_name : pack_name 0 ≡ codes "pak0.pak"
unfolding digits
first_name = refl

last_name : pack_name 31 ≡ codes "pak31.pak"
unfolding digits
last_name = refl

abbrev file : List ℕ → List ℕ → File
file name bytes = record { name = name; bytes = bytes }

-- a pack with one entry
abbrev pack : List ℕ → ℕ → ℕ → List ℕ
pack name offset size = codes "PACK" ++ (u32_bytes 12 ++ (u32_bytes 64 ++ (name ++ (u32_bytes offset ++ u32_bytes size))))

abbrev x_name : List ℕ
x_name = codes "x" ++ replicate 55 0

-- how the mounts are listed
abbrev listed : Result (List Mount) BadPack → Result (List MountRow) BadPack
listed path = result_map_both (map (λ (mount : Mount). mount.row)) (λ bad. bad) path

-- a folder with one file and no pack
abbrev plain : List ℕ → List File
plain bytes = file (codes "c") bytes ∷ []

two_folders : listed (mounted (plain (codes "d") ∷ plain (codes "ee") ∷ [])) ≡ Ok (Folder 1 ∷ Folder 0 ∷ [])
two_folders = refl

the_later_folder_counts : find_in (codes "c") (folder_mount 1 (plain (codes "ee")) ∷ folder_mount 0 (plain (codes "d")) ∷ []) ≡ Some (0, record { whole = 2; offset = 0; size = 2; bytes = Some (codes "ee") })
the_later_folder_counts = refl

nowhere : find_in (codes "C") (folder_mount 0 (plain (codes "d")) ∷ []) ≡ None
nowhere = refl

-- packs up to the first that is missing
abbrev packed : List File
packed = file (codes "pak2.pak") [] ∷ file (codes "pak1.pak") (pack x_name 70 6) ∷ file (codes "pak0.pak") (pack x_name 70 10) ∷ []

up_to_the_gap : packs_of (file (codes "pak2.pak") [] ∷ file (codes "pak0.pak") [] ∷ []) ≡ [] ∷ []
unfolding digits
up_to_the_gap = refl

the_last_pack_is_in_front : listed (own_mounts 3 (file (codes "pak1.pak") (pack x_name 70 6) ∷ file (codes "pak0.pak") (pack x_name 70 10) ∷ [])) ≡ Ok (Pack 3 1 1 ∷ Pack 3 0 1 ∷ Folder 3 ∷ [])
unfolding pack_of u32_in digits
the_last_pack_is_in_front = refl

a_bad_pack : own_mounts 3 packed ≡ Err (record { folder = 3; pack = 2; fault = NotPack })
unfolding pack_of u32_in digits
a_bad_pack = refl
