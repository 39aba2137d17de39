-- Laws of the mounts of a path, and of the file that is found in them.
use Rattle.std.proofs.Common.{◌≡◌, ℕ, zero, suc, ◌+◌, ◌<◌, ◌≤◌, Bool, true, false, nat_le, cond, List, [], ◌∷◌, length, map, Option, Some, None, IfSome, refl, sym, ap, subst, ◌∙◌, arith}
use Rattle.std.specs.Prelude.{slice_get, slice_range, option_map, option_and_then, IsSomeAnd}
use Rattle.std.specs.Option.{option_flatten, option_or}
use Rattle.std.proofs.lemmas.Bool.Decides.{nat_tests}
use Rattle.std.proofs.lemmas.Grind.{common_steps}
use Rattle.std.proofs.lemmas.Option.{slice_get-map}
use Rattle.outside_io.specs.Files.{File, bytes_of}
use Rattle.pack_files.specs.declared.entries.Entry.{Entry}
use Rattle.pack_files.specs.Packs.{Row, entry_of}
use Rattle.search_paths.specs.declared.mounted.Mounted.{Mounted}
use Rattle.search_paths.specs.declared.mounted.Mounted.TheVariants as kept
use Rattle.search_paths.specs.Kept.{told_at, mount_of}
use Rattle.search_paths.specs.Mounts.{FileAt, Mount, cut, file_in, file_within, whole_file, packed_file, folder_mount, pack_mount, pack_name, find_from, find_in, here_or_later, find_told_from, find_told}
use Rattle.search_paths.specs.Path.{PathState, all_some, told_of, rows_of, told_mounts, mount_at, mounts_of}
use Rattle.search_paths.proofs.Looking.{file_in-folder, file_in-pack}
use Rattle.search_paths.proofs.Rows.{all_are_listed}

-- where all are there, they are these
pub each_is_there : {X : Type 0} (xs : List (Option X)) (ys : List X) → all_some xs ≡ Some ys → xs ≡ map Some ys
each_is_there [] ys is = by ys is
  where
    by : {X : Type 0} (ys : List X) → ◌≡◌ {A = Option (List X)} (Some []) (Some ys) → [] ≡ map Some ys
    by [] same = refl
    by (y ∷ ys) same = cc
each_is_there (None ∷ xs) ys is = cc
each_is_there {X} (Some x ∷ xs) ys is = by (all_some xs) (each_is_there xs) is
  where
    by : (rest : Option (List X)) → ((more : List X) → rest ≡ Some more → xs ≡ map Some more) → option_map (λ more. x ∷ more) rest ≡ Some ys → Some x ∷ xs ≡ map Some ys
    by None each same = cc
    by (Some more) each same =
        let here : x ∷ more ≡ ys = cc (same) in
        ap (λ l. Some x ∷ l) (each more refl) ∙ ap (map Some) here

-- and the other way round
pub all_are_there : {X : Type 0} (ys : List X) → all_some (map Some ys) ≡ Some ys
all_are_there [] = refl
all_are_there (y ∷ ys) = ap (option_map (λ more. y ∷ more)) (all_are_there ys)

-- The rows of the path are those of its mounts.
pub rows-told : {F : Type 0} (files : F → Option (List File)) (path : PathState F) (mounts : List Mount) → mounts_of files path ≡ Some mounts → map (λ mount. mount.row) mounts ≡ rows_of path
rows-told files path mounts told = subst (λ all. IfSome all (λ ms. map (λ mount. mount.row) ms ≡ rows_of path)) told (all_are_listed (told_of files path) path.mounts)

-- Where all mounts are told, the walk finds what there is.
walk_on : (number : ℕ) (found : Option FileAt) (later : Option (ℕ × FileAt)) → here_or_later number found (Some later) ≡ Some (option_or (option_map (λ file. (number, file)) found) later)
walk_on number None later = refl
walk_on number (Some file) later = refl

find_told_from-all : (number : ℕ) (name : List ℕ) (mounts : List Mount) → find_told_from number name (map Some mounts) ≡ Some (find_from number name mounts)
find_told_from-all number name [] = refl
find_told_from-all number name (mount ∷ mounts) =
    ap (here_or_later number (file_in name mount.files)) (find_told_from-all (number + 1) name mounts) ∙ walk_on number (file_in name mount.files) (find_from (number + 1) name mounts)

pub find_told-all : (name : List ℕ) (mounts : List Mount) → find_told name (map Some mounts) ≡ Some (find_in name mounts)
find_told-all name mounts = find_told_from-all 0 name mounts

-- The mount that is found has the file.
pub record IsFound (name : List ℕ) (mounts : List (Option Mount)) (number : ℕ) (file : FileAt) : Type 0 where
  pub mount : Mount
  pub at : slice_get mounts number ≡ Some (Some mount)
  pub has : file_in name mount.files ≡ Some file

found_from : (from : ℕ) (name : List ℕ) (mounts : List (Option Mount)) (found : ℕ × FileAt) → find_told_from from name mounts ≡ Some (Some found) → (at : ℕ) × (found.0 ≡ from + at) × IsFound name mounts at found.1
found_from from name [] found is = absurd (cc)
found_from from name (None ∷ mounts) found is = absurd (cc)
found_from from name (Some mount ∷ mounts) found is = by (file_in name mount.files) refl (found_from (from + 1) name mounts found) is
  where
    by : (here : Option FileAt) → file_in name mount.files ≡ here → (find_told_from (from + 1) name mounts ≡ Some (Some found) → (at : ℕ) × (found.0 ≡ from + 1 + at) × IsFound name mounts at found.1)
        → here_or_later from here (find_told_from (from + 1) name mounts) ≡ Some (Some found) → (at : ℕ) × (found.0 ≡ from + at) × IsFound name (Some mount ∷ mounts) at found.1
    by None known rest same =
        let later = rest same in
        (suc later.0, omega (arith, later.1), record { mount = later.2.mount; at = later.2.at; has = later.2.has })
    by (Some file) known rest same =
        let is_pair : ◌≡◌ {A = ℕ × FileAt} (from, file) found = cc (same) in
        let number : found.0 ≡ from + zero = omega (arith, ap (λ (p : ℕ × FileAt). p.0) is_pair) in
        (zero, number, record { mount = mount; at = refl; has = known ∙ ap (λ (p : ℕ × FileAt). Some p.1) is_pair })

pub find_told-found : (name : List ℕ) (mounts : List (Option Mount)) (found : ℕ × FileAt) → find_told name mounts ≡ Some (Some found) → IsFound name mounts found.0 found.1
find_told-found name mounts found is =
    let later = found_from 0 name mounts found is in
    let number : later.0 ≡ found.0 = omega (arith, later.1) in
    subst (λ n. IsFound name mounts n found.1) number later.2

-- It is the one of its number on the path.
pub mount_at-found : {F : Type 0} (files : F → Option (List File)) (path : PathState F) (name : List ℕ) (number : ℕ) (file : FileAt) → (found : IsFound name (told_mounts files path) number file) → mount_at files number path ≡ Some found.mount
mount_at-found files path name number file found = ap option_flatten found.at

-- Each file of a mount is cut from a whole.
pub record IsCut (file : FileAt) : Type 0 where
  pub bytes : List ℕ
  pub is : file ≡ file_within bytes file.offset file.size

cut_of : (bytes : List ℕ) (offset size : ℕ) (file : FileAt) → file_within bytes offset size ≡ file → IsCut file
cut_of bytes offset size file is = subst IsCut is (record { bytes = bytes; is = refl })

cut_of_whole : (found : Option (List ℕ)) (file : FileAt) → option_map (λ bytes. file_within bytes 0 (length bytes)) found ≡ Some file → IsCut file
cut_of_whole None file is = cc
cut_of_whole (Some bytes) file is = cut_of bytes 0 (length bytes) file (cc (is))

cut_of_entry : (bytes : List ℕ) (found : Option Entry) (file : FileAt) → option_map (λ (entry : Entry). file_within bytes entry.offset entry.length) found ≡ Some file → IsCut file
cut_of_entry bytes None file is = cc
cut_of_entry bytes (Some entry) file is = cut_of bytes entry.offset entry.length file (cc (is))

cut_of_folder : (name : List ℕ) (folder : ℕ) (told : Option (List File)) (mount : Mount) (file : FileAt) → option_map (folder_mount folder) told ≡ Some mount → file_in name mount.files ≡ Some file → IsCut file
cut_of_folder name folder None mount file is has = cc
cut_of_folder name folder (Some files) mount file is has =
    let same : folder_mount folder files ≡ mount = cc (is) in
    let named : file_in name (map whole_file files) ≡ Some file = ap (λ (m : Mount). file_in name m.files) same ∙ has in
    cut_of_whole (bytes_of name files) file (sym (file_in-folder name files) ∙ named)

cut_of_pack : (name : List ℕ) (make : List ℕ → Mount) (rows : List Row) (packed : Option (List ℕ)) (mount : Mount) (file : FileAt) → ((bytes : List ℕ) → (make bytes).files ≡ map (packed_file bytes) rows) → option_map make packed ≡ Some mount → file_in name mount.files ≡ Some file → IsCut file
cut_of_pack name make rows None mount file files is has = cc
cut_of_pack name make rows (Some bytes) mount file files is has =
    let same : make bytes ≡ mount = cc (is) in
    let named : file_in name (map (packed_file bytes) rows) ≡ Some file = ap (file_in name) (sym (files bytes)) ∙ ap (λ (m : Mount). file_in name m.files) same ∙ has in
    cut_of_entry bytes (entry_of name rows) file (sym (file_in-pack name bytes rows) ∙ named)

cut_of_mount : (name : List ℕ) (told : List (Option (List File))) (mounted : Mounted) (mount : Mount) (file : FileAt) → mount_of told mounted ≡ Some mount → file_in name mount.files ≡ Some file → IsCut file
cut_of_mount name told (kept.Folder folder) mount file is has = cut_of_folder name folder (told_at folder told) mount file is has
cut_of_mount name told (kept.Pack folder pack directory) mount file is has =
    cut_of_pack name (λ bytes. pack_mount folder pack bytes directory) directory.rows (option_and_then (bytes_of (pack_name pack)) (told_at folder told)) mount file (λ bytes. refl) is has

cut_at : (name : List ℕ) (told : List (Option (List File))) (found : Option Mounted) (mount : Mount) (file : FileAt) → option_flatten (option_map (mount_of told) found) ≡ Some mount → file_in name mount.files ≡ Some file → IsCut file
cut_at name told None mount file is has = cc
cut_at name told (Some mounted) mount file is has = cut_of_mount name told mounted mount file is has

pub mount_at-cut : {F : Type 0} (files : F → Option (List File)) (path : PathState F) (number : ℕ) (mount : Mount) (name : List ℕ) (file : FileAt) → mount_at files number path ≡ Some mount → file_in name mount.files ≡ Some file → IsCut file
mount_at-cut files path number mount name file is has =
    cut_at name (told_of files path) (slice_get path.mounts number) mount file (ap option_flatten (sym (slice_get-map (mount_of (told_of files path)) path.mounts number)) ∙ is) has

pub found-cut : {F : Type 0} (files : F → Option (List File)) (path : PathState F) (name : List ℕ) (number : ℕ) (file : FileAt) → IsFound name (told_mounts files path) number file → IsCut file
found-cut files path name number file found = mount_at-cut files path number found.mount name file (mount_at-found files path name number file found) found.has

-- Such a file has its bytes exactly where it lies inside the whole.
length-part : (bytes : List ℕ) (offset size : ℕ) → offset + size ≤ length bytes → length (slice_range bytes offset (offset + size)) ≡ size
length-part bytes offset size inside = grind (arith, common_steps)

bytes_within : (bytes : List ℕ) (offset size : ℕ) → offset + size ≤ length bytes → IsSomeAnd (cut bytes offset size) (λ part. length part ≡ size)
bytes_within bytes offset size inside = by (nat_le (offset + size) (length bytes)) refl
  where
    by : (b : Bool) → nat_le (offset + size) (length bytes) ≡ b → IsSomeAnd (cond b (Some (slice_range bytes offset (offset + size))) None) (λ part. length part ≡ size)
    by true is = length-part bytes offset size inside
    by false is = absurd (grind (arith, nat_tests))

bytes_past : (bytes : List ℕ) (offset size : ℕ) → length bytes < offset + size → cut bytes offset size ≡ None
bytes_past bytes offset size past = by (nat_le (offset + size) (length bytes)) refl
  where
    by : (b : Bool) → nat_le (offset + size) (length bytes) ≡ b → cond b (Some (slice_range bytes offset (offset + size))) None ≡ None
    by true is = absurd (grind (arith, nat_tests))
    by false is = refl

pub bytes-inside : (file : FileAt) → IsCut file → file.offset + file.size ≤ file.whole → IsSomeAnd file.bytes (λ bytes. length bytes ≡ file.size)
bytes-inside file cut inside =
    let whole : file.whole ≡ length cut.bytes = ap (λ (f : FileAt). f.whole) cut.is in
    let bytes = bytes_within cut.bytes file.offset file.size (omega arith) in
    subst (λ b. IsSomeAnd b (λ part. length part ≡ file.size)) (sym (ap (λ (f : FileAt). f.bytes) cut.is)) bytes

pub bytes-outside : (file : FileAt) → IsCut file → file.whole < file.offset + file.size → file.bytes ≡ None
bytes-outside file cut past =
    let whole : file.whole ≡ length cut.bytes = ap (λ (f : FileAt). f.whole) cut.is in
    ap (λ (f : FileAt). f.bytes) cut.is ∙ bytes_past cut.bytes file.offset file.size (omega arith)
