-- Mounts where one more folder is held.
use Rattle.std.proofs.Common.{◌≡◌, ℕ, suc, ◌<◌, ◌≤◌, ◌+◌, List, [], ◌∷◌, ◌++◌, length, map, reverse, get_or, Option, Some, None, Result, Ok, Err, OnOk, OnErr, IfErr, IsOkAnd, IfSome, All, refl, ap, sym, ◌∙◌, subst, arith}
use Rattle.std.specs.Prelude.{option_map, option_and_then}
use Rattle.std.specs.Option.{option_flatten}
use Rattle.std.proofs.lemmas.List.{get_or_append_left, get_or_push, length-append, length-map, length-reverse, map-append, map_push}
use Rattle.std.proofs.lemmas.List.Elements.{All-head, All-tail, All-append}
use Rattle.std.proofs.lemmas.List.Sorted.{All-permutation, IsPermutation-reverse}
use Rattle.std.proofs.lemmas.Option.{slice_get-get_or}
use Rattle.outside_io.specs.Files.{File, bytes_of}
use Rattle.pack_files.specs.Packs.{PackTable, pack_of}
use Rattle.search_paths.specs.declared.answers.MountError.{MountError}
use Rattle.search_paths.specs.declared.answers.MountError.TheVariants as error
use Rattle.search_paths.specs.declared.answers.MountRow.TheVariants as row
use Rattle.search_paths.specs.declared.mounted.Mounted.{Mounted}
use Rattle.search_paths.specs.declared.mounted.Mounted.TheVariants as kept
use Rattle.search_paths.specs.Answers.{pack_rows, AddsRows, IsMounted}
use Rattle.search_paths.specs.Kept.{told_at, folder_of, row_of, mount_of, IsDirectory}
use Rattle.search_paths.specs.Mounts.{folder_mount, pack_mount, pack_name, own_mounts}
use Rattle.search_paths.specs.Own.{mount_in, IsOwn}

-- what the folders before tell
told_before : (folder : ℕ) (told : List (Option (List File))) (last : Option (List File)) → folder < length told → told_at folder (told ++ last ∷ []) ≡ told_at folder told
told_before folder told last before =
    let more : folder < length (told ++ last ∷ []) = omega (arith, length-append told (last ∷ [])) in
    ap option_flatten (slice_get-get_or (told ++ last ∷ []) folder None more ∙ ap Some (get_or_append_left told (last ∷ []) None folder before) ∙ sym (slice_get-get_or told folder None before))

-- and what the last tells
told_last : (told : List (Option (List File))) (last : Option (List File)) → told_at (length told) (told ++ last ∷ []) ≡ last
told_last told last =
    let there : length told < length (told ++ last ∷ []) = omega (arith, length-append told (last ∷ [])) in
    ap option_flatten (slice_get-get_or (told ++ last ∷ []) (length told) None there ∙ ap Some (get_or_push told last None (length told) refl))

map_alike : {X Y : Type 0} (f g : X → Y) (xs : List X) → All (λ x. f x ≡ g x) xs → map f xs ≡ map g xs
map_alike f g [] same = refl
map_alike f g (x ∷ xs) same =
    let here = All-head (λ y. f y ≡ g y) x xs same in
    let rest = map_alike f g xs (All-tail (λ y. f y ≡ g y) x xs same) in
    cc

mount_before : (told : List (Option (List File))) (last : Option (List File)) (mounted : Mounted) → folder_of mounted < length told → mount_of (told ++ last ∷ []) mounted ≡ mount_of told mounted
mount_before told last (kept.Folder folder) before = ap (option_map (folder_mount folder)) (told_before folder told last before)
mount_before told last (kept.Pack folder pack directory) before =
    ap (λ files. option_map (λ bytes. pack_mount folder pack bytes directory) (option_and_then (bytes_of (pack_name pack)) files)) (told_before folder told last before)

-- the mounts of the folders before
pub mounts_before : (told : List (Option (List File))) (last : Option (List File)) (mounts : List Mounted) → All (λ mounted. folder_of mounted < length told) mounts
    → map (mount_of (told ++ last ∷ [])) mounts ≡ map (mount_of told) mounts
mounts_before told last mounts before = map_alike (mount_of (told ++ last ∷ [])) (mount_of told) mounts (λ k d below. mount_before told last (get_or mounts k d) (before k d below))

mount_own : (told : List (Option (List File))) (files : List File) (mounted : Mounted) → IsOwn (length told) (Some files) mounted → mount_of (told ++ Some files ∷ []) mounted ≡ mount_in files mounted
mount_own told files (kept.Folder folder) is = rw is (ap (option_map (folder_mount (length told))) (told_last told (Some files)))
mount_own told files (kept.Pack folder pack directory) is =
    rw is.0 (ap (λ given. option_map (λ bytes. pack_mount (length told) pack bytes directory) (option_and_then (bytes_of (pack_name pack)) given)) (told_last told (Some files)))

-- the mounts of the last folder
pub mounts_own : (told : List (Option (List File))) (files : List File) (number : ℕ) (mounts : List Mounted) → number ≡ length told → All (IsOwn number (Some files)) mounts
    → map (mount_of (told ++ Some files ∷ [])) mounts ≡ map (mount_in files) mounts
mounts_own told files number mounts last are =
    map_alike (mount_of (told ++ Some files ∷ [])) (mount_in files) mounts (λ k d below. mount_own told files (get_or mounts k d) (subst (λ n. IsOwn n (Some files) (get_or mounts k d)) last (are k d below)))

directory_before : (told : List (Option (List File))) (last : Option (List File)) (mounted : Mounted) → folder_of mounted < length told → IsDirectory told mounted → IsDirectory (told ++ last ∷ []) mounted
directory_before told last mounted before read = λ folder pack directory is.
    let here : folder < length told = subst (λ m. folder_of m < length told) is before in
    rw (told_before folder told last here) (read folder pack directory is)

-- directories of the folders before
pub directories_before : (told : List (Option (List File))) (last : Option (List File)) (mounts : List Mounted) → All (λ mounted. folder_of mounted < length told) mounts → All (IsDirectory told) mounts
    → All (IsDirectory (told ++ last ∷ [])) mounts
directories_before told last mounts before read = λ k d below. directory_before told last (get_or mounts k d) (before k d below) (read k d below)

directory_in : (last : Option (List File)) (files : List File) (pack : ℕ) (directory : PackTable) → last ≡ Some files → IfSome last (λ all. option_map pack_of (bytes_of (pack_name pack) all) ≡ Some (Ok directory))
    → option_map pack_of (bytes_of (pack_name pack) files) ≡ Some (Ok directory)
directory_in last files pack directory is read = rw is at read

directory_own : (told : List (Option (List File))) (last : Option (List File)) (mounted : Mounted) → IsOwn (length told) last mounted → IsDirectory (told ++ last ∷ []) mounted
directory_own told last (kept.Folder own) is = λ folder pack directory same. cc
directory_own told last (kept.Pack own number table) is = λ folder pack directory same files tells.
    let here : folder ≡ length told = cc in
    let last_tells : last ≡ Some files = sym (told_last told last) ∙ ap (λ n. told_at n (told ++ last ∷ [])) (sym here) ∙ tells in
    let read = directory_in last files number table last_tells is.1 in
    cc

-- directories of the last folder
pub directories_own : (told : List (Option (List File))) (last : Option (List File)) (number : ℕ) (mounts : List Mounted) → number ≡ length told → All (IsOwn number last) mounts
    → All (IsDirectory (told ++ last ∷ [])) mounts
directories_own told last number mounts is own =
    λ k d below. directory_own told last (get_or mounts k d) (subst (λ n. IsOwn n last (get_or mounts k d)) is (own k d below))

folder_own : (number : ℕ) (last : Option (List File)) (mounted : Mounted) → IsOwn number last mounted → folder_of mounted ≡ number
folder_own number last (kept.Folder folder) is = is
folder_own number last (kept.Pack folder pack directory) is = is.0

pub folders_own : (number more : ℕ) (last : Option (List File)) (mounts : List Mounted) → number < more → All (IsOwn number last) mounts → All (λ mounted. folder_of mounted < more) mounts
folders_own number more last mounts less own = λ k d below. omega (arith, folder_own number last (get_or mounts k d) (own k d below))

-- what the folders tell
pub told_now : {F : Type 0} (files : F → Option (List File)) (held now : List F) (folder : F) → now ≡ held ++ folder ∷ [] → map files now ≡ map files held ++ files folder ∷ []
told_now files held now folder is = ap (map files) is ∙ map_push files held folder

pub folders_before : (number more : ℕ) (mounts : List Mounted) → number ≤ more → All (λ mounted. folder_of mounted < number) mounts → All (λ mounted. folder_of mounted < more) mounts
folders_before number more mounts less before = λ k d below. omega (arith, before k d below)

pub folders_told : {F : Type 0} (files : F → Option (List File)) (held : List F) (number : ℕ) (mounts : List Mounted) → number ≡ length held → All (λ mounted. folder_of mounted < number) mounts
    → All (λ mounted. folder_of mounted < length (map files held)) mounts
folders_told files held number mounts is before = folders_before number (length (map files held)) mounts (omega (arith, is, length-map held files)) before

pub length_packs : (folder number : ℕ) (counts : List ℕ) → length (pack_rows folder number counts) ≡ length counts
length_packs folder number [] = refl
length_packs folder number (count ∷ counts) = ap suc (length_packs folder (number + 1) counts)

-- a folder has at most 33 mounts
pub few_own : (folder : ℕ) (mounts : List Mounted) → AddsRows folder [] (map row_of (reverse mounts)) → length mounts ≤ 33
few_own folder mounts rows =
    let all = ap length rows.2 in
    omega (arith, all, length-map (reverse mounts) row_of, length-reverse mounts, length-append (reverse (pack_rows folder 0 rows.0)) (row.Folder folder ∷ []), length-reverse (pack_rows folder 0 rows.0), length_packs folder 0 rows.0, rows.1)

-- what holds of both holds of the one that stands
either : {X : Type 0} (r : Result (Unit {0}) MountError) (P : X → Type 0) (new front old : X) → OnOk r (new ≡ front) → OnErr r (new ≡ old) → P front → P old → P new
either (Ok done) P new front old is as_before there here = subst P (sym is) there
either (Err error) P new front old is as_before there here = subst P (sym as_before) here

pub front_or_before : (r : Result (Unit {0}) MountError) (P : Mounted → Type 0) (new own before : List Mounted) → OnOk r (new ≡ reverse own ++ before) → OnErr r (new ≡ before) → All P own → All P before → All P new
front_or_before r P new own before is as_before there here =
    either r (All P) new (reverse own ++ before) before is as_before (All-append P (reverse own) before (All-permutation P own (reverse own) (IsPermutation-reverse own) there) here) here

pub few_in_front : (r : Result (Unit {0}) MountError) (most : ℕ) (new own before : List Mounted) → OnOk r (new ≡ reverse own ++ before) → OnErr r (new ≡ before) → length own ≤ 33 → length before ≤ most
    → length new ≤ most + 33
few_in_front r most new own before is as_before few few_before =
    either r (λ l. length l ≤ most + 33) new (reverse own ++ before) before is as_before (omega (arith, length-append (reverse own) before, length-reverse own)) (omega arith)

-- the rows, and what is told of the mounts, where they are as before
pub as_before : (told : List (Option (List File))) (last : Option (List File)) (now : List (Option (List File))) (mounts new : List Mounted) → now ≡ told ++ last ∷ [] → new ≡ mounts
    → All (λ mounted. folder_of mounted < length told) mounts → (map row_of new ≡ map row_of mounts) × (map (mount_of now) new ≡ map (mount_of told) mounts)
as_before told last now mounts new longer same before = (ap (map row_of) same, rw (longer, same) (mounts_before told last mounts before))

pub as_before_where : (r : Result (Unit {0}) MountError) (told : List (Option (List File))) (last : Option (List File)) (now : List (Option (List File))) (mounts new : List Mounted) → now ≡ told ++ last ∷ []
    → OnErr r (new ≡ mounts) → All (λ mounted. folder_of mounted < length told) mounts → OnErr r ((map row_of new ≡ map row_of mounts) × (map (mount_of now) new ≡ map (mount_of told) mounts))
as_before_where (Ok done) told last now mounts new longer same before = tt
as_before_where (Err error) told last now mounts new longer same before = as_before told last now mounts new longer same before

is_ok_so : {X E : Type 0} (r : Result X E) (P Q : X → Type 0) → ((x : X) → P x → Q x) → IsOkAnd r P → IsOkAnd r Q
is_ok_so (Ok x) P Q so is = so x is
is_ok_so (Err error) P Q so is = is

mounted_where : (r : Result (Unit {0}) MountError) (told : List (Option (List File))) (files : List File) (number : ℕ) (own before new : List Mounted)
    → IsOkAnd (own_mounts number files) (λ all. map (mount_in files) (reverse own) ≡ map Some all) → number ≡ length told → All (IsOwn number (Some files)) own → All (λ mounted. folder_of mounted < length told) before
    → OnOk r (new ≡ reverse own ++ before) → IfErr r (λ fault. fault ≡ error.OutOfMemory)
    → IsMounted (own_mounts number files) (map (mount_of told) before) (map (mount_of (told ++ Some files ∷ [])) new) r
mounted_where (Err error) told files number own before new made last are earlier is memory = rw memory tt
mounted_where (Ok done) told files number own before new made last are earlier is memory =
    let now = told ++ Some files ∷ [] in
    let turned = All-permutation (IsOwn number (Some files)) own (reverse own) (IsPermutation-reverse own) are in
    let all = ap (map (mount_of now)) is ∙ map-append (mount_of now) (reverse own) before ∙ ap (λ l. l ++ map (mount_of now) before) (mounts_own told files number (reverse own) last turned) ∙ ap (λ l. map (mount_in files) (reverse own) ++ l) (mounts_before told (Some files) before earlier) in
    is_ok_so (own_mounts number files) (λ mounts. map (mount_in files) (reverse own) ≡ map Some mounts) (λ mounts. map (mount_of now) new ≡ map Some mounts ++ map (mount_of told) before) (λ mounts same. all ∙ ap (λ l. l ++ map (mount_of told) before) same) made

-- where the folder tells its files, its mounts stand in front of those before
pub mounted_told : (r : Result (Unit {0}) MountError) (told : List (Option (List File))) (last : Option (List File)) (now : List (Option (List File))) (number : ℕ) (own before new : List Mounted) → now ≡ told ++ last ∷ []
    → IfSome last (λ files. IsOkAnd (own_mounts number files) (λ all. map (mount_in files) (reverse own) ≡ map Some all)) → number ≡ length told → All (IsOwn number last) own → All (λ mounted. folder_of mounted < length told) before
    → OnOk r (new ≡ reverse own ++ before) → IfErr r (λ fault. fault ≡ error.OutOfMemory)
    → IfSome last (λ files. IsMounted (own_mounts number files) (map (mount_of told) before) (map (mount_of now) new) r)
mounted_told r told None now number own before new longer made is are earlier front memory = tt
mounted_told r told (Some files) now number own before new longer made is are earlier front memory = rw longer (mounted_where r told files number own before new made is are earlier front memory)
