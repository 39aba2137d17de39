-- A folder's mounts, while its packs are read one after another.
use Rattle.std.proofs.Common.{◌≡◌, get_or, ℕ, zero, suc, ◌+◌, ◌≤◌, List, [], ◌∷◌, ◌++◌, length, map, reverse, Option, Some, None, Ok, Err, All, IsOkAnd, IfSome, refl, ap, sym, ◌∙◌, subst, add-zero, arith}
use Rattle.std.specs.Prelude.{option_map}
use Rattle.std.proofs.lemmas.List.{map_push, reverse-append, length-append}
use Rattle.std.proofs.lemmas.List.Elements.{All-push}
use Rattle.std.proofs.lemmas.Grind.{reverse_onto}
use Rattle.outside_io.specs.Files.{File, bytes_of}
use Rattle.pack_files.specs.declared.faults.PackFault.{PackFault}
use Rattle.pack_files.specs.declared.filter.Filter.{Filter}
use Rattle.pack_files.specs.Filters.{may_have}
use Rattle.pack_files.specs.Hashes.{hash_of}
use Rattle.pack_files.specs.Packs.{PackTable, pack_of}
use Rattle.search_paths.specs.declared.answers.MountError.{MountError}
use Rattle.search_paths.specs.declared.answers.MountError.TheVariants as error
use Rattle.search_paths.specs.declared.answers.MountRow.TheVariants as row
use Rattle.search_paths.specs.declared.mounted.Mounted.{Mounted}
use Rattle.search_paths.specs.declared.mounted.Mounted.TheVariants as kept
use Rattle.search_paths.specs.Answers.{pack_rows, AddsRows, IsMounted}
use Rattle.search_paths.specs.Kept.{row_of}
use Rattle.search_paths.specs.Mounts.{Mount, pack_name, pack_mount, before_missing, packs_from, in_front, own_mounts, folder_mount}
use Rattle.search_paths.specs.Own.{mount_in, IsFound, IsOwn, IsIn}

-- The first packs of the folder are mounted, up to this number and in their order, and with so many more from there on the
-- mounts are those of the folder.
abbrev pub AreMade : ℕ → List File → ℕ → ℕ → List Mounted → Type 0
AreMade folder files pack left mounts =
    (made : List Mount) × (map (mount_in files) mounts ≡ map Some made) × (in_front folder pack (packs_from left pack files) (reverse made) ≡ own_mounts folder files)

-- the rows of a folder and of its packs up to this number
abbrev pub AreListed : ℕ → ℕ → List Mounted → Type 0
AreListed folder pack mounts = (counts : List ℕ) × (length counts ≡ pack) × (map row_of mounts ≡ row.Folder folder ∷ pack_rows folder 0 counts)

-- the mounts with the next pack in front of them
abbrev HasNext : ℕ → ℕ → List Mount → List (List ℕ) → Option (List ℕ) → PackTable → Type 0
HasNext folder pack mounts rest found directory =
    (bytes : List ℕ) × (found ≡ Some bytes) × (in_front folder pack (before_missing found rest) mounts ≡ in_front folder (pack + 1) rest (pack_mount folder pack bytes directory ∷ mounts))

read_bytes : (folder pack : ℕ) (mounts : List Mount) (rest : List (List ℕ)) (bytes : List ℕ) (directory : PackTable) → pack_of bytes ≡ Ok directory
    → in_front folder pack (bytes ∷ rest) mounts ≡ in_front folder (pack + 1) rest (pack_mount folder pack bytes directory ∷ mounts)
read_bytes folder pack mounts rest bytes directory is = rw is

has_next : (folder pack : ℕ) (mounts : List Mount) (rest : List (List ℕ)) (found : Option (List ℕ)) (directory : PackTable) → option_map pack_of found ≡ Some (Ok directory)
    → HasNext folder pack mounts rest found directory
has_next folder pack mounts rest None directory is = cc
has_next folder pack mounts rest (Some bytes) directory is = (bytes, refl, read_bytes folder pack mounts rest bytes directory cc)

mount_read : (files : List File) (folder pack : ℕ) (bytes : List ℕ) (directory : PackTable) → bytes_of (pack_name pack) files ≡ Some bytes
    → mount_in files (kept.Pack folder pack directory) ≡ Some (pack_mount folder pack bytes directory)
mount_read files folder pack bytes directory is = ap (option_map (λ b. pack_mount folder pack b directory)) is

made_next : (folder pack left : ℕ) (files : List File) (mounts : List Mounted) (directory : PackTable) (made : List Mount)
    → map (mount_in files) mounts ≡ map Some made → in_front folder pack (packs_from (suc left) pack files) (reverse made) ≡ own_mounts folder files
    → HasNext folder pack (reverse made) (packs_from left (pack + 1) files) (bytes_of (pack_name pack) files) directory
    → AreMade folder files (pack + 1) left (mounts ++ kept.Pack folder pack directory ∷ [])
made_next folder pack left files mounts directory made told all next =
    let mount = pack_mount folder pack next.0 directory in (
      made ++ mount ∷ [],
      map_push (mount_in files) mounts (kept.Pack folder pack directory) ∙ ap (λ l. l ++ mount_in files (kept.Pack folder pack directory) ∷ []) told ∙ ap (λ m. map Some made ++ m ∷ []) (mount_read files folder pack next.0 directory next.1) ∙ sym (map_push Some made mount),
      ap (in_front folder (pack + 1) (packs_from left (pack + 1) files)) (reverse-append made (mount ∷ [])) ∙ sym next.2 ∙ all,
    )

-- one more pack
pub more_made : (folder pack left next : ℕ) (files : List File) (mounts : List Mounted) (directory : PackTable) → left ≡ suc next
    → option_map pack_of (bytes_of (pack_name pack) files) ≡ Some (Ok directory) → AreMade folder files pack left mounts
    → AreMade folder files (pack + 1) next (mounts ++ kept.Pack folder pack directory ∷ [])
more_made folder pack left next files mounts directory is found so_far =
    made_next folder pack next files mounts directory so_far.0 so_far.1 (subst (λ l. in_front folder pack (packs_from l pack files) (reverse so_far.0) ≡ own_mounts folder files) is so_far.2)
    (has_next folder pack (reverse so_far.0) (packs_from next (pack + 1) files) (bytes_of (pack_name pack) files) directory found)

-- the folder alone
pub first_made : (folder : ℕ) (files : List File) (mounts : List Mounted) → mounts ≡ kept.Folder folder ∷ [] → AreMade folder files 0 32 mounts
first_made folder files mounts is = (folder_mount folder files ∷ [], ap (map (mount_in files)) is, refl)

map_reverse : {X Y : Type 0} (f : X → Y) (xs : List X) → map f (reverse xs) ≡ reverse (map f xs)
map_reverse f [] = refl
map_reverse f (x ∷ xs) = ap (map f) (reverse_onto xs x []) ∙ map_push f (reverse xs) x ∙ ap (λ l. l ++ f x ∷ []) (map_reverse f xs) ∙ sym (reverse_onto (map f xs) (f x) [])

-- where no more packs come, these are all
all_made : (folder pack : ℕ) (files : List File) (packs : List (List ℕ)) (mounts : List Mounted) (made : List Mount) → packs ≡ [] → map (mount_in files) mounts ≡ map Some made
    → in_front folder pack packs (reverse made) ≡ own_mounts folder files → IsOkAnd (own_mounts folder files) (λ all. map (mount_in files) (reverse mounts) ≡ map Some all)
all_made folder pack files packs mounts made none told all =
    let here = map_reverse (mount_in files) mounts ∙ ap reverse told ∙ sym (map_reverse Some made) in
    subst (λ own. IsOkAnd own (λ all. map (mount_in files) (reverse mounts) ≡ map Some all)) (ap (λ l. in_front folder pack l (reverse made)) (sym none) ∙ all) here

no_bytes : (found : Option (List ℕ)) → option_map pack_of found ≡ None → found ≡ None
no_bytes None is = refl
no_bytes (Some bytes) is = cc

no_packs : (left pack : ℕ) (files : List File) → bytes_of (pack_name pack) files ≡ None → packs_from left pack files ≡ []
no_packs zero pack files none = refl
no_packs (suc left) pack files none = rw none

-- so they are where the next pack is missing
pub missing_made : (folder pack left : ℕ) (files : List File) (mounts : List Mounted) → option_map pack_of (bytes_of (pack_name pack) files) ≡ None → AreMade folder files pack left mounts
    → IsOkAnd (own_mounts folder files) (λ all. map (mount_in files) (reverse mounts) ≡ map Some all)
missing_made folder pack left files mounts none so_far = all_made folder pack files (packs_from left pack files) mounts so_far.0 (no_packs left pack files (no_bytes _ none)) so_far.1 so_far.2

-- and where no more are taken
pub full_made : (folder pack left : ℕ) (files : List File) (mounts : List Mounted) → left ≡ 0 → AreMade folder files pack left mounts
    → IsOkAnd (own_mounts folder files) (λ all. map (mount_in files) (reverse mounts) ≡ map Some all)
full_made folder pack left files mounts none so_far = all_made folder pack files (packs_from left pack files) mounts so_far.0 (ap (λ l. packs_from l pack files) none) so_far.1 so_far.2

bad_next : (folder pack : ℕ) (mounts : List Mount) (rest : List (List ℕ)) (found : Option (List ℕ)) (fault : PackFault) → option_map pack_of found ≡ Some (Err fault)
    → in_front folder pack (before_missing found rest) mounts ≡ Err (record { folder = folder; pack = pack; fault = fault })
bad_next folder pack mounts rest None fault is = cc
bad_next folder pack mounts rest (Some bytes) fault is = let bad : pack_of bytes ≡ Err fault = cc in rw bad

-- the next pack is the first bad one
pub bad_made : (folder pack left next : ℕ) (files : List File) (mounts : List Mounted) (fault : PackFault) → left ≡ suc next
    → option_map pack_of (bytes_of (pack_name pack) files) ≡ Some (Err fault) → AreMade folder files pack left mounts
    → own_mounts folder files ≡ Err (record { folder = folder; pack = pack; fault = fault })
bad_made folder pack left next files mounts fault is bad so_far =
    sym so_far.2 ∙ ap (λ l. in_front folder pack (packs_from l pack files) (reverse so_far.0)) is ∙ bad_next folder pack (reverse so_far.0) (packs_from next (pack + 1) files) (bytes_of (pack_name pack) files) fault bad

rows_pushed : (folder number : ℕ) (counts : List ℕ) (count : ℕ) → pack_rows folder number (counts ++ count ∷ []) ≡ pack_rows folder number counts ++ row.Pack folder (number + length counts) count ∷ []
rows_pushed folder number [] count = rw add-zero refl
rows_pushed folder number (first ∷ counts) count =
    let same : number + 1 + length counts ≡ number + suc (length counts) = omega arith in
    ap (λ l. row.Pack folder number first ∷ l) (rows_pushed folder (number + 1) counts count ∙ ap (λ n. pack_rows folder (number + 1) counts ++ row.Pack folder n count ∷ []) same)

-- one more row
pub more_listed : (folder pack : ℕ) (mounts : List Mounted) (directory : PackTable) → AreListed folder pack mounts → AreListed folder (pack + 1) (mounts ++ kept.Pack folder pack directory ∷ [])
more_listed folder pack mounts directory so_far =
    let at : 0 + length so_far.0 ≡ pack = omega (arith, so_far.1) in (
      so_far.0 ++ directory.count ∷ [],
      omega (arith, length-append so_far.0 (directory.count ∷ []), so_far.1),
      map_push row_of mounts (kept.Pack folder pack directory) ∙ ap (λ l. l ++ row.Pack folder pack directory.count ∷ []) so_far.2 ∙ ap (λ n. (row.Folder folder ∷ pack_rows folder 0 so_far.0) ++ row.Pack folder n directory.count ∷ []) (sym at) ∙ ap (λ l. row.Folder folder ∷ l) (sym (rows_pushed folder 0 so_far.0 directory.count)),
    )

-- all rows from the path's front on
pub all_listed : (folder pack : ℕ) (mounts : List Mounted) → pack ≤ 32 → AreListed folder pack mounts → AddsRows folder [] (map row_of (reverse mounts))
all_listed folder pack mounts few so_far =
    (so_far.0, omega (arith, so_far.1), map_reverse row_of mounts ∙ ap reverse so_far.2 ∙ reverse_onto (pack_rows folder 0 so_far.0) (row.Folder folder) [])

-- the row of the folder alone
pub first_listed : (folder : ℕ) (mounts : List Mounted) → mounts ≡ kept.Folder folder ∷ [] → AreListed folder 0 mounts
first_listed folder mounts is = ([], refl, ap (map row_of) is)

-- the same of a folder that may not tell its files

pub first_own : (folder : ℕ) (told : Option (List File)) (mounts : List Mounted) → mounts ≡ kept.Folder folder ∷ [] → All (IsOwn folder told) mounts
first_own folder told mounts is = rw is (All-push (IsOwn folder told) [] (kept.Folder folder) (λ k d short. absurd (omega arith)) refl)

pub first_told : (folder : ℕ) (told : Option (List File)) (mounts : List Mounted) → mounts ≡ kept.Folder folder ∷ [] → IfSome told (λ files. AreMade folder files 0 32 mounts)
first_told folder None mounts is = tt
first_told folder (Some files) mounts is = first_made folder files mounts is

pub more_told : (folder pack left next : ℕ) (told : Option (List File)) (mounts : List Mounted) (directory : PackTable) → left ≡ suc next
    → IfSome told (λ files. option_map pack_of (bytes_of (pack_name pack) files) ≡ Some (Ok directory)) → IfSome told (λ files. AreMade folder files pack left mounts)
    → IfSome told (λ files. AreMade folder files (pack + 1) next (mounts ++ kept.Pack folder pack directory ∷ []))
more_told folder pack left next None mounts directory is found so_far = tt
more_told folder pack left next (Some files) mounts directory is found so_far = more_made folder pack left next files mounts directory is found so_far

pub missing_told : (folder pack left : ℕ) (told : Option (List File)) (mounts : List Mounted) → IfSome told (λ files. option_map pack_of (bytes_of (pack_name pack) files) ≡ None)
    → IfSome told (λ files. AreMade folder files pack left mounts) → IfSome told (λ files. IsOkAnd (own_mounts folder files) (λ all. map (mount_in files) (reverse mounts) ≡ map Some all))
missing_told folder pack left None mounts none so_far = tt
missing_told folder pack left (Some files) mounts none so_far = missing_made folder pack left files mounts none so_far

pub full_told : (folder pack left : ℕ) (told : Option (List File)) (mounts : List Mounted) → left ≡ 0 → IfSome told (λ files. AreMade folder files pack left mounts)
    → IfSome told (λ files. IsOkAnd (own_mounts folder files) (λ all. map (mount_in files) (reverse mounts) ≡ map Some all))
full_told folder pack left None mounts none so_far = tt
full_told folder pack left (Some files) mounts none so_far = full_made folder pack left files mounts none so_far

bad_is : (folder pack left next : ℕ) (files : List File) (mounts : List Mounted) (error : MountError) → left ≡ suc next → IsFound folder pack (option_map pack_of (bytes_of (pack_name pack) files)) (Err error)
    → AreMade folder files pack left mounts → IsMounted (own_mounts folder files) [] [] (Err error)
bad_is folder pack left next files mounts (error.BadPack number bad fault) is found so_far = let first = bad_made folder pack left next files mounts fault is found.2 so_far in cc
bad_is folder pack left next files mounts (error.FolderFault number) is found so_far = tt
bad_is folder pack left next files mounts error.OutOfMemory is found so_far = tt

pub bad_told : (folder pack left next : ℕ) (told : Option (List File)) (mounts : List Mounted) (error : MountError) → left ≡ suc next
    → IfSome told (λ files. IsFound folder pack (option_map pack_of (bytes_of (pack_name pack) files)) (Err error)) → IfSome told (λ files. AreMade folder files pack left mounts)
    → IfSome told (λ files. IsMounted (own_mounts folder files) [] [] (Err error))
bad_told folder pack left next None mounts error is found so_far = tt
bad_told folder pack left next (Some files) mounts error is found so_far = bad_is folder pack left next files mounts error is found so_far

-- a filter of which more is known

pub first_in : (filter : Filter) (folder : ℕ) (mounts : List Mounted) → mounts ≡ kept.Folder folder ∷ [] → All (IsIn filter) mounts
first_in filter folder mounts is = rw is (All-push (IsIn filter) [] (kept.Folder folder) (λ k d short. absurd (omega arith)) tt)

one_in : (filter now : Filter) → ((other name : ℕ) → may_have filter.masks.items other name ≡ 1 → may_have now.masks.items other name ≡ 1) → (mounted : Mounted) → IsIn filter mounted → IsIn now mounted
one_in filter now more (kept.Folder folder) is = tt
one_in filter now more (kept.Pack folder pack directory) is = (is.0, λ j row there. more pack (hash_of row.name) (is.1 j row there))

pub still_in : (filter now : Filter) → ((other name : ℕ) → may_have filter.masks.items other name ≡ 1 → may_have now.masks.items other name ≡ 1) → (mounts : List Mounted) → All (IsIn filter) mounts → All (IsIn now) mounts
still_in filter now more mounts is = λ k d low. one_in filter now more (get_or mounts k d) (is k d low)
