-- The rows of the path are those of its mounts.
use Rattle.std.proofs.Common.{◌≡◌, ℕ, ◌<◌, ◌≤◌, true, false, nat_lt, List, [], ◌∷◌, length, map, get_or, Option, Some, None, IfSome, refl, ap, sym, ◌∙◌, arith}
use Rattle.std.specs.Prelude.{slice_get, option_map, option_and_then}
use Rattle.std.proofs.lemmas.Bool.Decides.{nat_tests}
use Rattle.std.proofs.lemmas.Option.{slice_get-map, slice_get_read, slice_get_past}
use Rattle.outside_io.specs.Files.{File, bytes_of}
use Rattle.search_paths.specs.declared.answers.MountRow.{MountRow}
use Rattle.search_paths.specs.declared.mounted.Mounted.{Mounted}
use Rattle.search_paths.specs.declared.mounted.Mounted.TheVariants as kept
use Rattle.search_paths.specs.Kept.{row_of, mount_of, told_at}
use Rattle.search_paths.specs.Mounts.{Mount, folder_mount, pack_mount, pack_name}
use Rattle.search_paths.specs.Path.{all_some}

-- how a mount is listed
abbrev listed_as : Mount → MountRow
listed_as mount = mount.row

is_listed : (row : MountRow) {X : Type 0} (given : Option X) (mount : X → Mount) → ((x : X) → listed_as (mount x) ≡ row) → IfSome (option_map mount given) (λ m. listed_as m ≡ row)
is_listed row None mount is = tt
is_listed row (Some x) mount is = is x

mount_is_listed : (told : List (Option (List File))) (mounted : Mounted) → IfSome (mount_of told mounted) (λ mount. listed_as mount ≡ row_of mounted)
mount_is_listed told (kept.Folder folder) = is_listed _ (told_at folder told) (folder_mount folder) (λ x. refl)
mount_is_listed told (kept.Pack folder pack directory) = is_listed _ (option_and_then (bytes_of (pack_name pack)) (told_at folder told)) (λ bytes. pack_mount folder pack bytes directory) (λ x. refl)

both : (first : Option Mount) (rest : Option (List Mount)) (row : MountRow) (rows : List MountRow) → IfSome first (λ mount. listed_as mount ≡ row) → IfSome rest (λ mounts. map listed_as mounts ≡ rows)
    → IfSome (option_and_then (λ one. option_map (λ more. one ∷ more) rest) first) (λ mounts. map listed_as mounts ≡ row ∷ rows)
both None rest row rows is are = tt
both (Some mount) None row rows is are = tt
both (Some mount) (Some mounts) row rows is are = cc

pub all_are_listed : (told : List (Option (List File))) (mounts : List Mounted) → IfSome (all_some (map (mount_of told) mounts)) (λ all. map listed_as all ≡ map row_of mounts)
all_are_listed told [] = refl
all_are_listed told (mounted ∷ mounts) = both (mount_of told mounted) (all_some (map (mount_of told) mounts)) (row_of mounted) (map row_of mounts) (mount_is_listed told mounted) (all_are_listed told mounts)

-- the row of a number is that of the mount of this number
row_in : (all : Option (List Mount)) (rows : List MountRow) (number : ℕ) (row : Option MountRow) → IfSome all (λ mounts. map listed_as mounts ≡ rows) → row ≡ slice_get rows number → IfSome all (λ mounts. row ≡ option_map listed_as (slice_get mounts number))
row_in None rows number row are is = tt
row_in (Some mounts) rows number row are is = is ∙ ap (λ l. slice_get l number) (sym are) ∙ slice_get-map listed_as mounts number

pub row_is_listed : (told : List (Option (List File))) (mounts : List Mounted) (number : ℕ) (row : Option MountRow) → row ≡ slice_get (map row_of mounts) number → IfSome (all_some (map (mount_of told) mounts)) (λ all. row ≡ option_map (λ mount. mount.row) (slice_get all number))
row_is_listed told mounts number row is = row_in (all_some (map (mount_of told) mounts)) (map row_of mounts) number row (all_are_listed told mounts) is

-- the row of what was read of the list
pub row_read : (shown mounts : List Mounted) (number : ℕ) (mounted : Mounted) (row : MountRow) → shown ≡ mounts → true ≡ nat_lt number (length shown) → mounted ≡ get_or shown number mounted → row ≡ row_of mounted → Some row ≡ slice_get (map row_of mounts) number
row_read shown mounts number mounted row same inside is row_is =
    let here : number < length shown = grind (arith, nat_tests, inside) in
    let found : slice_get shown number ≡ Some mounted = slice_get_read shown (length shown) number mounted refl here is in
    ap Some row_is ∙ ap (option_map row_of) (sym found) ∙ sym (slice_get-map row_of shown number) ∙ ap (λ l. slice_get (map row_of l) number) same

-- and of one past its end
pub no_row : (shown mounts : List Mounted) (number : ℕ) → shown ≡ mounts → false ≡ nat_lt number (length shown) → None ≡ slice_get (map row_of mounts) number
no_row shown mounts number same outside =
    let past : length shown ≤ number = grind (arith, nat_tests, outside) in
    ap (option_map row_of) (sym (slice_get_past shown number past)) ∙ sym (slice_get-map row_of shown number) ∙ ap (λ l. slice_get (map row_of l) number) same
