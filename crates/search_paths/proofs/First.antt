-- The first mount that has a name, as mounts are asked one after another.
use Rattle.std.proofs.Common.{◌≡◌, ℕ, suc, ◌+◌, ◌<◌, List, ◌∷◌, length, map, drop, get_or, Option, Some, None, IfSome, refl, sym, ap, subst, ◌∙◌, ◌≤◌, add-one, drop-cons, arith}
use Rattle.std.specs.Prelude.{slice_get, option_map}
use Rattle.std.specs.Option.{option_flatten}
use Rattle.std.proofs.Math.ListN.{get_or-map}
use Rattle.std.proofs.lemmas.Grind.{common_steps}
use Rattle.std.proofs.lemmas.List.{drop_all}
use Rattle.std.proofs.lemmas.Option.{slice_get-map, slice_get_read}
use Rattle.outside_io.specs.Files.{File}
use Rattle.search_paths.specs.declared.answers.FileRef.{FileRef}
use Rattle.search_paths.specs.declared.mounted.Mounted.{Mounted}
use Rattle.search_paths.specs.Answers.{ref_of, placed, HasFile}
use Rattle.search_paths.specs.Kept.{mount_of}
use Rattle.search_paths.specs.Mounts.{FileAt, Mount, file_in, here_or_later, find_told_from}

-- this is the first file of the name in these mounts, the first of this number, where they tell it
abbrev pub IsFirst : ℕ → List ℕ → List (Option Mount) → Option FileRef → Type 0
IsFirst number name mounts file = IfSome (find_told_from number name mounts) (λ found. file ≡ option_map placed found)

-- this is what the mount has of the name
abbrev pub IsIn : ℕ → List ℕ → Option Mount → Option FileRef → Type 0
IsIn number name mount file = IfSome mount (λ m. file ≡ option_map (ref_of number) (file_in name m.files))

-- in front of the others, a mount without the name
behind : (number : ℕ) (file : Option FileRef) (found : Option FileAt) (later : Option (Option (ℕ × FileAt))) → None ≡ option_map (ref_of number) found → IfSome later (λ found. file ≡ option_map placed found)
    → IfSome (here_or_later number found later) (λ found. file ≡ option_map placed found)
behind number file None later none is = is
behind number file (Some at) later none is = absurd (cc)

pub without : (number : ℕ) (name : List ℕ) (mount : Option Mount) (mounts : List (Option Mount)) (file : Option FileRef) → IsIn number name mount None → IsFirst (number + 1) name mounts file → IsFirst number name (mount ∷ mounts) file
without number name None mounts file none is = tt
without number name (Some mount) mounts file none is = behind number file (file_in name mount.files) (find_told_from (number + 1) name mounts) none is

-- and one with it
front : (number : ℕ) (file : FileRef) (found : Option FileAt) (later : Option (Option (ℕ × FileAt))) → Some file ≡ option_map (ref_of number) found
    → IfSome (here_or_later number found later) (λ found. Some file ≡ option_map placed found)
front number file None later is = absurd (cc)
front number file (Some at) later is = is

pub with : (number : ℕ) (name : List ℕ) (mount : Option Mount) (mounts : List (Option Mount)) (file : FileRef) → IsIn number name mount (Some file) → IsFirst number name (mount ∷ mounts) (Some file)
with number name None mounts file is = tt
with number name (Some mount) mounts file is = front number file (file_in name mount.files) (find_told_from (number + 1) name mounts) is

-- the mounts from one on
from_one : {A B : Type 0} (v : A → B) (xs : List A) (at : ℕ) (x : A) → at < length xs → x ≡ get_or xs at x → drop at (map v xs) ≡ v x ∷ drop (at + 1) (map v xs)
from_one v xs at x inside is =
    let within : at < length (map v xs) = grind (arith, common_steps) in
    drop-cons (map v xs) at (v x) within ∙ ap (λ y. y ∷ drop (suc at) (map v xs)) (get_or-map v xs at x ∙ ap v (sym is)) ∙ ap (λ n. v x ∷ drop n (map v xs)) (sym (add-one at))

-- What the mounts from this one on have is what all have, since those before have no file of the name.
abbrev pub NoneBefore : List ℕ → List (Option Mount) → ℕ → Type 0
NoneBefore name mounts number = (file : Option FileRef) → IsFirst number name (drop number mounts) file → IsFirst 0 name mounts file

-- the mount that was read of the list
pub mount_read : (told : List (Option (List File))) (mounts : List Mounted) (number : ℕ) (mounted : Mounted) → number < length mounts → mounted ≡ get_or mounts number mounted → option_flatten (slice_get (map (mount_of told) mounts) number) ≡ mount_of told mounted
mount_read told mounts number mounted inside is =
    ap option_flatten (slice_get-map (mount_of told) mounts number ∙ ap (option_map (mount_of told)) (slice_get_read mounts (length mounts) number mounted refl inside is))

-- The folders tell what they told at first, and one mount was asked for the name.
module _ (name : List ℕ) (told now : List (Option (List File))) (mounts : List Mounted) (number : ℕ) (mounted : Mounted) (same : now ≡ told) (inside : number < length mounts) (is : mounted ≡ get_or mounts number mounted) where
  asked : (file : Option FileRef) → IsIn number name (mount_of now mounted) file → IsIn number name (mount_of told mounted) file
  asked file found = subst (λ t. IsIn number name (mount_of t mounted) file) same found

  from_here : (file : Option FileRef) → IsFirst number name (mount_of told mounted ∷ drop (number + 1) (map (mount_of told) mounts)) file → IsFirst number name (drop number (map (mount_of told) mounts)) file
  from_here file first = subst (λ l. IsFirst number name l file) (sym (from_one (mount_of told) mounts number mounted inside is)) first

  pub one_more_without : IsIn number name (mount_of now mounted) None → NoneBefore name (map (mount_of told) mounts) number → NoneBefore name (map (mount_of told) mounts) (number + 1)
  one_more_without none before file first = before file (from_here file (without number name (mount_of told mounted) (drop (number + 1) (map (mount_of told) mounts)) file (asked None none) first))

  pub first_with : (file : FileRef) → IsIn number name (mount_of now mounted) (Some file) → NoneBefore name (map (mount_of told) mounts) number → IsFirst 0 name (map (mount_of told) mounts) (Some file)
  first_with file found before = before (Some file) (from_here (Some file) (with number name (mount_of told mounted) (drop (number + 1) (map (mount_of told) mounts)) file (asked (Some file) found)))

  -- the file stands in the mount of its number
  has_file : (mount : Option Mount) (file : FileRef) → file.mount ≡ number → IsIn number name mount (Some file) → HasFile name file mount
  has_file None file at found = tt
  has_file (Some mount) file at found = ap (λ n. option_map (ref_of n) (file_in name mount.files)) at ∙ sym found

  pub there : (file : FileRef) → IsIn number name (mount_of now mounted) (Some file) → file.mount ≡ number → HasFile name file (option_flatten (slice_get (map (mount_of told) mounts) file.mount))
  there file found at =
      let here : option_flatten (slice_get (map (mount_of told) mounts) file.mount) ≡ mount_of told mounted =
      ap (λ n. option_flatten (slice_get (map (mount_of told) mounts) n)) at ∙ mount_read told mounts number mounted inside is in
      subst (HasFile name file) (sym here) (has_file (mount_of told mounted) file at (asked (Some file) found))

pub none_at_all : (name : List ℕ) (mounts : List (Option Mount)) (number : ℕ) → length mounts ≤ number → NoneBefore name mounts number → IsFirst 0 name mounts None
none_at_all name mounts number all before = before None (subst (λ l. IsFirst number name l None) (sym (drop_all number mounts all)) refl)
