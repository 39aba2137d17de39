-- Laws of folders that are mounted one after another.
use Rattle.std.proofs.Common.{◌≡◌, ℕ, ◌+◌, List, [], ◌∷◌, ◌++◌, length, map, Option, Some, Ok, Err, refl, sym, ap, ◌∙◌, arith}
use Rattle.std.specs.Prelude.{Result, IsOkAnd}
use Rattle.std.proofs.lemmas.List.{map-append}
use Rattle.outside_io.specs.Files.{File}
use Rattle.search_paths.specs.Answers.{IsMounted}
use Rattle.search_paths.specs.Mounts.{Mount, BadPack, result_and_then, own_mounts, with_folders}
use Rattle.search_paths.specs.Path.{PathState, all_some, told_mounts, mounts_of}
use Rattle.search_paths.proofs.FindLaws.{each_is_there, all_are_there}

-- More folders come in front of those before; a bad pack among the first ends it.
pub with_folders-append : (number : ℕ) (first rest : List (List File)) (path : List Mount) → with_folders number (first ++ rest) path ≡ result_and_then (with_folders number first path) (with_folders (number + length first) rest)
with_folders-append number [] rest path = ap (λ n. with_folders n rest path) (omega arith)
with_folders-append number (files ∷ first) rest path = by (own_mounts number files) (λ own. with_folders-append (number + 1) first rest (own ++ path))
  where
    later : number + 1 + length first ≡ number + length (files ∷ first)
    later = omega arith

    by : (own : Result (List Mount) BadPack) → ((ms : List Mount) → with_folders (number + 1) (first ++ rest) (ms ++ path) ≡ result_and_then (with_folders (number + 1) first (ms ++ path)) (with_folders (number + 1 + length first) rest))
        → result_and_then own (λ ms. with_folders (number + 1) (first ++ rest) (ms ++ path)) ≡ result_and_then (result_and_then own (λ ms. with_folders (number + 1) first (ms ++ path))) (with_folders (number + length (files ∷ first)) rest)
    by (Err bad) each = refl
    by (Ok ms) each = each ms ∙ ap (λ n. result_and_then (with_folders (number + 1) first (ms ++ path)) (with_folders n rest)) later

-- A mounted folder's mounts stand in front of the path.
pub mounts-mounted : {F : Type 0} (files : F → Option (List File)) (before after : PathState F) (own : Result (List Mount) BadPack) (path : List Mount) → mounts_of files before ≡ Some path → IsMounted own (told_mounts files before) (told_mounts files after) (Ok tt)
    → IsOkAnd own (λ mounts. mounts_of files after ≡ Some (mounts ++ path))
mounts-mounted files before after (Err bad) path told is = is
mounts-mounted files before after (Ok mounts) path told is =
    ap all_some (is ∙ ap (λ l. map Some mounts ++ l) (each_is_there (told_mounts files before) path told) ∙ sym (map-append Some mounts path)) ∙ all_are_there (mounts ++ path)
