-- Which folders were called.
use Prim.Native.Nat.{zero, suc}
use Rattle.std.proofs.Common.{◌≡◌, ◌≢◌, ℕ, ◌+◌, ◌<◌, List, [], ◌∷◌, ◌++◌, length, map, take, drop, get_or, set, All, Option, Some, Ok, Err, refl, sym, ◌∙◌, ap, subst, arith}
use Rattle.std.specs.Prelude.{slice_get, slice_index, slice_set, IfSome}
use Rattle.std.proofs.Math.ListN.{get_or-map}
use Rattle.std.proofs.lemmas.List.{length-append, length-map, map-set, take_more, drop_all, get_or_append_left}
use Rattle.std.proofs.Math.Seq.{take-append_seam}
use Rattle.std.proofs.lemmas.List.Elements.{All-head, All-tail}
use Rattle.std.proofs.lemmas.Option.{slice_get_read}
use Rattle.outside_io.specs.Causes.{one_more}
use Rattle.outside_io.specs.Files.{File}
use Rattle.search_paths.specs.declared.answers.FileRef.{FileRef}
use Rattle.search_paths.specs.declared.answers.FolderFault.{FolderFault}
use Rattle.search_paths.specs.declared.answers.MountRow.{MountRow}
use Rattle.search_paths.specs.declared.answers.MountRow.TheVariants as row
use Rattle.search_paths.specs.declared.mounted.Mounted.{Mounted}
use Rattle.search_paths.specs.declared.mounted.Mounted.TheVariants as kept
use Rattle.search_paths.specs.Answers.{folders_among, folder_in, AsksInOrder}
use Rattle.search_paths.specs.Counts.{calls_more, CallsOnce}
use Rattle.search_paths.specs.Kept.{row_of, folder_of, mount_of, IsDirectory}
use Rattle.pack_files.specs.declared.filter.Filter.{Filter}
use Rattle.search_paths.specs.Path.{IsPath, SamePath}

get_other : {X : Type 0} (xs : List X) (at number : ℕ) (new : X) → (at ≡ number → ⊥) → slice_get (set xs at new) number ≡ slice_get xs number
get_other [] at number new apart = refl
get_other (x ∷ xs) zero zero new apart = absurd (apart refl)
get_other (x ∷ xs) zero (suc number) new apart = refl
get_other (x ∷ xs) (suc at) zero new apart = refl
get_other (x ∷ xs) (suc at) (suc number) new apart = get_other xs at number new (λ same. apart (ap suc same))

-- one call of a folder
pub called_at : {F : Type 0} (calls : F → ℕ) (xs : List F) (at : ℕ) (before new : F) → slice_index (map calls xs) at ≡ calls before → calls new ≡ one_more (calls before) → CallsOnce calls (at ∷ []) xs (set xs at new)
called_at calls xs at before new was counted = record {
  counted = map-set calls xs at new ∙ ap (λ n. slice_set (map calls xs) at n) (counted ∙ ap one_more (sym was));
  others = λ number apart. get_other xs at number new (All-head (λ folder. folder ≢ number) at [] apart);
}

pub called_none : {F : Type 0} (calls : F → ℕ) (xs : List F) → CallsOnce calls [] xs xs
called_none calls xs = record { counted = refl; others = λ number apart. refl }

more-append : (first second counts : List ℕ) → calls_more (first ++ second) counts ≡ calls_more second (calls_more first counts)
more-append [] second counts = refl
more-append (folder ∷ first) second counts = more-append first second (slice_set counts folder (one_more (slice_index counts folder)))

all_first : {X : Type 0} (P : X → Type 0) (xs ys : List X) → All P (xs ++ ys) → All P xs
all_first P xs ys all = λ k d below. subst P (get_or_append_left xs ys d k below) (all k d (omega (arith, below, length-append xs ys)))

all_second : {X : Type 0} (P : X → Type 0) (xs ys : List X) → All P (xs ++ ys) → All P ys
all_second P [] ys all = all
all_second P (x ∷ xs) ys all = all_second P xs ys (All-tail P x (xs ++ ys) all)

pub called_then : {F : Type 0} (calls : F → ℕ) (first second : List ℕ) (a b c : List F) → CallsOnce calls first a b → CallsOnce calls second b c → CallsOnce calls (first ++ second) a c
called_then calls first second a b c one two = record {
  counted = two.counted ∙ ap (calls_more second) one.counted ∙ sym (more-append first second (map calls a));
  others = λ number apart. two.others number (all_second (λ folder. folder ≢ number) first second apart) ∙ one.others number (all_first (λ folder. folder ≢ number) first second apart);
}

among-append : (xs ys : List MountRow) → folders_among (xs ++ ys) ≡ folders_among xs ++ folders_among ys
among-append [] ys = refl
among-append (row.Folder folder ∷ xs) ys = ap (λ l. folder ∷ l) (among-append xs ys)
among-append (row.Pack folder pack count ∷ xs) ys = among-append xs ys

module _ {F : Type 0} (calls : F → ℕ) (mounts : List Mounted) (number : ℕ) (mounted : Mounted) (inside : number < length mounts) (is : mounted ≡ get_or mounts number mounted) where
  within : number < length (map row_of mounts)
  within = omega (arith, inside, length-map mounts row_of)

  row_is : get_or (map row_of mounts) number (row_of mounted) ≡ row_of mounted
  row_is = get_or-map row_of mounts number mounted ∙ ap row_of (sym is)

  -- one mount more was asked
  pub asked_more : (a b c : List F) → CallsOnce calls (folders_among (take number (map row_of mounts))) a b → CallsOnce calls (folders_among (row_of mounted ∷ [])) b c → CallsOnce calls (folders_among (take (number + 1) (map row_of mounts))) a c
  asked_more a b c so_far one =
      let longer : take (number + 1) (map row_of mounts) ≡ take number (map row_of mounts) ++ row_of mounted ∷ [] =
      take_more (map row_of mounts) number (row_of mounted) within ∙ ap (λ r. take number (map row_of mounts) ++ r ∷ []) row_is in
      let folders : folders_among (take (number + 1) (map row_of mounts)) ≡ folders_among (take number (map row_of mounts)) ++ folders_among (row_of mounted ∷ []) = ap folders_among longer ∙ among-append (take number (map row_of mounts)) (row_of mounted ∷ []) in
      subst (λ l. CallsOnce calls l a c) (sym folders) (called_then calls (folders_among (take number (map row_of mounts))) (folders_among (row_of mounted ∷ [])) a b c so_far one)

  row_there : slice_get (map row_of mounts) number ≡ Some (row_of mounted)
  row_there = slice_get_read (map row_of mounts) (length (map row_of mounts)) number (row_of mounted) refl within (sym row_is)

  pub asks_found : (a b c : List F) (file : FileRef) → file.mount ≡ number → CallsOnce calls (folders_among (take number (map row_of mounts))) a b → CallsOnce calls (folders_among (row_of mounted ∷ [])) b c
      → AsksInOrder calls (map row_of mounts) a c (Ok (Some file))
  asks_found a b c file at so_far one = record { most = number + 1; asked = omega (arith, at); called = asked_more a b c so_far one }

  pub asks_failed : (a b c : List F) (fault : FolderFault) → row_of mounted ≡ row.Folder fault.folder → CallsOnce calls (folders_among (take number (map row_of mounts))) a b → CallsOnce calls (folders_among (row_of mounted ∷ [])) b c
      → AsksInOrder calls (map row_of mounts) a c (Err fault)
  asks_failed a b c fault folder so_far one = record { most = number + 1; asked = (number, refl, row_there ∙ ap (λ (r : MountRow). Some r) folder); called = asked_more a b c so_far one }

-- a mount of a number, by its row
pub called_in : {F : Type 0} (calls : F → ℕ) (a b : List F) (mounts : List Mounted) (number : ℕ) (mounted : Mounted) → mounted ≡ get_or mounts number mounted → number < length mounts → CallsOnce calls (folder_of mounted ∷ []) a b
    → IfSome (slice_get (map row_of mounts) number) (λ listed. CallsOnce calls (folder_in listed ∷ []) a b)
called_in calls a b mounts number mounted is inside once =
    rw (row_there calls mounts number mounted inside is) (by mounted once)
  where
    by : (m : Mounted) → CallsOnce calls (folder_of m ∷ []) a b → CallsOnce calls (folder_in (row_of m) ∷ []) a b
    by (kept.Folder folder) one = one
    by (kept.Pack folder pack directory) one = one

-- what was written back to the folders that were lent
pub written_back : {F : Type 0} (size : ℕ) (new old : List F) → size ≡ length old → length new ≡ length old → take size (new ++ drop (length new) old) ≡ new
written_back size new old whole same =
    ap (λ l. take size (new ++ l)) (drop_all (length new) old (omega (arith, same))) ∙ ap (λ n. take n (new ++ [])) (whole ∙ sym same) ∙ take-append_seam new []

-- a path whose folders tell what they told
module _ {F : Type 0} (files : F → Option (List File)) (before now : List F) (mounts : List Mounted) (told : map files now ≡ map files before) where
  many : length now ≡ length before
  many = omega (arith, ap length told, length-map now files, length-map before files)

  pub still_path : (filters : List Filter) → IsPath files filters (record { folders = before; mounts = mounts }) → IsPath files filters (record { folders = now; mounts = mounts })
  still_path filters is = record {
    one_each = is.one_each ∙ sym many;
    filtered = is.filtered;
    most = omega (arith, is.most, many);
    few = omega (arith, is.few, many);
    inside = subst (λ n. All (λ mounted. folder_of mounted < n) mounts) (sym many) is.inside;
    read = subst (λ t. All (IsDirectory t) mounts) (sym told) is.read;
  }

  pub still_same : SamePath files (record { folders = before; mounts = mounts }) (record { folders = now; mounts = mounts })
  still_same = record { rows = refl; mounts = ap (λ t. map (mount_of t) mounts) told; told = told }
