-- Folders that are mounted one after another.
use Prim.Native.Nat.{zero, suc}
use Rattle.std.proofs.Common.{◌≡◌, ◌+◌, ◌≤◌, ◌<◌, ℕ, List, [], ◌∷◌, ◌++◌, length, map, Option, Some, None, IfSome, IsOkAnd, Result, Ok, Err, refl, sym, ◌∙◌, ap, subst, arith, inl, inr, take}
use Rattle.std.specs.Prelude.{slice_get, slice_index, option_map, ◌⊎◌, IsErrOf, IsErr, IsOk}
use Rattle.std.proofs.Math.Seq.{take-append_seam}
use Rattle.std.proofs.lemmas.List.{length-append, length-map, map-append, map_push}
use Rattle.outside_io.specs.Causes.{Rose}
use Rattle.outside_io.specs.Files.{File}
use Rattle.search_paths.specs.Answers.{IsMounted, IsOfFolder}
use Rattle.search_paths.specs.Calls.{Asks}
use Rattle.search_paths.specs.Counts.{NoneFalls}
use Rattle.search_paths.specs.Mounts.{Mount, BadPack, bad_pack, own_mounts, with_folders, mounted, result_and_then}
use Rattle.search_paths.specs.Path.{PathState, all_some, counts_of, told_mounts, mounts_of, AddsFolder}
use Rattle.search_paths.specs.declared.answers.MountError.{MountError}
use Rattle.search_paths.specs.declared.answers.MountError.TheVariants as error
use Rattle.search_paths.proofs.FindLaws.{each_is_there}
use Rattle.search_paths.proofs.MountLaws.{with_folders-append, mounts-mounted}
use Rattle.console_core.proofs.Knowing.{if_some, at_some}
use Rattle.console_core.specs.Ends.{IsPathOf, IsOpened, IsUnopened, OpeningEnds, HandsOver, HaveNoBadPack, IsFirstBadPack, FailsAt}
use Rattle.console_core.specs.declared.status.Status.{Status}
use Rattle.console_core.specs.declared.status.Status.TheVariants.{FolderFault, TooSmall}

-- Where all of two lists are there, all of each are.
record Parts {X : Type 0} (xs ys : List (Option X)) (all : List X) : Type 0 where
  first : List X
  rest : List X
  front : all_some xs ≡ Some first
  back : all_some ys ≡ Some rest
  is : all ≡ first ++ rest

parts_of : {X : Type 0} (xs ys : List (Option X)) (all : List X) → all_some (xs ++ ys) ≡ Some all → Parts xs ys all
parts_of [] ys all is = record { first = []; rest = all; front = refl; back = is; is = refl }
parts_of (None ∷ xs) ys all is = cc
parts_of {X} (Some x ∷ xs) ys all is = by (all_some (xs ++ ys)) (parts_of xs ys) is
  where
    by : (o : Option (List X)) → ((more : List X) → o ≡ Some more → Parts xs ys more) → option_map (λ rest. x ∷ rest) o ≡ Some all → Parts (Some x ∷ xs) ys all
    by None each same = cc
    by (Some more) each same =
        let parts = each more refl in
        let here : x ∷ more ≡ all = cc (same) in
        record { first = x ∷ parts.first; rest = parts.rest; front = ap (option_map (λ rest. x ∷ rest)) parts.front; back = parts.back; is = sym here ∙ ap (λ l. x ∷ l) parts.is }

-- so is the first of one
record Head {X : Type 0} (o : Option X) (os : List (Option X)) (all : List X) : Type 0 where
  one : X
  rest : List X
  there : o ≡ Some one
  back : all_some os ≡ Some rest
  is : all ≡ one ∷ rest

head_of : {X : Type 0} (o : Option X) (os : List (Option X)) (all : List X) → all_some (o ∷ os) ≡ Some all → Head o os all
head_of None os all is = cc
head_of {X} (Some x) os all is = by (all_some os) refl is
  where
    by : (rest : Option (List X)) → all_some os ≡ rest → option_map (λ rest. x ∷ rest) rest ≡ Some all → Head (Some x) os all
    by None known same = cc
    by (Some rest) known same = let here : x ∷ rest ≡ all = cc (same) in record { one = x; rest = rest; there = refl; back = known; is = sym here }

-- one more folder without a bad pack
good_push : (number : ℕ) (told : List (Option (List File))) (last : Option (List File)) → HaveNoBadPack number told → IfSome last (λ files. IsOk (own_mounts (number + length told) files)) → HaveNoBadPack number (told ++ last ∷ [])
good_push number [] last good own = (subst (λ n. IfSome last (λ files. IsOk (own_mounts n files))) (omega arith) own, tt)
good_push number (first ∷ told) last good own = (good.0, good_push (number + 1) told last good.1 (subst (λ n. IfSome last (λ files. IsOk (own_mounts n files))) (omega arith) own))

-- where one folder has a bad pack, the folders have no mounts
bad_own : (number : ℕ) (files : List File) (more : List (List File)) (mounts : List Mount) (bad : BadPack) → own_mounts number files ≡ Err bad → IsErr (with_folders number (files ∷ more) mounts)
bad_own number files more mounts bad is =
    let none : with_folders number (files ∷ more) mounts ≡ Err bad = ap (λ (own : Result (List Mount) BadPack). result_and_then own (λ ms. with_folders (number + 1) more (ms ++ mounts))) is in
    rw none refl

module _ (bad : BadPack) where
  bad_later : (own : Result (List Mount) BadPack) (next : List Mount → Result (List Mount) BadPack) → ((ms : List Mount) → IsErr (next ms)) → IsErr (result_and_then own next)
  bad_later (Ok ms) next each = each ms
  bad_later (Err other) next each = refl

  pub bad_folders : (number at : ℕ) (told : List (Option (List File))) (folders : List (List File)) (mounts : List Mount) (files : Option (List File)) → all_some told ≡ Some folders → slice_get told at ≡ Some files
      → IfSome files (λ all. own_mounts (number + at) all ≡ Err bad) → IsErr (with_folders number folders mounts)
  bad_folders number at [] folders mounts files all is own = cc
  bad_folders number zero (first ∷ told) folders mounts files all is own =
      let head = head_of first told folders all in
      let same : first ≡ files = cc (is) in
      let bad_is : own_mounts (number + 0) head.one ≡ Err bad = at_some (λ all. own_mounts (number + 0) all ≡ Err bad) files head.one (sym same ∙ head.there) own in
      let here : number + 0 ≡ number = omega arith in
      subst (λ l. IsErr (with_folders number l mounts)) (sym head.is) (bad_own number head.one head.rest mounts bad (ap (λ n. own_mounts n head.one) (sym here) ∙ bad_is))
  bad_folders number (suc at) (first ∷ told) folders mounts files all is own =
      let head = head_of first told folders all in
      let later : number + suc at ≡ (number + 1) + at = omega arith in
      subst (λ l. IsErr (with_folders number l mounts)) (sym head.is)
      (bad_later (own_mounts number head.one) (λ ms. with_folders (number + 1) head.rest (ms ++ mounts))
      (λ ms. bad_folders (number + 1) at told head.rest (ms ++ mounts) files head.back is (subst (λ n. IfSome files (λ all. own_mounts n all ≡ Err bad)) later own)))

-- one more count
falls_push : (xs ys : List ℕ) (a b : ℕ) → length xs ≡ length ys → NoneFalls xs ys → a ≤ b → NoneFalls (xs ++ a ∷ []) (ys ++ b ∷ [])
falls_push [] [] a b same falls le zero = le
falls_push [] [] a b same falls le (suc n) = omega arith
falls_push [] (y ∷ ys) a b same falls le n = absurd (omega arith)
falls_push (x ∷ xs) [] a b same falls le n = absurd (omega arith)
falls_push (x ∷ xs) (y ∷ ys) a b same falls le zero = falls zero
falls_push (x ∷ xs) (y ∷ ys) a b same falls le (suc n) = falls_push xs ys a b (omega arith) (λ k. falls (suc k)) le n

module _ {F : Type 0} (files_of : F → Option (List File)) (faults_of calls_of : F → ℕ) (held : List F) (folder : F) (before after : PathState F) (opened : IsPathOf files_of faults_of held before) where
  -- as many folders are held as were mounted
  pub held_length : length before.folders ≡ length held
  held_length = omega (arith, ap length opened.told, length-map before.folders files_of, length-map held files_of)

  told_length : (told : List (List File)) → all_some (map files_of held) ≡ Some told → length told ≡ length held
  told_length told is = omega (arith, ap length (each_is_there (map files_of held) told is), length-map told (λ (l : List File). Some l), length-map held files_of)

  -- the mounts of the folders, and then of one more
  after_one : (own : Result (List Mount) BadPack) (ms : List Mount) (number : ℕ) → IsOkAnd own (λ mounts. mounts_of files_of after ≡ Some (mounts ++ ms))
      → IsOkAnd (result_and_then own (λ mounts. with_folders number [] (mounts ++ ms))) (λ mounts. mounts_of files_of after ≡ Some mounts)
  after_one (Ok mounts) ms number is = is
  after_one (Err bad) ms number is = is

  after_all : (so_far : Result (List Mount) BadPack) (number : ℕ) (files : List File) → IsOkAnd so_far (λ ms. mounts_of files_of before ≡ Some ms)
      → ((ms : List Mount) → mounts_of files_of before ≡ Some ms → IsOkAnd (own_mounts number files) (λ mounts. mounts_of files_of after ≡ Some (mounts ++ ms)))
      → IsOkAnd (result_and_then so_far (with_folders number (files ∷ []))) (λ mounts. mounts_of files_of after ≡ Some mounts)
  after_all (Ok ms) number files is each = after_one (own_mounts number files) ms (number + 1) (each ms is)
  after_all (Err bad) number files is each = is

  -- one more folder was mounted
  pub opens_more : IfSome (files_of folder) (λ files. IsMounted (own_mounts (length before.folders) files) (told_mounts files_of before) (told_mounts files_of after) (Ok tt))
      → AddsFolder files_of faults_of calls_of folder before after (Ok tt) → IsPathOf files_of faults_of (held ++ folder ∷ []) after
  opens_more given added = record {
    told = ap (map files_of) added.last ∙ map_push files_of before.folders added.now ∙ ap (λ l. l ++ files_of added.now ∷ []) opened.told ∙ ap (λ o. map files_of held ++ o ∷ []) added.told ∙ sym (map_push files_of held folder);
    none_falls =
        let pushed = falls_push (map faults_of held) (map faults_of before.folders) (faults_of folder) (faults_of added.now) (omega (arith, length-map before.folders faults_of, length-map held faults_of, held_length)) opened.none_falls added.fault_count in
        let old_is = map_push faults_of held folder in
        let new_is = ap (map faults_of) added.last ∙ map_push faults_of before.folders added.now in
        subst (λ l. NoneFalls l (counts_of faults_of after)) (sym old_is) (subst (λ l. NoneFalls (map faults_of held ++ faults_of folder ∷ []) l) (sym new_is) pushed);
    good = subst (HaveNoBadPack 0) (sym (map_push files_of held folder)) (good_push 0 (map files_of held) (files_of folder) opened.good
        (subst (λ n. IfSome (files_of folder) (λ files. IsOk (own_mounts n files))) (omega (arith, held_length, length-map held files_of)) (if_some (files_of folder) (λ files is.
        ok_mounted (own_mounts (length before.folders) files) (at_some (λ all. IsMounted (own_mounts (length before.folders) all) (told_mounts files_of before) (told_mounts files_of after) (Ok tt)) (files_of folder) files is given)))));
    mounts = if_some (all_some (map files_of (held ++ folder ∷ []))) (λ told is.
        let parts = parts_of (map files_of held) (files_of folder ∷ []) told (ap all_some (sym (map_push files_of held folder)) ∙ is) in
        let head = head_of (files_of folder) [] parts.rest parts.back in
        let last : told ≡ parts.first ++ head.one ∷ [] = parts.is ∙ ap (λ l. parts.first ++ l) (head.is ∙ ap (λ l. head.one ∷ l) (some_nil head.rest head.back)) in
        let number : 0 + length parts.first ≡ length before.folders = omega (arith, told_length parts.first parts.front, held_length) in
        let mount_is = at_some (λ files. IsMounted (own_mounts (length before.folders) files) (told_mounts files_of before) (told_mounts files_of after) (Ok tt)) (files_of folder) head.one head.there given in
        let all = after_all (mounted parts.first) (0 + length parts.first) head.one (at_some (λ told. IsOkAnd (mounted told) (λ mounts. mounts_of files_of before ≡ Some mounts)) (all_some (map files_of held)) parts.first parts.front opened.mounts)
        (λ ms ms_is. mounts-mounted files_of before after (own_mounts (0 + length parts.first) head.one) ms ms_is (subst (λ n. IsMounted (own_mounts n head.one) (told_mounts files_of before) (told_mounts files_of after) (Ok tt)) (sym number) mount_is)) in
        subst (λ r. IsOkAnd r (λ mounts. mounts_of files_of after ≡ Some mounts)) (sym (ap mounted last ∙ with_folders-append 0 parts.first (head.one ∷ []) [])) all);
  }
    where
      ok_mounted : (own : Result (List Mount) BadPack) → IsMounted own (told_mounts files_of before) (told_mounts files_of after) (Ok tt) → IsOk own
      ok_mounted (Ok mounts) is = refl
      ok_mounted (Err bad) is = absurd is

      some_nil : (rest : List (List File)) → all_some {X = List File} [] ≡ Some rest → rest ≡ []
      some_nil [] is = refl
      some_nil (x ∷ rest) is = cc

  -- a folder that was mounted is held
  pub is_kept : (IsErrOf {T = Unit {0}} (Ok tt) error.OutOfMemory × (after.folders ≡ before.folders)) ⊎ AddsFolder files_of faults_of calls_of folder before after (Ok tt) → AddsFolder files_of faults_of calls_of folder before after (Ok tt)
  is_kept (inl none) = absurd (let same = none.0 in cc)
  is_kept (inr added) = added

  get_after : {X : Type 0} (xs ys : List X) (y : X) → slice_get (xs ++ y ∷ ys) (length xs) ≡ Some y
  get_after [] ys y = refl
  get_after (x ∷ xs) ys y = get_after xs ys y

  index_after : (xs ys : List ℕ) (y : ℕ) → slice_index (xs ++ y ∷ ys) (length xs) ≡ y
  index_after [] ys y = refl
  index_after (x ∷ xs) ys y = index_after xs ys y

  -- what the next folder tells, and what stands before it
  told_next : (rest : List F) (number : ℕ) → number ≡ length before.folders → slice_get (map files_of (held ++ folder ∷ rest)) number ≡ Some (files_of folder)
  told_next rest number last =
      let here : number ≡ length (map files_of held) = omega (arith, last, held_length, length-map held files_of) in
      ap (λ l. slice_get l number) (map-append files_of held (folder ∷ rest)) ∙ ap (slice_get (map files_of held ++ files_of folder ∷ map files_of rest)) here
      ∙ get_after (map files_of held) (map files_of rest) (files_of folder)

  good_before : (rest : List F) (number : ℕ) → number ≡ length before.folders → HaveNoBadPack 0 (take number (map files_of (held ++ folder ∷ rest)))
  good_before rest number last =
      let here : number ≡ length (map files_of held) = omega (arith, last, held_length, length-map held files_of) in
      let front : take number (map files_of (held ++ folder ∷ rest)) ≡ map files_of held =
      ap (take number) (map-append files_of held (folder ∷ rest)) ∙ ap (λ n. take n (map files_of held ++ files_of folder ∷ map files_of rest)) here
      ∙ take-append_seam (map files_of held) (files_of folder ∷ map files_of rest) in
      subst (HaveNoBadPack 0) (sym front) opened.good

  -- the next folder failed
  fails_next : (rest : List F) (number : ℕ) (failed : F) → number ≡ length before.folders → slice_get after.folders number ≡ Some failed → AddsFolder files_of faults_of calls_of folder before after (Err (error.FolderFault number))
      → FailsAt files_of calls_of (held ++ folder ∷ rest) number failed
  fails_next rest number failed last is added =
      let there : slice_get after.folders number ≡ Some added.now = ap (λ l. slice_get l number) added.last ∙ ap (slice_get (before.folders ++ added.now ∷ [])) last ∙ get_after before.folders [] added.now in
      let same : added.now ≡ failed = cc in
      let here : number ≡ length held = omega (arith, last, held_length) in
      let asks = added.asks in
      let kept : Asks files_of calls_of 0 folder added.now (Err (error.FolderFault number)) = record { taken = asks.taken; next = asks.next; called = asks.called; stops = asks.stops; good = asks.good; needed = asks.needed } in
      record {
        before = folder;
        is = ap (slice_get (held ++ folder ∷ rest)) here ∙ get_after held rest folder;
        good = good_before rest number last;
        asks = subst (λ f. Asks files_of calls_of 0 folder f (Err (error.FolderFault number))) same kept;
      }

  -- the folder that is handed over is what became of the next one
  failed_last : (rest : List F) (number first : ℕ) (failed : F) → number ≡ length before.folders → slice_get after.folders number ≡ Some failed → AddsFolder files_of faults_of calls_of folder before after (Err (error.FolderFault number))
      → HandsOver first files_of faults_of (map files_of (held ++ folder ∷ rest)) (map faults_of (held ++ folder ∷ rest)) (FolderFault (first + number) failed)
  failed_last rest number first failed last is added =
      let there : slice_get after.folders number ≡ Some added.now = ap (λ l. slice_get l number) added.last ∙ ap (slice_get (before.folders ++ added.now ∷ [])) last ∙ get_after before.folders [] added.now in
      let same : added.now ≡ failed = cc in
      let at_faults : number ≡ length (map faults_of held) = omega (arith, last, held_length, length-map held faults_of) in
      let told : slice_get (map files_of (held ++ folder ∷ rest)) number ≡ Some (files_of failed) = told_next rest number last ∙ ap Some (sym added.told ∙ ap files_of same) in
      let count : slice_index (map faults_of (held ++ folder ∷ rest)) number ≡ faults_of folder =
      ap (λ l. slice_index l number) (map-append faults_of held (folder ∷ rest)) ∙ ap (slice_index (map faults_of held ++ faults_of folder ∷ map faults_of rest)) at_faults
      ∙ index_after (map faults_of held) (map faults_of rest) (faults_of folder) in
      let rose : Rose (faults_of folder) (faults_of failed) = subst (λ f. Rose (faults_of folder) (faults_of f)) same added.caused in
      (number, refl, told, subst (λ n. Rose n (faults_of failed)) (sym count) rose)

  abbrev Ended : List F → ℕ → Status F → Type 0
  Ended rest first status =
      OpeningEnds first files_of calls_of (held ++ folder ∷ rest) status × HandsOver first files_of faults_of (map files_of (held ++ folder ∷ rest)) (map faults_of (held ++ folder ∷ rest)) status

  -- the opening ended with the next folder
  pub opens_no_more : (rest : List F) (fault : MountError) (first : ℕ) (status : Status F) → IfSome (files_of folder) (λ files. IsMounted (own_mounts (length before.folders) files) (told_mounts files_of before) (told_mounts files_of after) (Err fault))
      → IsOfFolder (length before.folders) fault
      → (IsErrOf {T = Unit {0}} (Err fault) error.OutOfMemory × (after.folders ≡ before.folders)) ⊎ AddsFolder files_of faults_of calls_of folder before after (Err fault)
      → IsUnopened fault first after status → IsOpened first files_of faults_of calls_of (held ++ folder ∷ rest) (Err status)
  opens_no_more rest (error.BadPack number pack fault) first status given own kept is =
      let here : number < length (map files_of (held ++ folder ∷ rest)) = omega (arith, own.0, held_length, length-map (held ++ folder ∷ rest) files_of, length-append held (folder ∷ rest)) in
      let first_bad : IsFirstBadPack (map files_of (held ++ folder ∷ rest)) (bad_pack number pack fault) = record {
        files = files_of folder;
        is = told_next rest number own.0;
        before = good_before rest number own.0;
        own = subst (λ n. IfSome (files_of folder) (λ all. own_mounts n all ≡ Err (bad_pack number pack fault))) (sym own.0) given;
      } in
      subst (λ (s : Status F). Ended rest first s) (sym is) (first_bad, (here, own.1))
  opens_no_more rest (error.FolderFault number) first status given own (inl none) is = absurd (let same = none.0 in cc)
  opens_no_more rest (error.FolderFault number) first status given own (inr added) is =
      subst (λ (s : Status F). Ended rest first s) (sym is.1) ((number, refl, fails_next rest number is.0 own is.2 added), failed_last rest number first is.0 own is.2 added)
  opens_no_more rest error.OutOfMemory first status given own kept is = subst (λ (s : Status F). Ended rest first s) (sym is) (tt, tt)

pub not_small : {F : Type 0} (fault : MountError) (first : ℕ) (path : PathState F) (status : Status F) → IsUnopened fault first path status → status ≡ TooSmall → ⊥
not_small (error.BadPack number pack fault) first path status is small = cc
not_small (error.FolderFault number) first path status is small = let named = is.1 in cc
not_small error.OutOfMemory first path status is small = cc
