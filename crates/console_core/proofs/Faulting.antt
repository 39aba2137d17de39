-- How a run ends by a fault.
use Prim.Native.Nat.{zero, suc}
use Rattle.std.proofs.Common.{Bool, ◌≡◌, ◌+◌, ◌∙◌, ℕ, List, [], ◌∷◌, length, map, drop, Option, Some, None, IfSome, IfErr, Result, Ok, Err, IsOkAnd, inr, refl, sym, subst, ap, arith}
use Rattle.std.specs.Prelude.{slice_get, slice_index, option_map}
use Rattle.std.proofs.lemmas.List.{length-map, length-drop}
use Rattle.std.proofs.lemmas.Option.{slice_get-map, get_or_from_slice_get}
use Rattle.outside_io.specs.Causes.{Rose}
use Rattle.outside_io.specs.Files.{File}
use Rattle.outside_io.specs.declared.outside.Folder.{Ghosts as FolderGhosts}
use Rattle.search_paths.specs.declared.answers.MountRow.{MountRow}
use Rattle.search_paths.specs.Counts.{NoneFalls}
use Rattle.search_paths.specs.Mounts.{Mount, mounted, BadPack as BadPackOf}
use Rattle.search_paths.specs.Path.{PathState, all_some, rows_of, told_of, told_mounts, mounts_of}
use Rattle.search_paths.proofs.FindLaws.{each_is_there, rows-told}
use Rattle.console_session.specs.States.{State, PathSeen, CauseOf}
use Rattle.console_session.specs.Serving.{path_of}
use Rattle.console_core.proofs.Knowing.{if_some, at_some}
use Rattle.command_line.specs.declared.words.Request.{Request}
use Rattle.console_session.specs.Sessions.{told_end}
use Rattle.console_session.specs.declared.ends.StepEnd.{StepEnd}
use Rattle.console_session.specs.declared.ends.StepEnd.TheVariants as step
use Rattle.console_core.specs.Outside.{Outside}
use Rattle.console_core.specs.Ends.{first_state, path_on, told_state, IsPathOf, IsCutAt, RunEnds, OnPath, HandsOver, HandsBack, IsFailedFolder, IsStatusOf}
use Rattle.console_session.specs.declared.ends.Fault.{Fault}
use Rattle.console_session.specs.declared.ends.Fault.TheVariants as fault
use Rattle.console_core.specs.declared.status.Status.{Status}
use Rattle.console_core.specs.declared.status.Status.TheVariants.{Done, OutOfMemory, BadPack, ScriptFault, FolderFault, WriteFault, ScriptTooLong}

-- what is handed over, where a fault has its cause
pub hands_over : {F : Type 0} (status : Status F) (first : ℕ) (files : F → Option (List File)) (faults : F → ℕ) (told : List (Option (List File))) (frugal : Bool) (before counts : List ℕ) (sink_before sink_now : ℕ) (end : StepEnd)
    → IfErr (told_end end) (λ fault. CauseOf frugal before counts sink_before sink_now fault) → IsStatusOf end first files faults told counts status → HandsOver first files faults told before status
hands_over status first files faults told frugal before counts sink_before sink_now (step.FolderFault number) cause is =
    let count : slice_index counts number ≡ faults is.0 = get_or_from_slice_get counts number (faults is.0) 0 is.3 in
    subst (λ s. HandsOver first files faults told before s) (sym is.1) (number, refl, is.2, subst (λ n. Rose (slice_index before number) n) count cause.1)
hands_over status first files faults told frugal before counts sink_before sink_now step.Went cause is = subst (λ s. HandsOver first files faults told before s) (sym is) tt
hands_over status first files faults told frugal before counts sink_before sink_now step.Quit cause is = subst (λ s. HandsOver first files faults told before s) (sym is) tt
hands_over status first files faults told frugal before counts sink_before sink_now step.WriteFault cause is = subst (λ s. HandsOver first files faults told before s) (sym is) tt
hands_over status first files faults told frugal before counts sink_before sink_now step.OutOfMemory cause is = subst (λ s. HandsOver first files faults told before s) (sym is) tt

-- what is handed over since some counts is so since earlier ones
pub hands_earlier : {F : Type 0} (status : Status F) (first : ℕ) (files : F → Option (List File)) (faults : F → ℕ) (told : List (Option (List File))) (before counts : List ℕ)
    → NoneFalls before counts → HandsOver first files faults told counts status → HandsOver first files faults told before status
hands_earlier (FolderFault word folder) first files faults told before counts none_falls hands =
    let rose : Rose (slice_index before hands.0) (faults folder) = omega (arith, none_falls hands.0, hands.3) in
    (hands.0, hands.1, hands.2, rose)
hands_earlier (BadPack folder pack fault) first files faults told before counts none_falls hands = hands
hands_earlier status first files faults told before counts none_falls hands = tt

unknown_cut : (before now : Outside) (fault : Fault) (first : Option State) → IsCutAt fault first before now → IsCutAt fault None before now
unknown_cut before now fault first cut = record { taken = cut.taken; took = cut.took; size = cut.size; put = tt; held = inr tt }

module _ {F : Type 0} (request : Request) (event_room : ℕ) (before now : Outside) where
  -- what is so of a run from a known state is so where nothing is known of it
  unknown_state : (first : Option State) (status : Status F) → RunEnds first request.first before now status → RunEnds None request.first before now status
  unknown_state first Done ends = record { taken = ends.taken; took = ends.took; size = ends.size; put = tt; all = inr tt }
  unknown_state first OutOfMemory ends = unknown_cut before now fault.Memory first ends
  unknown_state first ScriptFault ends = record { taken = ends.taken; took = ends.took; size = ends.size; put = tt }
  unknown_state first (FolderFault word folder) ends = (ends.0, ends.1, unknown_cut before now (fault.Folder ends.0) first ends.2)
  unknown_state first WriteFault ends = unknown_cut before now fault.Write first ends
  unknown_state first ScriptTooLong ends = record { taken = ends.taken; took = ends.took; size = ends.size; put = tt }
  unknown_state first status ends = ends

  -- a run on the path of the folders
  pub ends_on_path : (told : Option (List (List File))) (first : Option State) (status : Status F) → IfSome told (λ folders. IsOkAnd (mounted folders) (λ ms. first ≡ Some (first_state request event_room (path_on folders ms))))
      → RunEnds first request.first before now status → OnPath told (λ path. RunEnds (option_map (first_state request event_room) path) request.first before now status)
  ends_on_path None first status is ends = unknown_state first status ends
  ends_on_path (Some folders) first status is ends = by (mounted folders) refl is
    where
      by : (path : Result (List Mount) BadPackOf) → mounted folders ≡ path → IsOkAnd path (λ ms. first ≡ Some (first_state request event_room (path_on folders ms)))
          → OnPath (Some folders) (λ path. RunEnds (option_map (first_state request event_room) path) request.first before now status)
      by (Ok ms) path_is same = (ms, path_is, subst (λ (s : Option State). RunEnds s request.first before now status) same ends)
      by (Err bad) path_is same = absurd same

-- The state from which a run on a path of folders that tell their files starts.
module _ {F : Type 0} (folder : FolderGhosts F) (held : List F) (path : PathState F) (request : Request) (event_room : ℕ) (opened : IsPathOf folder.files folder.folder_faults held path) where
  seen_path : (folders : List (List File)) (ms : List Mount) → all_some (map folder.files held) ≡ Some folders → mounts_of folder.files path ≡ Some ms → path_of folder path ≡ path_on folders ms
  seen_path folders ms told there =
      let seen_of : List MountRow → List (Option Mount) → List (Option (List File)) → PathSeen = λ (rows : List MountRow) (mounts : List (Option Mount)) (told : List (Option (List File))). record { rows = rows; mounts = mounts; told = told } in
      let rows_is : rows_of path ≡ map (λ mount. mount.row) ms = sym (rows-told folder.files path ms there) in
      let mounts_is : told_mounts folder.files path ≡ map Some ms = each_is_there (told_mounts folder.files path) ms there in
      let told_is : told_of folder.files path ≡ map Some folders = opened.told ∙ each_is_there (map folder.files held) folders told in
      ap (λ r. seen_of r (told_mounts folder.files path) (told_of folder.files path)) rows_is
      ∙ ap (λ m. seen_of (map (λ mount. mount.row) ms) m (told_of folder.files path)) mounts_is
      ∙ ap (λ t. seen_of (map (λ mount. mount.row) ms) (map Some ms) t) told_is

  pub starts_on_path : (s : State) → s ≡ first_state request event_room (path_of folder path)
      → IfSome (all_some (map folder.files held)) (λ folders. IsOkAnd (mounted folders) (λ ms. told_state s ≡ Some (first_state request event_room (path_on folders ms))))
  starts_on_path s is = if_some (all_some (map folder.files held)) (λ folders told. by folders told (mounted folders) (at_some (λ given. IsOkAnd (mounted given) (λ mounts. mounts_of folder.files path ≡ Some mounts)) (all_some (map folder.files held)) folders told opened.mounts))
    where
      by : (folders : List (List File)) → all_some (map folder.files held) ≡ Some folders → (given : Result (List Mount) BadPackOf) → IsOkAnd given (λ mounts. mounts_of folder.files path ≡ Some mounts)
          → IsOkAnd given (λ ms. told_state s ≡ Some (first_state request event_room (path_on folders ms)))
      by folders told (Ok ms) there =
          ap told_state is
          ∙ ap (λ (all : Option (List Mount)). option_map (λ mounts. first_state request event_room (path_of folder path)) all) there
          ∙ ap (λ p. Some (first_state request event_room p)) (seen_path folders ms told there)
      by folders told (Err bad) there = absurd there

get_later : {X : Type 0} (xs : List X) (first number : ℕ) → slice_get (drop first xs) number ≡ slice_get xs (first + number)
get_later xs zero number = let same : number ≡ 0 + number = omega arith in ap (slice_get xs) same
get_later [] (suc first) number = refl
get_later (x ∷ xs) (suc first) number = let same : suc (first + number) ≡ suc first + number = omega arith in get_later xs first number ∙ ap (slice_get (x ∷ xs)) same

-- the folder that is handed back is that of its word
module _ {F : Type 0} (files : F → Option (List File)) (faults : F → ℕ) (folders rest : List F) (request : Request) (rest_is : rest ≡ drop request.first folders) where
  failed_folder : (number : ℕ) (folder : F) (found : Option F) → slice_get rest number ≡ found → slice_get (map files rest) number ≡ Some (files folder) → Rose (slice_index (map faults rest) number) (faults folder)
      → IsFailedFolder files faults folders (request.first + number) folder
  failed_folder number folder None there told rose = let none = slice_get-map files rest number ∙ ap (option_map files) there in cc
  failed_folder number folder (Some before) there told rose =
      let same : Some (files before) ≡ Some (files folder) = sym (slice_get-map files rest number ∙ ap (option_map files) there) ∙ told in
      let count : slice_index (map faults rest) number ≡ faults before = get_or_from_slice_get (map faults rest) number (faults before) 0 (slice_get-map faults rest number ∙ ap (option_map faults) there) in
      record {
        before = before;
        is = sym (get_later folders request.first number) ∙ ap (λ (l : List F). slice_get l number) (sym rest_is) ∙ there;
        told = cc (same);
        rose = subst (λ n. Rose n (faults folder)) count rose;
      }

  pub hands_back : (status : Status F) → request.first + request.folders ≡ length folders → HandsOver request.first files faults (map files rest) (map faults rest) status → HandsBack files faults folders (Ok request) status
  hands_back (BadPack folder pack fault) all hands = (omega (arith, hands.0, all, length-map rest files, ap length rest_is, length-drop request.first folders), hands.1)
  hands_back (FolderFault word folder) all hands =
      (omega (arith, hands.1), subst (λ w. IsFailedFolder files faults folders w folder) (sym hands.1) (failed_folder hands.0 folder (slice_get rest hands.0) refl hands.2 hands.3))
  hands_back status all hands = tt
