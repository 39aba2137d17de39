-- What the outcome of a run says of its status.
use Rattle.std.proofs.Common.{◌≡◌, ◌≤◌, ◌+◌, ℕ, List, [], ◌++◌, length, map, Option, Some, None, Result, Ok, Err, inl, inr, drop, IfOk, IfSome, IsErr, IsSomeAnd, refl, ap, ◌∙◌, arith, subst, length-append}
use Rattle.std.specs.Prelude.{◌↔◌}
use Rattle.outside_io.specs.Causes.{Rose}
use Rattle.outside_io.specs.Files.{File}
use Rattle.pack_files.specs.declared.faults.PackFault.{PackFault}
use Rattle.search_paths.specs.Mounts.{bad_pack, own_mounts, mounted}
use Rattle.search_paths.specs.Path.{all_some}
use Rattle.outside_io.specs.Streams.{Took}
use Rattle.command_line.specs.CommandLine.{IsAsked}
use Rattle.command_line.specs.declared.words.Request.{Request}
use Rattle.command_line.proofs.Lines.{one_request, asked_has_no_bad}
use Rattle.console_core.specs.Outside.{Outside}
use Rattle.console_core.specs.Reading.{limit}
use Rattle.console_core.proofs.Knowing.{if_some}
use Rattle.console_core.proofs.PathOf.{bad_folders}
use Rattle.console_session.specs.States.{PathSeen}
use Rattle.console_core.specs.Ends.{path_on, Asks, AsksTooMuch, fault_of, Ends, EndsFor, OnPath, HasOutcome, IsComplete}
use Rattle.console_core.specs.declared.status.Status.{Status}
use Rattle.console_core.specs.declared.status.Status.TheVariants.{Done, Usage, OutOfMemory, TooSmall, ScriptFault, BadPack, FolderFault, WriteFault, ScriptTooLong}

some_length : (a b : List ℕ) → Some a ≡ Some b → length a ≡ length b
some_length a b e = let same : a ≡ b = cc in ap length same

-- how much was taken
took_length : (taken before after : List ℕ) → Took taken (Some before) (Some after) → length before ≡ length taken + length after
took_length taken before after took = some_length before (taken ++ after) took ∙ length-append taken after

-- a script as short as this has no byte past the limit
not_past : (taken : List ℕ) (before now : Option (List ℕ)) → Took taken before now → length taken ≡ limit + 1 → IsSomeAnd before (λ bytes. length bytes ≤ 1048576) → ⊥
not_past taken None now took size short = short
not_past taken (Some before) None took size short = absurd (cc)
not_past taken (Some before) (Some after) took size short = omega (arith, size, took_length taken before after took, short)

from_zero : (n : ℕ) → n ≡ 0 + n
from_zero n = omega arith

-- what is so of a run on a path
of_path : {run : Option PathSeen → Type 0} (told : Option (List (List File))) → OnPath told run → (path : Option PathSeen) × run path
of_path None is = (None, is)
of_path (Some folders) is = (Some (path_on folders is.0), is.2)

module _ {F : Type 0} (words : List (List ℕ)) (files_of : F → Option (List File)) (faults_of calls_of : F → ℕ) (folders : List F)
    (event_room : ℕ) (before now : Outside) where
  abbrev HasThis : Status F → Type 0
  HasThis status = HasOutcome event_room words files_of faults_of calls_of folders before now status

  abbrev small_status : Status F
  small_status = TooSmall

  -- folders that have a bad pack are no path
  bad_path : (folder pack : ℕ) (fault : PackFault) (held : List F) (other : Request) → Ends {F = F} files_of calls_of held other event_room before now (BadPack folder pack fault) → IfSome (all_some (map files_of held)) (λ folders. IsErr (mounted folders))
  bad_path folder pack fault held other (inl opening) =
      let bad = opening.0 in
      let told = map files_of held in
      if_some (all_some told) (λ folders all. bad_folders (bad_pack folder pack fault) 0 folder told folders [] bad.files all bad.is (subst (λ n. IfSome bad.files (λ files. own_mounts n files ≡ Err (bad_pack folder pack fault))) (from_zero folder) bad.own))
  bad_path folder pack fault held other (inr ends) = absurd (of_path (all_some (map files_of held)) ends.1).1

  module _ (request : Request) (asks : IsAsked words 8 request) where
    no_usage : (word : ℕ) (asked : Result Request ℕ) → Asks words asked → Some word ≡ fault_of asked → ⊥
    no_usage word (Ok other) is e = absurd (cc)
    no_usage word (Err bad) is e = asked_has_no_bad words 8 request bad asks is

    no_small : (asked : Result Request ℕ) → Asks words asked → None ≡ fault_of asked → IfOk asked (λ other. (small_status ≡ small_status) ↔ AsksTooMuch other) → (AsksTooMuch request → ⊥) → ⊥
    no_small (Ok other) is e small fits = fits (subst AsksTooMuch (one_request words 8 other request is asks) (small.0 refl))
    no_small (Err bad) is e small fits = absurd (cc)

    no_past : (asked : Result Request ℕ) → None ≡ fault_of asked → EndsFor {F = F} asked event_room files_of calls_of folders before now ScriptTooLong → IsSomeAnd before.rest (λ bytes. length bytes ≤ 1048576) → ⊥
    no_past (Ok other) e (inl opening) short = opening.0
    no_past (Ok other) e (inr ends) short =
        let past = of_path (all_some (map files_of (drop other.first folders))) ends.1 in
        not_past past.1.taken before.rest now.rest past.1.took past.1.size short
    no_past (Err bad) e ends short = absurd (cc)

    no_path : (folder pack : ℕ) (fault : PackFault) (asked : Result Request ℕ) → Asks words asked → None ≡ fault_of asked → EndsFor {F = F} asked event_room files_of calls_of folders before now (BadPack folder pack fault)
        → IfSome (all_some (map files_of (drop request.first folders))) (λ told. IsErr (mounted told))
    no_path folder pack fault (Ok other) is e ends =
        subst (λ (r : Request). IfSome (all_some (map files_of (drop r.first folders))) (λ told. IsErr (mounted told))) (one_request words 8 other request is asks)
        (bad_path folder pack fault (drop other.first folders) other ends)
    no_path folder pack fault (Err bad) is e ends = absurd (cc)

    -- lawful words and a short script come to their end where no count of the script or the sink rises
    pub completes : (status : Status F) → HasThis status → (AsksTooMuch request → ⊥) → IsSomeAnd before.rest (λ bytes. length bytes ≤ 1048576) → (Rose before.script_faults now.script_faults → ⊥) → (Rose before.sink_faults now.sink_faults → ⊥) → IsComplete (all_some (map files_of (drop request.first folders))) status
    completes Done o fits short script sink = tt
    completes OutOfMemory o fits short script sink = tt
    completes (FolderFault word folder) o fits short script sink = tt
    completes (BadPack folder pack fault) o fits short script sink = no_path folder pack fault o.asked o.is o.usage o.ends
    completes (Usage word) o fits short script sink = no_usage word o.asked o.is o.usage
    completes TooSmall o fits short script sink = no_small o.asked o.is o.usage o.too_small fits
    completes ScriptFault o fits short script sink = script o.cause
    completes WriteFault o fits short script sink = sink o.cause
    completes ScriptTooLong o fits short script sink = no_past o.asked o.usage o.ends short
