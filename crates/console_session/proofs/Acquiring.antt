-- What a command does that acquires a resource.
use Rattle.std.proofs.Common.{◌≡◌, ℕ, List, Bool, false, Option, Some, None, IfSome, IfErr, Result, Ok, Err, refl, sym, ◌∙◌, ap, subst, if◌then◌else◌, arith}
use Rattle.std.specs.Prelude.{IsTrue, IsErrOf, is_none}
use Rattle.std.specs.Bool.{OnFalse}
use Rattle.base_fields.specs.Names.{is_game_name}
use Rattle.outside_io.specs.declared.outside.Folder.{Ghosts as FolderGhosts}
use Rattle.outside_io.specs.declared.outside.Sink.{Ghosts as SinkGhosts}
use Rattle.info_text.specs.Lines.{resource_text}
use Rattle.mem_model.specs.Laid.{Laid}
use Rattle.mem_model.specs.Memory.{Memory}
use Rattle.mem_model.specs.declared.store.Store.{Ghosts as StoreGhosts}
use Rattle.file_load.specs.Loads.{load_temp}
use Rattle.search_paths.specs.Mounts.{Mount}
use Rattle.search_paths.specs.Counts.{NoneFalls}
use Rattle.search_paths.specs.Path.{PathState, counts_of, told_mounts, SamePath}
use Rattle.res_table.specs.Acquire.{Acquired, Acquires, IsAcquired, acquire, answered_before}
use Rattle.res_table.specs.Faults.{IsAcquireFault}
use Rattle.res_table.specs.Held.{AreHeld}
use Rattle.res_table.specs.Images.{file_of}
use Rattle.res_table.specs.Kept.{GrowsLow}
use Rattle.res_table.specs.Resources.{Resources}
use Rattle.res_table.specs.declared.answers.AcquireError.{AcquireError}
use Rattle.res_table.specs.declared.answers.AcquireError.TheVariants as why
use Rattle.res_table.specs.declared.answers.Res.{Res}
use Rattle.res_table.specs.declared.kinds.Table.{Table}
use Rattle.res_table.specs.declared.kinds.Table.TheVariants.{Models}
use Rattle.console_session.specs.Commands.{acquire_named, acquired_text, answer_acquire, answer_wad, bad_name, by_resource, cleared, same_names, takes_wad, wad_text, with_acquired}
use Rattle.map_change.specs.Marks.{IsLowMark}
use Rattle.console_session.specs.Holding.{Holds}
use Rattle.console_session.specs.Serving.{seen, path_of, faults_in, calls_in, Does}
use Rattle.console_session.specs.States.{State, PathSeen, Did, Done, Told, asks, CauseOf, Follows}
use Rattle.console_session.specs.Telling.{Tells, Puts, acquired_told}
use Rattle.console_session.specs.declared.console.Console.{Console}
use Rattle.console_session.specs.declared.ends.Next.{Next}
use Rattle.console_session.specs.declared.ends.Next.TheVariants.{Goes}
use Rattle.console_session.specs.declared.ends.Fault.{Fault}
use Rattle.console_session.specs.declared.ends.Fault.TheVariants as fault
use Rattle.console_session.proofs.Following.{follows, still_put, cause_told}
use Rattle.console_session.proofs.Holding.{holds_parts}
use Rattle.console_session.proofs.Loading.{same_path, same_folders}
use Rattle.map_change.proofs.Marking.{mark_below, mark_freed}
use Rattle.map_change.specs.Changes.{freed_to}
use Rattle.mem_model.proofs.CacheLaws.{Laid-low_free}
use Rattle.mem_model.proofs.Untouched.{zone-low_free}
use Rattle.res_table.specs.Forgotten.{forgotten}
use Rattle.res_table.proofs.Forgetting.{AreHeld-forgotten}
use Rattle.console_session.proofs.Serving.{does_as}

-- the state with another memory and other tables
abbrev with_parts : State → Memory → Resources → State
with_parts s m table = record s { memory = m; table = table }

-- what a command does to the names of the current wad and of the current map
abbrev Naming : Type 0
Naming = Result Res AcquireError → State → State

module _ (needed : Bool) (tells : Res → List ℕ) (names : Naming) (name file : List ℕ) (s after : State) (m : Memory) (table : Resources) (result : Result Next Fault) (start now : Option (List ℕ)) where
  abbrev done : Acquired → Done
  done given = record {
    after = names given.answer (with_parts s given.after given.table);
    reply = record { text = acquired_text tells name file given.answer; load = needed; takes = needed };
    next = Goes;
  }

  -- what was acquired is told
  acquired_so : (given : Acquired) (answer : Result Res AcquireError) → after ≡ names answer (with_parts s m table) → IsAcquired given answer table m → Tells (Ok (acquired_text tells name file answer)) Goes result start now → Follows (Told (done given)) result after start now
  acquired_so given answer moved is told =
      follows (done given) (Ok (acquired_text tells name file answer)) result after start now
      (ap (acquired_text tells name file) is.answer, refl, moved ∙ ap (λ (n : Memory). names answer (with_parts s n table)) is.after ∙ ap (λ (t : Resources). names answer (with_parts s given.after t)) is.table_is ∙ ap (λ (a : Result Res AcquireError). names a (with_parts s given.after given.table)) (sym is.answer)) told

  acquired_given : (given : Acquired) (answer : Result Res AcquireError) → after ≡ names answer (with_parts s m table) → Acquires needed given answer table m → Tells (acquired_told tells name file answer) Goes result start now → Follows (Told (done given)) result after start now
  acquired_given given (Ok res) moved is told = acquired_so given (Ok res) moved is told
  acquired_given given (Err why.TableFull) moved is told = acquired_so given (Err why.TableFull) moved is told
  acquired_given given (Err why.NotFound) moved is told = acquired_so given (Err why.NotFound) moved is told
  acquired_given given (Err (why.BeyondPack end whole)) moved is told = acquired_so given (Err (why.BeyondPack end whole)) moved is told
  acquired_given given (Err (why.Bad wrong)) moved is told = acquired_so given (Err (why.Bad wrong)) moved is told
  acquired_given given (Err (why.NoRoom asked room)) moved is told = acquired_so given (Err (why.NoRoom asked room)) moved is told
  acquired_given given (Err (why.FolderFault folder)) moved is told = follows (done given) (Err (fault.Folder folder)) result after start now is told
  acquired_given given (Err why.OutOfMemory) moved is told = follows (done given) (Err fault.Memory) result after start now is told

  pub acquired_follows : (given : Option Acquired) (answer : Result Res AcquireError) → after ≡ names answer (with_parts s m table) → IfSome given (λ g. Acquires needed g answer table m) → Tells (acquired_told tells name file answer) Goes result start now
      → Follows (with_acquired needed tells names name file s given) result after start now
  acquired_follows None answer moved is told = still_put (acquired_told tells name file answer) Goes result start now told
  acquired_follows (Some given) answer moved is told = acquired_given given answer moved is told

-- a file isn't asked for where the resource is there
unasked : (P : Type 0) (tells : Res → List ℕ) (names : Naming) (name file : List ℕ) (s : State) (before given : Option Acquired) → IfSome before (λ _. P) → OnFalse (asks (with_acquired (is_none before) tells names name file s given)) P
unasked P tells names name file s None None same = tt
unasked P tells names name file s None (Some given) same = tt
unasked P tells names name file s (Some before) None same = tt
unasked P tells names name file s (Some before) (Some given) same = same

acquire_cause : (tells : Res → List ℕ) (name file : List ℕ) (frugal : Bool) (a b : List ℕ) (s t : ℕ) (answer : Result Res AcquireError) → IfErr answer (IsAcquireFault a b) → (IsErrOf answer why.OutOfMemory → frugal ≡ false)
    → IfErr (acquired_told tells name file answer) (λ e. CauseOf frugal a b s t e)
acquire_cause tells name file frugal a b s t (Ok res) is memory = tt
acquire_cause tells name file frugal a b s t (Err why.TableFull) is memory = tt
acquire_cause tells name file frugal a b s t (Err why.NotFound) is memory = tt
acquire_cause tells name file frugal a b s t (Err (why.BeyondPack end whole)) is memory = tt
acquire_cause tells name file frugal a b s t (Err (why.Bad wrong)) is memory = tt
acquire_cause tells name file frugal a b s t (Err (why.NoRoom asked room)) is memory = tt
acquire_cause tells name file frugal a b s t (Err (why.FolderFault folder)) is memory = is
acquire_cause tells name file frugal a b s t (Err why.OutOfMemory) is memory = memory refl

module _ {M F O : Type 0} (store : StoreGhosts M) (folder : FolderGhosts F) (sink : SinkGhosts O) (table : Table) (name : List ℕ) (old new : Console M F) (before now : O) (answer : Result Res AcquireError) (result : Result Next Fault) where
  -- What a command does that acquires in this memory, with these tables, which a console holds that is else as before.
  module _ (start : Memory) (tables : Resources) (command : State → Did) where
    abbrev ready : State
    ready = record (seen store folder old) { memory = start; table = tables }

    pub does_from : (tells : Res → List ℕ) (names : Naming)
        → command (seen store folder old) ≡ by_resource tells names table name ready
        → IfSome (acquire tables start table name (load_temp ready.path.mounts start (file_of table name))) (λ given. Acquires (is_none (answered_before tables start table name)) given answer new.table (store.state new.store))
        → IfSome (answered_before tables start table name) (λ _. new.paths ≡ old.paths)
        → seen store folder new ≡ names answer (record ready { memory = store.state new.store; path = path_of folder new.paths; table = new.table })
        → ((t : State) → Holds t → Holds (names answer t)) → Holds ready → Laid (store.state new.store) → AreHeld (told_mounts folder.files new.paths) new.table (store.state new.store) → GrowsLow start (store.state new.store) → (store.state new.store).zone ≡ start.zone
        → SamePath folder.files old.paths new.paths → NoneFalls (faults_in folder old) (faults_in folder new) → IfErr answer (IsAcquireFault (faults_in folder old) (faults_in folder new)) → (IsErrOf answer why.OutOfMemory → store.frugal ≡ false)
        → Puts sink (acquired_told tells name (file_of table name) answer) Goes before now result → Does store folder sink command old new before now result
    does_from tells names is told same others named h laid held low zone path faults cause memory puts = record {
      told = subst (λ (did : Did). Follows did result (seen store folder new) (sink.got before) (sink.got now)) (sym is) (acquired_follows needed tells names name file ready (seen store folder new) m new.table result (sink.got before) (sink.got now) given answer moved told puts.told);
      path = stands;
      holds = subst (λ (t : State). Holds t) (sym moved) (named _ (holds_parts ready m new.table h laid held_here (subst (λ l. IsLowMark l ready.level) (sym low.1) (mark_below start.low low.0 ready.level h.level)) zone));
      causes = record {
        none_falls = faults;
        folders = same_folders folder old.paths new.paths path;
        sink_counts = puts.counts;
        cause = cause_told Goes store.frugal (faults_in folder old) (faults_in folder new) (sink.sink_faults before) (sink.sink_faults now) (acquired_told tells name file answer) result (sink.got before) (sink.got now) puts.told puts.cause
            (acquire_cause tells name file store.frugal (faults_in folder old) (faults_in folder new) (sink.sink_faults before) (sink.sink_faults now) answer cause memory);
      };
      calls = subst (λ (did : Did). OnFalse (asks did) (calls_in folder new ≡ calls_in folder old)) (sym is) (unasked (calls_in folder new ≡ calls_in folder old) tells names name file ready (answered_before tables start table name) given (no_calls (answered_before tables start table name) same));
    }
      where
        file : List ℕ
        file = file_of table name

        needed : Bool
        needed = is_none (answered_before tables start table name)

        m : Memory
        m = store.state new.store

        given : Option Acquired
        given = acquire tables start table name (load_temp ready.path.mounts start (file_of table name))

        stands : path_of folder new.paths ≡ path_of folder old.paths
        stands = same_path folder old.paths new.paths path

        moved : seen store folder new ≡ names answer (with_parts ready m new.table)
        moved = others ∙ ap (λ (p : PathSeen). names answer (record ready { memory = m; path = p; table = new.table })) stands

        held_here : AreHeld ready.path.mounts new.table m
        held_here = subst (λ (ms : List (Option Mount)). AreHeld ms new.table m) (ap (λ (p : PathSeen). p.mounts) stands) held

        no_calls : (before : Option Acquired) → IfSome before (λ _. new.paths ≡ old.paths) → IfSome before (λ _. calls_in folder new ≡ calls_in folder old)
        no_calls None is = tt
        no_calls (Some before) is = ap (λ (p : PathState F). counts_of folder.folder_calls p) is

  abbrev s : State
  s = seen store folder old

  -- What a command does that acquires in the memory and with the tables that there are.
  pub does_resource : (tells : Res → List ℕ) (names : Naming)
      → IfSome (acquire s.table s.memory table name (load_temp s.path.mounts s.memory (file_of table name))) (λ given. Acquires (is_none (answered_before s.table s.memory table name)) given answer new.table (store.state new.store))
      → IfSome (answered_before s.table s.memory table name) (λ _. new.paths ≡ old.paths)
      → seen store folder new ≡ names answer (record s { memory = store.state new.store; path = path_of folder new.paths; table = new.table })
      → ((t : State) → Holds t → Holds (names answer t)) → Holds s → Laid (store.state new.store) → AreHeld (told_mounts folder.files new.paths) new.table (store.state new.store) → GrowsLow s.memory (store.state new.store) → (store.state new.store).zone ≡ s.memory.zone
      → SamePath folder.files old.paths new.paths → NoneFalls (faults_in folder old) (faults_in folder new) → IfErr answer (IsAcquireFault (faults_in folder old) (faults_in folder new)) → (IsErrOf answer why.OutOfMemory → store.frugal ≡ false)
      → Puts sink (acquired_told tells name (file_of table name) answer) Goes before now result → Does store folder sink (by_resource tells names table name) old new before now result
  does_resource tells names told same others named h laid held low zone path faults cause memory puts =
      does_from s.memory s.table (by_resource tells names table name) tells names refl told same others named h laid held low zone path faults cause memory puts

  -- the model of a name is to be the current wad
  pub does_wad : Does store folder sink (by_resource (wad_text name) (takes_wad name) Models name) old new before now result → Does store folder sink (answer_wad (Some name)) old new before now result
  does_wad does =
      does_as store folder sink old new before now result (answer_wad (Some name)) (by_resource (wad_text name) (takes_wad name) Models name) refl does

  -- the same where a name without a lawful file is refused
  pub does_acquired : IsTrue (is_game_name (file_of table name)) → Does store folder sink (by_resource (resource_text name) same_names table name) old new before now result → Does store folder sink (answer_acquire table (Some name)) old new before now result
  does_acquired lawful does =
      does_as store folder sink old new before now result (answer_acquire table (Some name)) (by_resource (resource_text name) same_names table name) (ap (λ (b : Bool). if b then acquire_named table name s else bad_name s) lawful) does

-- What lies behind the host level goes, and a console holds what it held.
pub cleared_holds : (s : State) → Holds s → Holds (cleared s)
cleared_holds s h =
    holds_parts s (freed_to s.level s.memory) (forgotten s.level s.table) h (Laid-low_free s.memory s.level h.laid) (AreHeld-forgotten _ _ _ s.level h.resources h.laid)
    (mark_freed s.memory s.level s.level h.laid.low h.level (omega arith)) (zone-low_free s.memory s.level)
