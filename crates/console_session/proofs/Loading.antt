-- What commands do that load a file.
use Rattle.std.proofs.Common.{◌≡◌, ℕ, length, List, ◌++◌, take, Bool, true, false, Option, Some, None, IfSome, IfErr, map, Result, Ok, Err, refl, sym, ◌∙◌, ap, subst, arith, if◌then◌else◌}
use Rattle.std.specs.Prelude.{slice_index, IsErrOf}
use Rattle.std.proofs.lemmas.List.{take_at, length-map}
use Rattle.base_fields.specs.Texts.{until_zero}
use Rattle.outside_io.specs.declared.outside.Folder.{Ghosts as FolderGhosts}
use Rattle.outside_io.specs.declared.outside.Sink.{Ghosts as SinkGhosts}
use Rattle.mem_model.specs.declared.store.Store.{Ghosts as StoreGhosts}
use Rattle.mem_model.specs.Memory.{Memory, low_used}
use Rattle.mem_model.specs.Hunk.{low_bytes}
use Rattle.mem_model.specs.Operations.{low_free}
use Rattle.mem_model.specs.declared.answers.Place.{Place}
use Rattle.outside_io.specs.Files.{File}
use Rattle.search_paths.specs.Mounts.{Mount}
use Rattle.search_paths.specs.declared.answers.MountRow.{MountRow}
use Rattle.search_paths.specs.Path.{PathState, counts_of, rows_of, told_mounts, told_of, SamePath}
use Rattle.file_load.specs.declared.errors.LoadError.{LoadError}
use Rattle.file_load.specs.declared.errors.LoadError.TheVariants as load
use Rattle.file_load.specs.Loads.{Load, Missing, Beyond, NoRoom, At, Loading, Loads, IsLoaded, IsLoadFault, load_low, padded}
use Rattle.cmd_buffer.specs.Buffer.{fits_in}
use Rattle.console_session.specs.States.{State, PathSeen, Did, Told, Untold, Follows, CauseOf, loads}
use Rattle.console_session.specs.Holding.{Holds}
use Rattle.console_session.specs.Telling.{Tells, Puts, load_told}
use Rattle.console_session.specs.Commands.{with_load, with_told, by_load, inserted_file, exec_text, missing_text, beyond_text, short_text}
use Rattle.console_session.specs.Serving.{seen, path_of, faults_in, calls_in, Does, KeepsRest, LoadCause}
use Rattle.console_session.specs.declared.console.Console.{Console}
use Rattle.console_session.specs.declared.ends.Next.{Next}
use Rattle.console_session.specs.declared.ends.Next.TheVariants.{Goes}
use Rattle.console_session.specs.declared.ends.Fault.{Fault}
use Rattle.console_session.specs.declared.ends.Fault.TheVariants as fault
use Rattle.console_session.proofs.Following.{Asks, follows, still_put, calls_asked, cause_told}
use Rattle.console_session.proofs.Serving.{with_memory}

-- where a command asks for a file, its fault may be a folder's, or a want of memory
cut_by_folder : (did : Did) (number : ℕ) (after : State) (start now : Option (List ℕ)) → Asks did → now ≡ start → Follows did (Err (fault.Folder number)) after start now
cut_by_folder (Told done) number after start now asks same = (asks.0, same)
cut_by_folder Untold number after start now asks same = still_put (Err (fault.Folder number)) Goes (Err (fault.Folder number)) start now (refl, same)

cut_by_memory : (did : Did) (after : State) (start now : Option (List ℕ)) → Asks did → now ≡ start → Follows did (Err fault.Memory) after start now
cut_by_memory (Told done) after start now asks same = (asks.1, same)
cut_by_memory Untold after start now asks same = still_put (Err fault.Memory) Goes (Err fault.Memory) start now (refl, same)

module _ (missing name : List ℕ) (did : State → Memory → ℕ → List ℕ → Did) (asks : (s : State) (m : Memory) (place : ℕ) (bytes : List ℕ) → Asks (did s m place bytes)) (s : State) where
  load_asks : (m : Memory) (given : Load) → Asks (with_load missing name did s m given)
  load_asks m Missing = (refl, refl)
  load_asks m (Beyond end whole) = (refl, refl)
  load_asks m (NoRoom shortage) = (refl, refl)
  load_asks m (At place bytes) = asks s m place bytes

  told_asks : (given : Option Loading) → Asks (with_told missing name did s given)
  told_asks None = tt
  told_asks (Some loading) = load_asks loading.after loading.load

  module _ (after : State) (m : Memory) (after_is : after ≡ with_memory s m) (result : Result Next Fault) (start now : Option (List ℕ)) where
    -- the text of a refusal was put, and the memory is that of the load
    said : (given : Loading) (refusal : Load) (text : List ℕ) → with_load missing name did s given.after refusal ≡ loads (with_memory s given.after) text → given.load ≡ refusal → m ≡ given.after → Tells (Ok text) Goes result start now
        → Follows (with_load missing name did s given.after given.load) result after start now
    said given refusal text shape is after_load tells =
        subst (λ d. Follows d result after start now) (sym (ap (with_load missing name did s given.after) is ∙ shape))
        (follows (record { after = with_memory s given.after; reply = record { text = text; load = true; takes = true }; next = Goes }) (Ok text) result after start now (refl, refl, after_is ∙ ap (with_memory s) after_load) tells)

    refused : (given : Loading) (error : LoadError) → Loads given (Err error) m → Tells (load_told missing name error) Goes result start now → Follows (with_load missing name did s given.after given.load) result after start now
    refused given load.NotFound is tells = said given Missing (missing_text missing name) refl is.load is.after tells
    refused given (load.BeyondPack end whole) is tells = said given (Beyond end whole) (beyond_text name end whole) refl is.load is.after tells
    refused given (load.NoRoom asked room) is tells = said given (NoRoom (record { asked = asked; room = room })) (short_text asked) refl is.load is.after tells
    refused given (load.FolderFault number at) is tells =
        let did_so : Did = with_load missing name did s given.after given.load in
        subst (λ r. Follows did_so r after start now) (sym tells.0) (cut_by_folder did_so number after start now (load_asks given.after given.load) tells.1)
    refused given load.OutOfMemory is tells =
        let did_so : Did = with_load missing name did s given.after given.load in
        subst (λ r. Follows did_so r after start now) (sym tells.0) (cut_by_memory did_so after start now (load_asks given.after given.load) tells.1)

    pub refused_told : (given : Option Loading) (error : LoadError) → IfSome given (λ loading. Loads loading (Err error) m) → Tells (load_told missing name error) Goes result start now → Follows (with_told missing name did s given) result after start now
    refused_told None error is tells = still_put (load_told missing name error) Goes result start now tells
    refused_told (Some given) error is tells = refused given error is tells

-- the causes of a load that was refused are those of its fault
load_cause : (missing name : List ℕ) (frugal : Bool) (a b : List ℕ) (s t : ℕ) (error : LoadError) → LoadCause frugal a b error → IfErr (load_told missing name error) (λ e. CauseOf frugal a b s t e)
load_cause missing name frugal a b s t load.NotFound cause = tt
load_cause missing name frugal a b s t (load.BeyondPack end whole) cause = tt
load_cause missing name frugal a b s t (load.NoRoom asked room) cause = tt
load_cause missing name frugal a b s t (load.FolderFault folder at) cause = cause
load_cause missing name frugal a b s t load.OutOfMemory cause = cause

-- what a load leaves as it was
pub load_cause_of : {A P : Type 0} (frugal : Bool) (a b : List ℕ) (result : Result A LoadError) → IfErr result (IsLoadFault a b) → (IsErrOf result load.OutOfMemory → (frugal ≡ false) × P) → IfErr result (LoadCause frugal a b)
load_cause_of frugal a b (Ok loaded) fault memory = tt
load_cause_of frugal a b (Err load.NotFound) fault memory = tt
load_cause_of frugal a b (Err (load.BeyondPack end whole)) fault memory = tt
load_cause_of frugal a b (Err (load.NoRoom asked room)) fault memory = tt
load_cause_of frugal a b (Err (load.FolderFault folder at)) fault memory = fault
load_cause_of frugal a b (Err load.OutOfMemory) fault memory = (memory refl).0

module _ {F : Type 0} (folder : FolderGhosts F) (before now : PathState F) (same : SamePath folder.files before now) where
  pub same_path : path_of folder now ≡ path_of folder before
  same_path =
      let from_rows : List MountRow → PathSeen = λ (rs : List MountRow). record { rows = rs; mounts = told_mounts folder.files now; told = told_of folder.files now } in
      let from_mounts : List (Option Mount) → PathSeen = λ (ms : List (Option Mount)). record { rows = rows_of before; mounts = ms; told = told_of folder.files now } in
      let from_told : List (Option (List File)) → PathSeen = λ (ts : List (Option (List File))). record { rows = rows_of before; mounts = told_mounts folder.files before; told = ts } in
      ap from_rows same.rows ∙ ap from_mounts same.mounts ∙ ap from_told same.told

  pub same_folders : length (counts_of folder.folder_faults now) ≡ length (counts_of folder.folder_faults before)
  same_folders =
      let told : length (map folder.files now.folders) ≡ length (map folder.files before.folders) = ap length same.told in
      omega (arith, told, length-map now.folders folder.files, length-map before.folders folder.files, length-map now.folders folder.folder_faults, length-map before.folders folder.folder_faults)

module _ {M F O : Type 0} (store : StoreGhosts M) (folder : FolderGhosts F) (sink : SinkGhosts O) (missing name : List ℕ) (did : List ℕ → State → Memory → ℕ → List ℕ → Did)
    (asks : (s : State) (m : Memory) (place : ℕ) (bytes : List ℕ) → Asks (did name s m place bytes)) (old new : Console M F) (before now : O) (result : Result Next Fault) where
  abbrev given : Option Loading
  given = load_low (seen store folder old).path.mounts (store.state old.store) name

  -- a file was not loaded, and a command said so
  pub does_refused : (error : LoadError) → IfSome given (λ loading. Loads loading (Err error) (store.state new.store)) → KeepsRest {A = Place × ℕ} store folder old new (Err error) → Puts sink (load_told missing name error) Goes before now result
      → Does store folder sink (by_load missing did (Some name)) old new before now result
  does_refused error is rest puts = record {
    told = refused_told missing name (did name) asks (seen store folder old) (seen store folder new) (store.state new.store) rest.state result (sink.got before) (sink.got now) given error is puts.told;
    path = ap (λ (s : State). s.path) rest.state;
    holds = rest.holds;
    causes = record {
      none_falls = rest.none_falls;
      folders = rest.folders;
      sink_counts = puts.counts;
      cause = cause_told Goes store.frugal (faults_in folder old) (faults_in folder new) (sink.sink_faults before) (sink.sink_faults now) (load_told missing name error) result (sink.got before) (sink.got now) puts.told puts.cause
          (load_cause missing name store.frugal (faults_in folder old) (faults_in folder new) (sink.sink_faults before) (sink.sink_faults now) error rest.cause);
    };
    calls = calls_asked (calls_in folder new ≡ calls_in folder old) (with_told missing name (did name) (seen store folder old) given) (told_asks missing name (did name) asks (seen store folder old) given);
  }

  -- A file was loaded, and a command went on with it, without a call of a folder: this is what it does, and what it says.
  pub does_loaded : (mid : Console M F) (loaded : Place × ℕ) (text : List ℕ) → IfSome given (λ loading. Loads loading (Ok loaded) (store.state mid.store)) → KeepsRest store folder old mid (Ok loaded)
      → ((loading : Loading) → (is : IsLoaded loading loaded (store.state mid.store)) → did name (seen store folder old) loading.after loaded.0.0 is.bytes ≡ loads (seen store folder new) text)
      → new.paths ≡ mid.paths → Holds (seen store folder new) → Puts sink (Ok text) Goes before now result → Does store folder sink (by_load missing did (Some name)) old new before now result
  does_loaded mid loaded text is rest shape paths holds puts =
      let s = seen store folder old in
      record {
        told = by given is;
        path = ap (λ (p : PathState F). path_of folder p) paths ∙ ap (λ (s : State). s.path) rest.state;
        holds = holds;
        causes = record {
          none_falls = λ number. omega (arith, rest.none_falls number, ap (λ (p : PathState F). slice_index (counts_of folder.folder_faults p) number) paths);
          folders = ap (λ (p : PathState F). length (counts_of folder.folder_faults p)) paths ∙ rest.folders;
          sink_counts = puts.counts;
          cause = cause_told Goes store.frugal (faults_in folder old) (faults_in folder new) (sink.sink_faults before) (sink.sink_faults now) (Ok text) result (sink.got before) (sink.got now) puts.told puts.cause tt;
        };
        calls = calls_asked (calls_in folder new ≡ calls_in folder old) (with_told missing name (did name) s given) (told_asks missing name (did name) asks s given);
      }
    where
      by : (g : Option Loading) → IfSome g (λ loading. Loads loading (Ok loaded) (store.state mid.store)) → Follows (with_told missing name (did name) (seen store folder old) g) result (seen store folder new) (sink.got before) (sink.got now)
      by None is = still_put (Ok text) Goes result (sink.got before) (sink.got now) puts.told
      by (Some loading) is =
          subst (λ d. Follows d result (seen store folder new) (sink.got before) (sink.got now)) (sym (ap (with_load missing name (did name) (seen store folder old) loading.after) is.load ∙ shape loading is))
          (follows (record { after = seen store folder new; reply = record { text = text; load = true; takes = true }; next = Goes }) (Ok text) result (seen store folder new) (sink.got before) (sink.got now) (refl, refl, refl) puts.told)

-- what `exec` does with a file that was loaded
module _ {M F : Type 0} (store : StoreGhosts M) (folder : FolderGhosts F) (old mid new : Console M F) (name : List ℕ) (loaded : Place × ℕ) (mark : ℕ) (fits : Bool) (rest : KeepsRest store folder old mid (Ok loaded)) where
  pub exec_shape : mark ≡ low_used (store.state old.store)
      → IfSome (low_bytes (store.state mid.store) loaded.0.0) (λ bytes. new.buffer ≡ (if fits_in (until_zero (take loaded.1 bytes)) mid.buffer then until_zero (take loaded.1 bytes) ++ mid.buffer else mid.buffer))
      → IfSome (low_bytes (store.state mid.store) loaded.0.0) (λ bytes. fits ≡ fits_in (until_zero (take loaded.1 bytes)) mid.buffer)
      → store.state new.store ≡ (low_free (store.state mid.store) mark).after → new ≡ record mid { store = new.store; buffer = new.buffer }
      → (loading : Loading) → (is : IsLoaded loading loaded (store.state mid.store)) → inserted_file name (seen store folder old) loading.after loaded.0.0 is.bytes ≡ loads (seen store folder new) (exec_text name fits)
  exec_shape mark_is buffer_is fits_is memory_is others loading is =
      let s = seen store folder old in
      let text : List ℕ = until_zero is.bytes in
      let front : take loaded.1 (padded is.bytes) ≡ is.bytes = take_at is.bytes _ loaded.1 (sym is.length) in
      let same_buffer : mid.buffer ≡ old.buffer = ap (λ (x : State). x.buffer) rest.state in
      let buffer_mid : new.buffer ≡ (if fits_in text mid.buffer then text ++ mid.buffer else mid.buffer) = rw front at (rw is.there at buffer_is) in
      let fits_mid : fits ≡ fits_in text mid.buffer = rw front at (rw is.there at fits_is) in
      let buffer_here : new.buffer ≡ (if fits_in text old.buffer then text ++ old.buffer else old.buffer) = buffer_mid ∙ ap (λ (b : List ℕ). if fits_in text b then text ++ b else b) same_buffer in
      let fits_here : fits ≡ fits_in text old.buffer = fits_mid ∙ ap (fits_in text) same_buffer in
      let memory_here : store.state new.store ≡ (low_free loading.after (low_used s.memory)).after = memory_is ∙ ap (λ (k : ℕ). (low_free (store.state mid.store) k).after) mark_is ∙ ap (λ (n : Memory). (low_free n (low_used s.memory)).after) is.after in
      let made : Memory → List ℕ → Bool → Did = λ (m : Memory) (b : List ℕ) (f : Bool). loads (record s { memory = m; buffer = b }) (exec_text name f) in
      let state_is : seen store folder new ≡ record s { memory = store.state new.store; buffer = new.buffer } =
      ap (seen store folder) others ∙ ap (λ (x : State). record x { memory = store.state new.store; buffer = new.buffer }) rest.state in
      sym (ap (λ (x : State). loads x (exec_text name fits)) state_is
      ∙ ap (λ (m : Memory). made m new.buffer fits) memory_here
      ∙ ap (λ (b : List ℕ). made (low_free loading.after (low_used s.memory)).after b fits) buffer_here
      ∙ ap (made (low_free loading.after (low_used s.memory)).after (if fits_in text old.buffer then text ++ old.buffer else old.buffer)) fits_here)
