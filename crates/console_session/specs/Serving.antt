-- What a call of a console does, in one clause.
use Rattle.std.specs.Prelude.{◌≡◌, ◌<◌, ℕ, List, length, Bool, false, Result, IfErr}
use Rattle.std.specs.Bool.{OnFalse}
use Rattle.outside_io.specs.declared.outside.Folder.{Ghosts as FolderGhosts}
use Rattle.outside_io.specs.declared.outside.Sink.{Ghosts as SinkGhosts}
use Rattle.mem_model.specs.declared.store.Store.{Ghosts as StoreGhosts}
use Rattle.search_paths.specs.Counts.{NoneFalls, RoseAt}
use Rattle.search_paths.specs.Path.{PathState, rows_of, told_of, told_mounts, counts_of}
use Rattle.file_load.specs.declared.errors.LoadError.{LoadError}
use Rattle.file_load.specs.declared.errors.LoadError.TheVariants as load
use Rattle.console_session.specs.States.{State, PathSeen, Did, asks, Follows, HasCauses}
use Rattle.console_session.specs.Holding.{Holds}
use Rattle.console_session.specs.Frames.{Ran, Runs, NoneAsks}
use Rattle.console_session.specs.declared.console.Console.{Console}
use Rattle.console_session.specs.declared.ends.Next.{Next}
use Rattle.console_session.specs.declared.ends.Fault.{Fault}

abbrev pub path_of : {F : Type 0} → FolderGhosts F → PathState F → PathSeen
path_of folder path =
    record { rows = rows_of path; mounts = told_mounts folder.files path; told = told_of folder.files path }

-- the state of a console
abbrev pub seen : {M F : Type 0} → StoreGhosts M → FolderGhosts F → Console M F → State
seen store folder console = record {
  memory = store.state console.store;
  path = path_of folder console.paths;
  table = console.table;
  buffer = console.buffer;
  level = console.level;
  cvars = console.cvars;
  newest = console.aliases;
  wad = console.wad;
  map = console.map;
  hands = console.hands;
  handed = console.handed;
}

-- each folder's count of faults, and of calls
abbrev pub faults_in : {M F : Type 0} → FolderGhosts F → Console M F → List ℕ
faults_in folder console = counts_of folder.folder_faults console.paths

abbrev pub calls_in : {M F : Type 0} → FolderGhosts F → Console M F → List ℕ
calls_in folder console = counts_of folder.folder_calls console.paths

module _ {M F O : Type 0} (store : StoreGhosts M) (folder : FolderGhosts F) (sink : SinkGhosts O) where
  -- What a call does by this answer: what was told, and that the path stands, what a console keeps is kept, each fault has
  -- its cause, and no folder was called where no file was asked for.
  pub record Does (answer : State → Did) (old new : Console M F) (before now : O) (result : Result Next Fault) : Type 0 where
    pub told : Follows (answer (seen store folder old)) result (seen store folder new) (sink.got before) (sink.got now)
    pub path : path_of folder new.paths ≡ path_of folder old.paths
    pub holds : Holds (seen store folder new)
    pub causes : HasCauses store.frugal (faults_in folder old) (faults_in folder new)
        (sink.sink_faults before) (sink.sink_faults now) result
    pub calls : OnFalse (asks (answer (seen store folder old))) (calls_in folder new ≡ calls_in folder old)

  -- The same of a run of commands; the result tells whether `quit` was executed.
  pub record RunsAs (run : State → Ran) (old new : Console M F) (before now : O) (result : Result Bool Fault) : Type 0 where
    pub told : Runs (run (seen store folder old)) result (seen store folder new) (sink.got before) (sink.got now)
    pub path : path_of folder new.paths ≡ path_of folder old.paths
    pub holds : Holds (seen store folder new)
    pub causes : HasCauses store.frugal (faults_in folder old) (faults_in folder new)
        (sink.sink_faults before) (sink.sink_faults now) result
    pub calls : NoneAsks (run (seen store folder old)) → calls_in folder new ≡ calls_in folder old

-- the causes of a load's errors
abbrev pub LoadCause : Bool → (before now : List ℕ) → LoadError → Type 0
LoadCause frugal before now load.NotFound = Unit {0}
LoadCause frugal before now (load.BeyondPack end whole) = Unit {0}
LoadCause frugal before now (load.NoRoom asked room) = Unit {0}
LoadCause frugal before now (load.FolderFault folder at) = (folder < length before) × RoseAt folder before now
LoadCause frugal before now load.OutOfMemory = frugal ≡ false

-- A load changes the memory alone, which keeps what a console keeps.
pub record KeepsRest {A M F : Type 0} (store : StoreGhosts M) (folder : FolderGhosts F)
    (old new : Console M F) (result : Result A LoadError) : Type 0 where
  pub state : seen store folder new ≡ record (seen store folder old) { memory = store.state new.store }
  pub holds : Holds (seen store folder new)
  pub none_falls : NoneFalls (faults_in folder old) (faults_in folder new)
  pub folders : length (faults_in folder new) ≡ length (faults_in folder old)
  pub cause : IfErr result (LoadCause store.frugal (faults_in folder old) (faults_in folder new))
