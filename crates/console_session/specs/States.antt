-- The state of a console, and what a command does to it.
use Rattle.std.specs.Prelude.{◌≡◌, ◌<◌, ◌≤◌, ℕ, List, [], length, Bool, true, false, Option, None, Result, Ok, Err, IfErr}
use Rattle.outside_io.specs.Causes.{Rose}
use Rattle.outside_io.specs.Files.{File}
use Rattle.search_paths.specs.Mounts.{Mount}
use Rattle.search_paths.specs.declared.answers.MountRow.{MountRow}
use Rattle.search_paths.specs.Counts.{NoneFalls, RoseAt}
use Rattle.outside_io.specs.Streams.{Adds, AddsFront}
use Rattle.mem_model.specs.Memory.{Memory, low_used, new_memory}
use Rattle.cvar_table.specs.Cvars.{Cvar, created, defaults}
use Rattle.res_table.specs.Resources.{Resources, no_resources}
use Rattle.console_session.specs.declared.session.TheConstants.{USERS}
use Rattle.console_session.specs.declared.ends.Next.{Next}
use Rattle.console_session.specs.declared.ends.Next.TheVariants.{Goes}
use Rattle.console_session.specs.declared.ends.Fault.{Fault}
use Rattle.console_session.specs.declared.ends.Fault.TheVariants as fault

-- What is seen of a path: how its mounts are listed, from its front on; each of them, where its folder tells its files; and
-- what each folder tells.
pub record PathSeen : Type 0 where
  pub rows : List MountRow
  pub mounts : List (Option Mount)
  pub told : List (Option (List File))

-- The memory; the path; the resources; the bytes of the command buffer; the host level, a mark of the low hunk; the cvars; the
-- record of the newest alias; the names of the current wad and of the current map, which are models; whether commands that
-- the console doesn't know are handed over, and the text of the one that was. The values of the cvars, the aliases and the
-- images of resources are read from the memory.
pub record State : Type 0 where
  pub memory : Memory
  pub path : PathSeen
  pub table : Resources
  pub buffer : List ℕ
  pub level : ℕ
  pub cvars : List Cvar
  pub newest : Option ℕ
  pub wad : Option (List ℕ)
  pub map : Option (List ℕ)
  pub hands : Bool
  pub handed : Option (List ℕ)

-- a memory that was just created, with a zone of at least 4096 bytes and as many users of the cache as a session has
pub record IsNew (m : Memory) : Type 0 where
  pub size : ℕ
  pub zone : ℕ
  pub event_room : ℕ
  pub is : m ≡ new_memory size zone USERS event_room
  pub large : 4096 ≤ zone

abbrev pub cvars_in : Result (List Cvar) ℕ → List Cvar
cvars_in (Ok cvars) = cvars
cvars_in (Err asked) = []

-- At the start the cvars have their defaults, there is no alias, no resource, no current wad and no map, the buffer is
-- empty, and the host level is where the low hunk ends. Sounds are made for `speed` samples a second.
abbrev pub started : Memory → PathSeen → (speed : ℕ) → State
started m path speed = record {
  memory = (created m defaults).after;
  path = path;
  table = no_resources speed;
  buffer = [];
  level = low_used m;
  cvars = cvars_in (created m defaults).answer;
  newest = None;
  wad = None;
  map = None;
  hands = false;
  handed = None;
}

-- what a command prints, whether it asked for a file, and whether it asked for memory
pub record Reply : Type 0 where
  pub text : List ℕ
  pub load : Bool
  pub takes : Bool

-- what a command does: the state after it, its reply, and how the console goes on
pub record Done : Type 0 where
  pub after : State
  pub reply : Reply
  pub next : Next

-- What a command does is told, but where it asks for a file and comes to a mount that isn't told before the first that has
-- it.
pub data Did : Type 0 where
  Told : Done → Did
  Untold : Did

-- whether it asks for a file
abbrev pub asks : Did → Bool
asks (Told done) = done.reply.load
asks Untold = true

-- a command that asks for neither
abbrev pub says : State → Next → List ℕ → Did
says s next text = Told (record { after = s; reply = record { text = text; load = false; takes = false }; next = next })

-- a command that asks for memory
abbrev pub takes : State → List ℕ → Did
takes s text = Told (record { after = s; reply = record { text = text; load = false; takes = true }; next = Goes })

-- a command that asks for a file, and for memory to put it in
abbrev pub loads : State → List ℕ → Did
loads s text = Told (record { after = s; reply = record { text = text; load = true; takes = true }; next = Goes })

-- All that a command does was done.
pub record IsDone (done : Done) (answer : Next) (new : State) (start now : Option (List ℕ)) : Type 0 where
  pub next : done.next ≡ answer
  pub after : new ≡ done.after
  pub put : Adds done.reply.text start now

-- A fault ended a command in its reply: a failing sink took a front of it, and nothing of it was put where a folder failed,
-- of which the command asked for a file, or where the memory ran out that it asked for.
abbrev pub CutsOff : Reply → Fault → (start now : Option (List ℕ)) → Type 0
CutsOff reply fault.Write start now = AddsFront reply.text start now
CutsOff reply (fault.Folder folder) start now = (reply.load ≡ true) × (now ≡ start)
CutsOff reply fault.Memory start now = (reply.takes ≡ true) × (now ≡ start)

-- What was put before stands, and something may have been added.
abbrev pub StillPut : (start now : Option (List ℕ)) → Type 0
StillPut start now = (more : List ℕ) × Adds more start now

-- A call did what a command does, or a fault ended it in its reply. Of one that isn't told nothing is known but that it took
-- back nothing that was put.
abbrev pub Follows : Did → Result Next Fault → State → (start now : Option (List ℕ)) → Type 0
Follows (Told done) (Ok next) after start now = IsDone done next after start now
Follows (Told done) (Err fault) after start now = CutsOff done.reply fault start now
Follows Untold result after start now = StillPut start now

-- A folder's fault names a folder whose count rose.
abbrev pub CauseOf : Bool → (faults_before faults_now : List ℕ) → (sink_before sink_now : ℕ) → Fault → Type 0
CauseOf frugal faults_before faults_now sink_before sink_now (fault.Folder folder) =
    (folder < length faults_before) × RoseAt folder faults_before faults_now
CauseOf frugal faults_before faults_now sink_before sink_now fault.Write = Rose sink_before sink_now
CauseOf frugal faults_before faults_now sink_before sink_now fault.Memory = frugal ≡ false

-- Each fault has its cause, no count of faults falls, and no folder comes or goes.
pub record HasCauses {A : Type 0} (frugal : Bool) (faults_before faults_now : List ℕ) (sink_before sink_now : ℕ)
    (result : Result A Fault) : Type 0 where
  pub none_falls : NoneFalls faults_before faults_now
  pub folders : length faults_now ≡ length faults_before
  pub sink_counts : sink_before ≤ sink_now
  pub cause : IfErr result (λ fault. CauseOf frugal faults_before faults_now sink_before sink_now fault)
