-- What a call told, and the replies to what the layers below answer.
use Rattle.std.specs.Prelude.{◌≡◌, ◌≤◌, ℕ, List, [], Bool, Option, Result, Ok, Err, IfErr}
use Rattle.outside_io.specs.Causes.{Rose}
use Rattle.outside_io.specs.Streams.{Adds, AddsFront}
use Rattle.outside_io.specs.declared.outside.Sink.{Ghosts as SinkGhosts}
use Rattle.file_load.specs.declared.errors.LoadError.{LoadError}
use Rattle.file_load.specs.declared.errors.LoadError.TheVariants as load
use Rattle.mem_model.specs.declared.answers.Place.{Place}
use Rattle.mem_model.specs.declared.answers.RoomError.{RoomError}
use Rattle.mem_model.specs.declared.answers.RoomError.TheVariants as room
use Rattle.mem_model.specs.declared.answers.ZoneError.{ZoneError}
use Rattle.mem_model.specs.declared.answers.ZoneError.TheVariants as zone
use Rattle.cmd_buffer.specs.declared.aliases.AliasError.{AliasError}
use Rattle.cmd_buffer.specs.declared.aliases.AliasError.TheVariants as alias
use Rattle.res_table.specs.declared.answers.AcquireError.{AcquireError}
use Rattle.res_table.specs.declared.answers.AcquireError.TheVariants as acquire
use Rattle.res_table.specs.declared.answers.Res.{Res}
use Rattle.console_session.specs.Commands.{missing_text, beyond_text, short_text, full_text, long_name_text, block_text}
use Rattle.console_session.specs.Commands.{refused_text}
use Rattle.console_session.specs.declared.ends.Fault.{Fault}
use Rattle.console_session.specs.declared.ends.Fault.TheVariants as fault

-- A text was put, or a failing sink took a front of it; or a fault ended the command before it said anything.
abbrev pub Tells : {A : Type 0} → Result (List ℕ) Fault → A → Result A Fault → (start now : Option (List ℕ)) → Type 0
Tells (Ok text) answer (Ok given) start now = (given ≡ answer) × Adds text start now
Tells (Ok text) answer (Err error) start now = (error ≡ fault.Write) × AddsFront text start now
Tells (Err fault) answer result start now = (result ≡ Err fault) × (now ≡ start)

-- the fault of a sink has its cause
abbrev pub SinkCause : (before now : ℕ) → Fault → Type 0
SinkCause before now fault.Write = Rose before now
SinkCause before now (fault.Folder folder) = Unit {0}
SinkCause before now fault.Memory = Unit {0}

-- the whole of it, with the sink's count
pub record Puts {A O : Type 0} (sink : SinkGhosts O) (reply : Result (List ℕ) Fault)
    (answer : A) (before now : O) (result : Result A Fault) : Type 0 where
  pub told : Tells reply answer result (sink.got before) (sink.got now)
  pub counts : sink.sink_faults before ≤ sink.sink_faults now
  pub cause : IfErr result (λ fault. SinkCause (sink.sink_faults before) (sink.sink_faults now) fault)

-- how a load that was refused is told; `missing` stands before the name of a file that there is not
abbrev pub load_told : (missing name : List ℕ) → LoadError → Result (List ℕ) Fault
load_told missing name load.NotFound = Ok (missing_text missing name)
load_told missing name (load.BeyondPack end whole) = Ok (beyond_text name end whole)
load_told missing name (load.NoRoom asked room) = Ok (short_text asked)
load_told missing name (load.FolderFault folder at) = Err (fault.Folder folder)
load_told missing name load.OutOfMemory = Err fault.Memory

-- how a block that was asked for is told
abbrev pub block_told : (title name : List ℕ) → ℕ → Result Place RoomError → Result (List ℕ) Fault
block_told title name size (Ok place) = Ok (block_text title name size place.0)
block_told title name size (Err (room.NoRoom asked left)) = Ok (short_text asked)
block_told title name size (Err room.OutOfMemory) = Err fault.Memory

-- how a cvar's new value is told
abbrev pub cvar_told : Result Bool ZoneError → Result (List ℕ) Fault
cvar_told (Ok found) = Ok []
cvar_told (Err (zone.Full asked)) = Ok (full_text asked)
cvar_told (Err zone.OutOfMemory) = Err fault.Memory

-- how a new alias is told
abbrev pub alias_told : Result (Unit {0}) AliasError → Result (List ℕ) Fault
alias_told (Ok done) = Ok []
alias_told (Err alias.LongName) = Ok long_name_text
alias_told (Err (alias.Zone (zone.Full asked))) = Ok (full_text asked)
alias_told (Err (alias.Zone zone.OutOfMemory)) = Err fault.Memory

-- how a resource that was not acquired is told
abbrev pub refused_told : (name file : List ℕ) → AcquireError → Result (List ℕ) Fault
refused_told name file (acquire.FolderFault folder) = Err (fault.Folder folder)
refused_told name file acquire.OutOfMemory = Err fault.Memory
refused_told name file error = Ok (refused_text name file error)

-- how a resource is told that was acquired, or not
abbrev pub acquired_told : (tells : Res → List ℕ) → (name file : List ℕ) → Result Res AcquireError
    → Result (List ℕ) Fault
acquired_told tells name file (Ok res) = Ok (tells res)
acquired_told tells name file (Err error) = refused_told name file error
