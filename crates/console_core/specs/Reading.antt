-- What the reading of a script took, and what was run of it.
use Rattle.std.specs.Prelude.{◌≡◌, ◌≤◌, ◌+◌, ⊤, ℕ, List, [], ◌∷◌, ◌++◌, take, length, Bool, false, Option, Ok, IfSome, IfErr}
use Rattle.outside_io.specs.Causes.{Rose}
use Rattle.outside_io.specs.declared.outside.Sink.{Ghosts as SinkGhosts}
use Rattle.outside_io.specs.Streams.{Took}
use Rattle.search_paths.specs.Counts.{NoneFalls}
use Rattle.console_session.specs.States.{State, CauseOf, HasCauses, StillPut}
use Rattle.console_session.specs.Frames.{Ran, Runs, NoneAsks}
use Rattle.console_session.specs.Sessions.{Seen, told_end}
use Rattle.console_session.specs.declared.ends.StepEnd.{StepEnd}
use Rattle.console_session.specs.declared.ends.StepEnd.TheVariants.{Went}
use Rattle.console_core.specs.Runs.{run_lines, lines_of}
use Rattle.console_core.specs.Outside.{Outside, NoneFell, IsAtEnd}
use Rattle.console_core.specs.declared.script.ReadEnd.{ReadEnd}
use Rattle.console_core.specs.declared.script.ReadEnd.TheVariants.{AtEnd, Ended, Failed, TooLong}

-- how many bytes a script has at most
abbrev pub limit : ℕ
limit = 1048576

-- how many bytes are read at a time at most
abbrev pub most_read : ℕ
most_read = 4096

-- where no command of the run asks for a file, no folder was called
abbrev pub CallsAsAsked : Ran → (calls_before calls_now : List ℕ) → Type 0
CallsAsAsked run calls_before calls_now = NoneAsks run → calls_now ≡ calls_before

-- What a call runs in a session: what is told of the run, that the path stands, that each fault has its cause, and that no
-- folder was called where no file was asked for.
pub record RunsIn {O : Type 0} (frugal : Bool) (sink : SinkGhosts O) (run : Ran) (old new : Seen) (before now : O)
    (end : StepEnd) : Type 0 where
  pub told : Runs run (told_end end) new.state (sink.got before) (sink.got now)
  pub path : new.state.path ≡ old.state.path
  pub causes : HasCauses frugal old.faults new.faults (sink.sink_faults before) (sink.sink_faults now) (told_end end)
  pub calls : CallsAsAsked run old.calls new.calls

-- Where a line ended the run, it ended in the last piece that was taken: the whole lines of what was taken earlier had been
-- run before, and did not end it.
pub record RanEarlier (first : State) (taken : List ℕ) (start now : Option (List ℕ)) : Type 0 where
  pub earlier : List ℕ
  pub piece : List ℕ
  pub is : taken ≡ earlier ++ piece
  pub short : length piece ≤ most_read
  pub after : State
  pub mid : Option (List ℕ)
  pub run : Runs (run_lines first (lines_of earlier).whole) (Ok false) after start mid
  pub more : StillPut mid now

-- the run of what was taken: its whole lines, and of a script that is too long those of as many bytes as it may have
abbrev pub run_taken : (first : State) → (taken : List ℕ) → ReadEnd → Ran
run_taken first taken TooLong = run_lines first (lines_of (take limit taken)).whole
run_taken first taken end = run_lines first (lines_of taken).whole

-- that run was done, or a line ended it, by `quit` or by a fault
abbrev pub RunsTaken : (first : State) → (taken : List ℕ) → ReadEnd → (after : State) → (start now : Option (List ℕ))
    → Type 0
RunsTaken first taken AtEnd after start now = Runs (run_taken first taken AtEnd) (Ok false) after start now
RunsTaken first taken (Ended end) after start now =
    Runs (run_taken first taken (Ended end)) (told_end end) after start now × RanEarlier first taken start now
RunsTaken first taken Failed after start now = Runs (run_taken first taken Failed) (Ok false) after start now
RunsTaken first taken TooLong after start now = Runs (run_taken first taken TooLong) (Ok false) after start now

-- Within the limit all that was taken may be run; a byte past it was taken of a script that is too long. At the end nothing
-- is left.
abbrev pub EndsAt : ReadEnd → (taken : List ℕ) → Outside → Type 0
EndsAt AtEnd taken now = (length taken ≤ limit) × IsAtEnd now
EndsAt (Ended end) taken now = (length taken ≤ limit) × (end ≡ Went → ⊥)
EndsAt Failed taken now = length taken ≤ limit
EndsAt TooLong taken now = length taken ≡ limit + 1

-- what is kept of the unfinished line, at the end
abbrev pub Keeps : ReadEnd → (taken pending : List ℕ) → Type 0
Keeps AtEnd taken pending = pending ≡ take 8192 (lines_of taken).rest
Keeps end taken pending = ⊤

-- a read past the limit found the end, failed, or took a byte
abbrev pub ReadsPast : ReadEnd → (before now : Option (List ℕ)) → Type 0
ReadsPast AtEnd before now = Took [] before now × IfSome now (λ left. left ≡ [])
ReadsPast (Ended end) before now = ⊥
ReadsPast Failed before now = Took [] before now
ReadsPast TooLong before now = (byte : ℕ) × Took (byte ∷ []) before now

-- a fault of the script came from it, and one that ended a line has its cause
abbrev pub ReadCause : Bool → (faults_before faults_now : List ℕ) → (before now : Outside) → ReadEnd → Type 0
ReadCause frugal faults_before faults_now before now AtEnd = ⊤
ReadCause frugal faults_before faults_now before now (Ended end) =
    IfErr (told_end end) (λ fault. CauseOf frugal faults_before faults_now before.sink_faults now.sink_faults fault)
ReadCause frugal faults_before faults_now before now Failed = Rose before.script_faults now.script_faults
ReadCause frugal faults_before faults_now before now TooLong = ⊤

-- Each fault has its cause, no count of faults falls, and no folder comes or goes.
pub record HasReadCauses (frugal : Bool) (faults_before faults_now : List ℕ) (before now : Outside)
    (end : ReadEnd) : Type 0 where
  pub none_falls : NoneFalls faults_before faults_now
  pub folders : length faults_now ≡ length faults_before
  pub counts : NoneFell before now
  pub cause : ReadCause frugal faults_before faults_now before now end

-- Bytes were taken, and what may be run of them was run; where no command of that asks for a file, no folder was called.
pub record HasRead (old new : Seen) (end : ReadEnd) (pending : List ℕ) (before now : Outside) : Type 0 where
  pub taken : List ℕ
  pub took : Took taken before.rest now.rest
  pub ends : EndsAt end taken now
  pub keeps : Keeps end taken pending
  pub run : RunsTaken old.state taken end new.state before.got now.got
  pub calls : CallsAsAsked (run_taken old.state taken end) old.calls new.calls
