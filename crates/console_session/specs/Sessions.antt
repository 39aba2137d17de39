-- What a session is seen as, and how its steps end.
use Rattle.std.specs.Prelude.{ℕ, List, Bool, true, false, Result, Ok, Err}
use Rattle.console_session.specs.States.{State}
use Rattle.console_session.specs.declared.ends.StepEnd.{StepEnd}
use Rattle.console_session.specs.declared.ends.StepEnd.TheVariants.{Went, Quit, FolderFault, WriteFault, OutOfMemory}
use Rattle.console_session.specs.declared.ends.Fault.{Fault}
use Rattle.console_session.specs.declared.ends.Fault.TheVariants as fault

-- what a session is seen as: its state, each folder's counts of faults and of calls, and whether the run has ended
pub record Seen : Type 0 where
  pub state : State
  pub faults : List ℕ
  pub calls : List ℕ
  pub ended : Bool

-- what a step's end tells: whether `quit` was executed, or the fault
abbrev pub told_end : StepEnd → Result Bool Fault
told_end Went = Ok false
told_end Quit = Ok true
told_end (FolderFault folder) = Err (fault.Folder folder)
told_end WriteFault = Err fault.Write
told_end OutOfMemory = Err fault.Memory

abbrev pub is_end : StepEnd → Bool
is_end Went = false
is_end Quit = true
is_end (FolderFault folder) = true
is_end WriteFault = true
is_end OutOfMemory = true
