-- Frames of commands, and input lines.
use Prim.Native.Nat.{zero, suc}
use Rattle.std.specs.Prelude.{◌≡◌, ◌⊎◌, ℕ, List, [], ◌∷◌, ◌++◌, length, Bool, true}
use Rattle.std.specs.Prelude.{false, ◌==◌, if◌then◌else◌, Option, Some, None, Result, Ok, Err, codes}
use Rattle.std.specs.List.{AllByRecursion}
use Rattle.cmd_buffer.specs.Buffer.{fits_in, input}
use Rattle.outside_io.specs.Streams.{Adds}
use Rattle.console_session.specs.States.{State, Reply, Done, Did, Told, Untold, CutsOff, StillPut}
use Rattle.console_session.specs.Commands.{command}
use Rattle.console_session.specs.declared.ends.Next.{Next}
use Rattle.console_session.specs.declared.ends.Next.TheVariants.{Goes, Waits, Hands, Quits}
use Rattle.console_session.specs.declared.ends.Fault.{Fault}

-- where a run ends: the state then, and whether `quit` was executed
pub record Ended : Type 0 where
  pub after : State
  pub quit : Bool

-- A run of commands: the replies, and where it ends. It is told up to the first command that isn't, and no end is told then.
pub record Ran : Type 0 where
  pub replies : List Reply
  pub end : Option Ended

abbrev pub plain : List ℕ → Reply
plain text = record { text = text; load = false; takes = false }

abbrev pub stopped : State → List Reply → Bool → Ran
stopped s replies quit = record { replies = replies; end = Some (record { after = s; quit = quit }) }

-- a run of which nothing is told
abbrev pub untold : Ran
untold = record { replies = []; end = None }

-- a reply, and then what follows
abbrev pub and_then : Reply → Ran → Ran
and_then reply ran = record ran { replies = reply ∷ ran.replies }

-- Whether a frame ends behind a command, and whether by `quit`. `through` says that `wait` ends no frame.
abbrev pub ending : Bool → Next → Option Bool
ending through Goes = None
ending through Waits = if through then None else Some false
ending through Hands = Some false
ending through Quits = Some true

-- what follows a command that was done
abbrev pub gone_on : Done → Option Bool → (State → Ran) → Ran
gone_on done None rest = and_then done.reply (rest done.after)
gone_on done (Some quit) rest = stopped done.after (done.reply ∷ []) quit

-- a command, and what follows
abbrev pub continued : Did → (Next → Option Bool) → (State → Ran) → Ran
continued (Told done) ends rest = gone_on done (ends done.next) rest
continued Untold ends rest = untold

-- the commands of the buffer, of which at most so many are taken
unfoldable pub frame : Bool → ℕ → State → Ran
frame through zero s = if length s.buffer == 0 then stopped s [] false
    else stopped (record s { buffer = [] }) (plain (codes "runaway\n") ∷ []) false
frame through (suc n) s = if length s.buffer == 0 then stopped s [] false
    else continued (command s) (ending through) (λ after. frame through n after)

unfoldable pub overflowed : State → Ran
overflowed s = and_then (plain (codes "overflow\n")) (frame false 4096 s)

unfoldable pub line : List ℕ → State → Ran
line text s = if fits_in (input text) s.buffer then frame false 4096 (record s { buffer = s.buffer ++ input text })
    else overflowed s

abbrev pub finish : State → Ran
finish s = frame true 4096 s

abbrev pub texts : List Reply → List ℕ
texts [] = []
texts (reply ∷ replies) = reply.text ++ texts replies

-- the run is told to its end, and no command of it asks for a file
pub record NoneAsks (ran : Ran) : Type 0 where
  pub last : Ended
  pub ends : ran.end ≡ Some last
  pub none : AllByRecursion (λ (reply : Reply). reply.load ≡ false) ran.replies

-- all replies were put
pub record IsRun (replies : List Reply) (end : Ended) (answer : Bool) (new : State)
    (start now : Option (List ℕ)) : Type 0 where
  pub quit : end.quit ≡ answer
  pub after : new ≡ end.after
  pub put : Adds (texts replies) start now

-- the replies before one reply were put, and a fault ended that one
pub record IsCutShort (replies : List Reply) (fault : Fault) (start now : Option (List ℕ)) : Type 0 where
  pub before : List Reply
  pub reply : Reply
  pub later : List Reply
  pub split : replies ≡ before ++ reply ∷ later
  pub mid : Option (List ℕ)
  pub put : Adds (texts before) start mid
  pub part : CutsOff reply fault mid now

-- the replies were put, and what isn't told may have been put behind them
pub record BeginsWith (replies : List Reply) (start now : Option (List ℕ)) : Type 0 where
  pub mid : Option (List ℕ)
  pub put : Adds (texts replies) start mid
  pub more : StillPut mid now

-- What is told of a run was done whole, or a fault ended it; `answer` tells whether `quit` was executed.
abbrev pub GoesAs : List Reply → Option Ended → Result Bool Fault → State → (start now : Option (List ℕ)) → Type 0
GoesAs replies (Some end) (Ok quit) after start now = IsRun replies end quit after start now
GoesAs replies (Some end) (Err fault) after start now = IsCutShort replies fault start now
GoesAs replies None (Ok quit) after start now = BeginsWith replies start now
GoesAs replies None (Err fault) after start now = IsCutShort replies fault start now ⊎ BeginsWith replies start now

abbrev pub Runs : Ran → Result Bool Fault → State → (start now : Option (List ℕ)) → Type 0
Runs ran result after start now = GoesAs ran.replies ran.end result after start now
