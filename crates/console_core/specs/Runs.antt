-- Runs of many lines, and of a whole script.
use Rattle.std.specs.Prelude.{◌≡◌, ℕ, List, [], ◌∷◌, ◌++◌, length, Bool, true, false, ◌==◌, if◌then◌else◌, Option}
use Rattle.std.specs.Prelude.{Some, None}
use Rattle.std.specs.List.{AllByRecursion}
use Rattle.console_session.specs.States.{State, Reply}
use Rattle.console_session.specs.Frames.{Ended, Ran, stopped, line, finish}

-- replies, and then those of a run
abbrev pub joined_runs : List Reply → Ran → Ran
joined_runs replies ran = record { replies = replies ++ ran.replies; end = ran.end }

abbrev pub go_on : Bool → List Reply → State → (State → Ran) → Ran
go_on true replies after rest = stopped after replies true
go_on false replies after rest = joined_runs replies (rest after)

-- replies that end so, and then what follows: nothing where no end is told
abbrev pub behind : List Reply → Option Ended → (State → Ran) → Ran
behind replies None rest = record { replies = replies; end = None }
behind replies (Some end) rest = go_on end.quit replies end.after rest

-- a run, and then what follows where its end is told and it didn't quit
abbrev pub followed : Ran → (State → Ran) → Ran
followed ran rest = behind ran.replies ran.end rest

-- whether a run ends by `quit`, where its end is told
abbrev pub quit_at : Option Ended → Option Bool
quit_at None = None
quit_at (Some end) = Some end.quit

-- lines of input, one after another, up to `quit`
abbrev pub run_lines : State → List (List ℕ) → Ran
run_lines s [] = stopped s [] false
run_lines s (text ∷ lines) = followed (line text s) (λ after. run_lines after lines)

-- the whole lines of a text, which end in a newline, and the rest
pub record Lines : Type 0 where
  pub whole : List (List ℕ)
  pub rest : List ℕ

-- the first line begins with this byte
abbrev pub begun : ℕ → List (List ℕ) → List ℕ → Lines
begun byte [] rest = record { whole = []; rest = byte ∷ rest }
begun byte (text ∷ others) rest = record { whole = (byte ∷ text) ∷ others; rest = rest }

abbrev pub one_byte : Bool → ℕ → Lines → Lines
one_byte true byte lines = record { whole = [] ∷ lines.whole; rest = lines.rest }
one_byte false byte lines = begun byte lines.whole lines.rest

abbrev pub lines_of : List ℕ → Lines
lines_of [] = record { whole = []; rest = [] }
lines_of (byte ∷ bytes) = one_byte (byte == 10) byte (lines_of bytes)

-- a last line without a newline counts where it isn't empty
abbrev pub last_line : State → List ℕ → Ran
last_line s text = if length text == 0 then stopped s [] false else line text s

-- the line at the script's end, and the frames after it
abbrev pub rest_run : State → List ℕ → Ran
rest_run s text = followed (last_line s text) (λ after. finish after)

-- the whole script
abbrev pub run : State → List ℕ → Ran
run s script = followed (run_lines s (lines_of script).whole) (λ after. rest_run after (lines_of script).rest)

abbrev pub HasNoNewline : List ℕ → Type 0
HasNoNewline text = AllByRecursion (λ byte. (byte == 10) ≡ false) text

-- the first line of a text, without its newline, and what stands behind that
pub record IsFirstLine (text first behind : List ℕ) : Type 0 where
  pub is : text ≡ (first ++ 10 ∷ []) ++ behind
  pub none : HasNoNewline first
