-- What a caller's calls of the store between two steps leave of a session.
use Rattle.std.specs.Prelude.{ℕ, nat_lt, Contains, Result, Ok, Err, if◌then◌else◌}
use Rattle.mem_model.specs.Memory.{Memory}
use Rattle.mem_model.specs.Answer.{Answered}
use Rattle.mem_model.specs.Apart.{NoneIs}
use Rattle.mem_model.specs.Operations.{low_free}
use Rattle.cvar_table.specs.Cvars.{places_of as cvar_places}
use Rattle.cmd_buffer.specs.Aliases.{aliases_of, alias_places}
use Rattle.res_table.specs.Forgotten.{forgotten}
use Rattle.res_table.specs.Held.{lows_of}
use Rattle.console_session.specs.States.{State}
use Rattle.console_session.specs.Sessions.{Seen}

-- a session with another memory
abbrev pub with_memory : Seen → Memory → Seen
with_memory s m = record s { state = record s.state { memory = m } }

-- No resource is in the low block at this place.
abbrev pub HasNoResource : State → ℕ → Type 0
HasNoResource s place = ¬ Contains (lows_of s.table) place

-- Neither a cvar nor an alias is in the block of the zone at this place.
pub record HasNoValue (s : State) (place : ℕ) : Type 0 where
  pub cvars : NoneIs place (cvar_places s.cvars)
  pub aliases : NoneIs place (alias_places (aliases_of s.memory s.newest))

-- what is left where the low hunk was freed to a mark with this answer: what lay behind the mark is forgotten
abbrev pub left_behind : ℕ → State → (after : Memory) → Result (Unit {0}) ℕ → State
left_behind mark s after (Ok done) = record s { memory = after; table = forgotten mark s.table }
left_behind mark s after (Err bad) = record s { memory = after }

abbrev pub freed_by : ℕ → State → Answered (Result (Unit {0}) ℕ) → Result (Unit {0}) ℕ × State
freed_by mark s given = (given.answer, left_behind mark s given.after given.answer)

-- The low hunk is freed to a mark that isn't below the host level.
abbrev pub freed_low : ℕ → State → Result (Unit {0}) ℕ × State
freed_low mark s = if nat_lt mark s.level then (Err mark, s) else freed_by mark s (low_free s.memory mark)
