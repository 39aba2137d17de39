-- What every state of a console keeps.
use Rattle.std.specs.Prelude.{ℕ, ◌≤◌, List, length}
use Rattle.std.specs.List.{AllByRecursion}
use Rattle.mem_model.specs.Laid.{Laid, IsText}
use Rattle.zone_values.specs.Held.{NoneAmong}
use Rattle.cvar_table.specs.Cvars.{HoldsCvars, places_of as cvar_places}
use Rattle.cmd_buffer.specs.Aliases.{HoldsAliases, aliases_of, alias_places}
use Rattle.cmd_buffer.specs.Words.{letters_in}
use Rattle.res_table.specs.Held.{AreHeld}
use Rattle.map_change.specs.Marks.{IsLowMark}
use Rattle.console_session.specs.States.{State}

-- The memory is laid out, each resource that is there is the image of its file, the host level is a mark of the low hunk, the
-- buffer has no zero byte, and the cvars and the aliases are in used blocks of the zone, each in its own.
pub record Holds (s : State) : Type 0 where
  pub laid : Laid s.memory
  pub resources : AreHeld s.path.mounts s.table s.memory
  pub level : IsLowMark s.memory.low s.level
  pub text : IsText s.buffer
  pub cvars : HoldsCvars s.memory s.cvars
  pub aliases : HoldsAliases s.memory s.newest
  pub apart : NoneAmong (alias_places (aliases_of s.memory s.newest)) (cvar_places s.cvars)

-- What is known of the words of a command: they come from a text of at most 1023 bytes, none of them zero.
pub record AreShort (words : List (List ℕ)) : Type 0 where
  pub texts : AllByRecursion IsText words
  pub few : length words ≤ 80
  pub small : letters_in words ≤ 1023
