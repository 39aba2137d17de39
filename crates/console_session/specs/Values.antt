-- What the setting of a cvar does between commands.
use Rattle.std.specs.Prelude.{◌≡◌, ℕ, List, Bool, Result, OnErr, IfSome}
use Rattle.mem_model.specs.Answer.{Gives}
use Rattle.mem_model.specs.declared.answers.ZoneError.{ZoneError}
use Rattle.cvar_table.specs.Cvars.{set_cvar}
use Rattle.cvar_table.specs.Told.{zone_told}
use Rattle.console_session.specs.States.{State}

-- The cvar of this name is set as by the command that names it and has the value as its second word: the answer, the memory and
-- the cvars are those of `set_cvar`, and all else stays. A want of memory changes nothing.
pub record SetsCvar (frugal : Bool) (name value : List ℕ) (old new : State) (result : Result Bool ZoneError) : Type 0 where
  pub gives : Gives (set_cvar old.memory old.cvars name value).given frugal old.memory (zone_told result) new.memory
  pub cvars : IfSome (zone_told result) (λ _. new.cvars ≡ (set_cvar old.memory old.cvars name value).cvars)
  pub refused : OnErr result (new.cvars ≡ old.cvars)
  pub rest : new ≡ record old { memory = new.memory; cvars = new.cvars }
