-- What the calls of the aliases tell.
use Rattle.std.specs.Prelude.{◌≡◌, ◌⊎◌, ℕ, Bool, false, Option, Some, None, Result, Ok, Err}
use Rattle.mem_model.specs.Memory.{Memory}
use Rattle.mem_model.specs.Operations.{z_alloc, z_free}
use Rattle.mem_model.specs.declared.answers.ZoneError.TheVariants as zone_error
use Rattle.cmd_buffer.specs.Aliases.{AliasSet, AliasRefusal, AliasRefusal.LongName, AliasRefusal.Full}
use Rattle.cmd_buffer.specs.declared.aliases.AliasError.{AliasError}
use Rattle.cmd_buffer.specs.declared.aliases.AliasError.TheVariants as alias_error

-- none where the call ran out of memory
abbrev pub set_told : Result (Unit {0}) AliasError → Option (Result (Unit {0}) AliasRefusal)
set_told (Ok done) = Some (Ok done)
set_told (Err alias_error.LongName) = Some (Err LongName)
set_told (Err (alias_error.Zone (zone_error.Full asked))) = Some (Err (Full asked))
set_told (Err (alias_error.Zone zone_error.OutOfMemory)) = None

-- An alias was set, or not, as the definition says.
pub record IsSet (given : AliasSet) (reply : Result (Unit {0}) AliasRefusal) (new : Memory) (now : Option ℕ) : Type 0 where
  pub answer : given.answer ≡ reply
  pub after : new ≡ given.after
  pub newest : now ≡ given.newest

-- the memory once a block for a record was allocated and freed again
abbrev pub given_back : Memory → Result ℕ ℕ → Memory
given_back m (Ok place) = (z_free m place).after
given_back m (Err asked) = m

-- The store ran out of memory: nothing was changed, or a new record's block was freed again.
pub record RanOutSetting (frugal : Bool) (old new : Memory) (before newest : Option ℕ) : Type 0 where
  pub not_frugal : frugal ≡ false
  pub after : (new ≡ old) ⊎ (new ≡ given_back (z_alloc old 40).after (z_alloc old 40).answer)
  pub same : newest ≡ before

abbrev pub GivesSet : AliasSet → Bool → (old : Memory) → (before : Option ℕ) → Option (Result (Unit {0}) AliasRefusal) → Memory → Option ℕ → Type 0
GivesSet given frugal old before (Some reply) new newest = IsSet given reply new newest
GivesSet given frugal old before None new newest = RanOutSetting frugal old new before newest
