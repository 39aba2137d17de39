-- What a load leaves of the memory, whatever the folders tell.
use Rattle.std.specs.Prelude.{◌≡◌, ℕ, ◌+◌, List, length, Result, Ok, Err}
use Rattle.mem_model.specs.Answer.{Answered, Answers}
use Rattle.mem_model.specs.Event.{Shortage}
use Rattle.mem_model.specs.Memory.{Memory}
use Rattle.mem_model.specs.Places.{round_up}
use Rattle.mem_model.specs.Hunk.{with_low_bytes, without_temp}
use Rattle.mem_model.specs.declared.answers.Place.{Place}
use Rattle.file_load.specs.declared.errors.LoadError.{LoadError}
use Rattle.file_load.specs.declared.errors.LoadError.TheVariants as error
use Rattle.file_load.specs.declared.errors.Stage.TheVariants as stage
use Rattle.file_load.specs.Loads.{low_block, temp_block, with_temp}

module _ (block : ℕ → Answered (Result ℕ Shortage)) (written : Memory → ℕ → List ℕ → Memory) where
  -- A block for a file of this size stands at this place, with these bytes in it.
  pub record IsMade (size place : ℕ) (new : Memory) : Type 0 where
    pub bytes : List ℕ
    pub given : (block size).answer ≡ Ok place
    pub length : length bytes ≡ round_up (size + 1) 16
    pub after : new ≡ written (block size).after place bytes

  -- no block for a file of some size was given
  abbrev pub IsShort : Shortage → Memory → Type 0
  IsShort shortage new = (size : ℕ) × Answers (block size) (Err shortage) new

  -- By what a load answered. A want of memory leaves `left`.
  abbrev pub Leaves : {T : Type 0} → (T → Type 0) → Memory → Memory → Result T LoadError → Memory → Type 0
  Leaves IsIt before left (Ok loaded) new = IsIt loaded
  Leaves IsIt before left (Err error.NotFound) new = new ≡ before
  Leaves IsIt before left (Err (error.BeyondPack end whole)) new = new ≡ before
  Leaves IsIt before left (Err (error.NoRoom asked room)) new = IsShort (record { asked = asked; room = room }) new
  Leaves IsIt before left (Err (error.FolderFault folder stage.Find)) new = new ≡ before
  Leaves IsIt before left (Err (error.FolderFault folder stage.Read)) new = (size place : ℕ) × IsMade size place new
  Leaves IsIt before left (Err error.OutOfMemory) new = new ≡ left

-- A low block stands where it was answered, for a file of the length that was answered.
abbrev pub IsLowMade : Memory → List ℕ → Memory → Place × ℕ → Type 0
IsLowMade m name new loaded = IsMade (low_block m name) with_low_bytes loaded.1 loaded.0.0 new

abbrev pub LeavesLow : Memory → List ℕ → Result (Place × ℕ) LoadError → Memory → Type 0
LeavesLow m name result new = Leaves (low_block m name) with_low_bytes (IsLowMade m name new) m m result new

-- The temporary block stands for one. A want of memory has freed the block that was active.
abbrev pub IsTempMade : Memory → Memory → ℕ → Type 0
IsTempMade m new loaded = (place : ℕ) × IsMade (temp_block m) with_temp loaded place new

abbrev pub LeavesTemp : Memory → Result ℕ LoadError → Memory → Type 0
LeavesTemp m result new = Leaves (temp_block m) with_temp (IsTempMade m new) m (without_temp m) result new

-- what came before a block was asked for left the memory as it was
abbrev pub IsEarly : Memory → Memory → LoadError → Type 0
IsEarly before after error.NotFound = after ≡ before
IsEarly before after (error.BeyondPack end whole) = after ≡ before
IsEarly before after (error.NoRoom asked room) = Unit {0}
IsEarly before after (error.FolderFault folder stage.Find) = after ≡ before
IsEarly before after (error.FolderFault folder stage.Read) = Unit {0}
IsEarly before after error.OutOfMemory = Unit {0}
