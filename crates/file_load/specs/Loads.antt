-- Loading the first file of a name into a new block.
use Rattle.std.specs.Prelude.{◌≡◌, ℕ, ◌+◌, ◌-◌, ◌<◌, List, ◌++◌, length, replicate, Option, Some, None, option_map}
use Rattle.std.specs.Prelude.{Result, Ok, Err}
use Rattle.std.specs.Option.{ok_or}
use Rattle.base_fields.specs.Names.{base_of}
use Rattle.mem_model.specs.Answer.{Answered}
use Rattle.mem_model.specs.Event.{Shortage}
use Rattle.mem_model.specs.Memory.{Memory}
use Rattle.mem_model.specs.Places.{round_up}
use Rattle.mem_model.specs.Hunk.{low_bytes, with_low_bytes, temp_bytes, with_temp_bytes}
use Rattle.mem_model.specs.Operations.{low_alloc, temp_alloc}
use Rattle.mem_model.specs.declared.answers.Place.{Place}
use Rattle.search_paths.specs.Counts.{RoseAt}
use Rattle.search_paths.specs.Mounts.{FileAt, Mount, find_told}
use Rattle.file_load.specs.declared.errors.LoadError.{LoadError}
use Rattle.file_load.specs.declared.errors.LoadError.TheVariants as error
use Rattle.file_load.specs.declared.errors.Stage.TheVariants as stage

-- What comes of a load: no mount has the name; the file ends here, past the end of what it lies in, which has so many bytes;
-- there is no room for its block; or its bytes are in the block of this place.
pub data Load : Type 0 where
  Missing : Load
  Beyond : ℕ → ℕ → Load
  NoRoom : Shortage → Load
  At : ℕ → List ℕ → Load

pub record Loading : Type 0 where
  pub load : Load
  pub after : Memory

-- the bytes of a file that was looked for, or why there are none
abbrev pub sought : Option (ℕ × FileAt) → Result (List ℕ) Load
sought None = Err Missing
sought (Some found) = ok_or found.1.bytes (Beyond (found.1.offset + found.1.size) found.1.whole)

-- a file's bytes in its block, and zeros behind them
abbrev pub padded : List ℕ → List ℕ
padded bytes = bytes ++ replicate (round_up (length bytes + 1) 16 - length bytes) 0

-- a low block for a file of so many bytes: a byte more, named by the base of the file's name
abbrev pub low_block : Memory → List ℕ → ℕ → Answered (Result ℕ Shortage)
low_block m name size = low_alloc m (size + 1) (base_of name)

-- a temporary block for one
abbrev pub temp_block : Memory → ℕ → Answered (Result ℕ Shortage)
temp_block m size = temp_alloc m (size + 1)

-- how bytes are written into it
abbrev pub with_temp : Memory → ℕ → List ℕ → Memory
with_temp m place bytes = with_temp_bytes m bytes

-- the bytes are written into the block that was given
abbrev pub placed : (Memory → ℕ → List ℕ → Memory) → List ℕ → Memory → Result ℕ Shortage → Loading
placed written bytes m (Ok place) = record { load = At place bytes; after = written m place (padded bytes) }
placed written bytes m (Err shortage) = record { load = NoRoom shortage; after = m }

-- a block for the bytes is asked for
abbrev pub loading : (ℕ → Answered (Result ℕ Shortage)) → (Memory → ℕ → List ℕ → Memory) → Memory → Result (List ℕ) Load
    → Loading
loading block written m (Ok bytes) = placed written bytes (block (length bytes)).after (block (length bytes)).answer
loading block written m (Err refusal) = record { load = refusal; after = m }

-- a file that was found, or none, in a new low block
unfoldable pub low_load : Memory → List ℕ → Option (ℕ × FileAt) → Loading
low_load m name found = loading (low_block m name) with_low_bytes m (sought found)

-- the same in a new temporary block
unfoldable pub temp_load : Memory → List ℕ → Option (ℕ × FileAt) → Loading
temp_load m name found = loading (temp_block m) with_temp m (sought found)

-- the first file of this name in a new low block, where the mounts tell it
abbrev pub load_low : List (Option Mount) → Memory → List ℕ → Option Loading
load_low mounts m name = option_map (low_load m name) (find_told name mounts)

-- the same in a new temporary block
abbrev pub load_temp : List (Option Mount) → Memory → List ℕ → Option Loading
load_temp mounts m name = option_map (temp_load m name) (find_told name mounts)

-- The file is in the low block of the place that was answered, with its length.
pub record IsLoaded (given : Loading) (loaded : Place × ℕ) (new : Memory) : Type 0 where
  pub bytes : List ℕ
  pub load : given.load ≡ At loaded.0.0 bytes
  pub length : loaded.1 ≡ length bytes
  pub there : low_bytes new loaded.0.0 ≡ Some (padded bytes)
  pub after : new ≡ given.after

-- The file, of the length that was answered, is in the temporary block.
pub record IsTempLoaded (given : Loading) (loaded : ℕ) (new : Memory) : Type 0 where
  pub place : ℕ
  pub bytes : List ℕ
  pub load : given.load ≡ At place bytes
  pub length : loaded ≡ length bytes
  pub there : temp_bytes new ≡ Some (padded bytes)
  pub after : new ≡ given.after

-- The file was not read into its block: it has as many bytes as it would have, and these are unknown.
pub record IsUnread (given : Loading) (written : Memory → ℕ → List ℕ → Memory) (new : Memory) : Type 0 where
  pub place : ℕ
  pub bytes : List ℕ
  pub unknown : List ℕ
  pub load : given.load ≡ At place bytes
  pub length : length unknown ≡ length (padded bytes)
  pub after : new ≡ written given.after place unknown

pub record IsRefused (given : Loading) (answer : Load) (new : Memory) : Type 0 where
  pub load : given.load ≡ answer
  pub after : new ≡ given.after

-- How a call loaded, or was refused, as the definition says. A fault at the search and a want of memory end it before that.
abbrev pub Tells : {T : Type 0} → (T → Type 0) → (Memory → ℕ → List ℕ → Memory) → Loading → Result T LoadError → Memory
    → Type 0
Tells IsIt written given (Ok loaded) new = IsIt loaded
Tells IsIt written given (Err error.NotFound) new = IsRefused given Missing new
Tells IsIt written given (Err (error.BeyondPack end whole)) new = IsRefused given (Beyond end whole) new
Tells IsIt written given (Err (error.NoRoom asked room)) new =
    IsRefused given (NoRoom (record { asked = asked; room = room })) new
Tells IsIt written given (Err (error.FolderFault folder stage.Find)) new = Unit {0}
Tells IsIt written given (Err (error.FolderFault folder stage.Read)) new = IsUnread given written new
Tells IsIt written given (Err error.OutOfMemory) new = Unit {0}

-- into a low block
abbrev pub Loads : Loading → Result (Place × ℕ) LoadError → Memory → Type 0
Loads given result new = Tells (λ loaded. IsLoaded given loaded new) with_low_bytes given result new

-- into the temporary block
abbrev pub LoadsTemp : Loading → Result ℕ LoadError → Memory → Type 0
LoadsTemp given result new = Tells (λ loaded. IsTempLoaded given loaded new) with_temp given result new

-- a folder's fault comes only where there is a folder of the number, and its count rose
abbrev pub IsLoadFault : List ℕ → List ℕ → LoadError → Type 0
IsLoadFault before after error.NotFound = Unit {0}
IsLoadFault before after (error.BeyondPack end whole) = Unit {0}
IsLoadFault before after (error.NoRoom asked room) = Unit {0}
IsLoadFault before after (error.FolderFault folder at) = (folder < length before) × RoseAt folder before after
IsLoadFault before after error.OutOfMemory = Unit {0}
