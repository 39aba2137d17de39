-- What is made of a file that is loaded.
use Rattle.std.specs.Prelude.{ℕ, ◌≡◌, true, List, length, Option, IfSome, Result, Ok, Err}
use Rattle.mem_model.specs.Answer.{Answered, Answers}
use Rattle.mem_model.specs.Event.{Shortage}
use Rattle.mem_model.specs.Memory.{Memory}
use Rattle.file_load.specs.Loads.{Load, Missing, Beyond, NoRoom, At, Loading}
use Rattle.res_table.specs.declared.answers.AcquireError.{AcquireError}
use Rattle.res_table.specs.declared.answers.AcquireError.TheVariants as error
use Rattle.res_table.specs.declared.answers.Fault.{Fault}
use Rattle.res_table.specs.declared.answers.Res.{Res}
use Rattle.res_table.specs.declared.builder.NewImage.{NewImage}
use Rattle.res_table.specs.declared.kinds.Kind.{Kind}
use Rattle.res_table.specs.declared.kinds.Table.{Table}
use Rattle.res_table.specs.Images.{kind_of, image_of}
use Rattle.res_table.specs.Placed.{put_as}

-- The image of so many bytes, by its builder and its size.
module _ (speed count : ℕ) where
  abbrev pub sized : (kind : Kind) → Result (List ℕ) Fault → Result NewImage Fault
  sized kind (Ok image) =
      Ok (record { builder = record { speed = speed; kind = kind }; length = count; size = length image })
  sized kind (Err fault) = Err fault

  -- the same of bytes that are of this kind
  abbrev pub sized_as : (bytes : List ℕ) → Kind → Result NewImage Fault
  sized_as bytes kind = sized kind (image_of speed kind bytes)

abbrev pub out_of_room : Shortage → AcquireError
out_of_room shortage = error.NoRoom shortage.asked shortage.room

-- a resource of this kind and size, loaded now to this place
abbrev pub new_res : Kind → ℕ → Result ℕ Shortage → Result Res AcquireError
new_res kind size (Ok place) = Ok (record { kind = kind; size = size; place = place; loaded = true })
new_res kind size (Err shortage) = Err (out_of_room shortage)

-- The image is put where it belongs, in a block that is named by the base of the file's name.
abbrev pub from_image : Memory → (user : ℕ) → (base : List ℕ) → Kind → Result (List ℕ) Fault
    → Answered (Result Res AcquireError)
from_image m user base kind (Ok image) = record {
  answer = new_res kind (length image) (put_as kind m user image base).answer;
  after = (put_as kind m user image base).after;
}
from_image m user base kind (Err fault) = record { answer = Err (error.Bad fault); after = m }

module _ (speed : ℕ) (table : Table) (user : ℕ) (base : List ℕ) where
  abbrev pub from_load : Memory → Load → Answered (Result Res AcquireError)
  from_load m Missing = record { answer = Err error.NotFound; after = m }
  from_load m (Beyond end whole) = record { answer = Err (error.BeyondPack end whole); after = m }
  from_load m (NoRoom shortage) = record { answer = Err (out_of_room shortage); after = m }
  from_load m (At place bytes) =
      from_image m user base (kind_of table bytes) (image_of speed (kind_of table bytes) bytes)

  -- The resource of a file that was loaded, or why there is none.
  unfoldable pub made_of : Loading → Answered (Result Res AcquireError)
  made_of loading = from_load loading.after loading.load

-- There is a loading of which the call made what it should, and it is the one that the mounts tell.
pub record IsMadeOf (make : Loading → Answered (Result Res AcquireError)) (told : Option Loading)
    (result : Result Res AcquireError) (new : Memory) : Type 0 where
  pub loading : Loading
  pub tells : IfSome told (λ given. given ≡ loading)
  pub made : Answers (make loading) result new

-- the same, but for a fault of a folder and a want of memory
abbrev pub Makes : (Loading → Answered (Result Res AcquireError)) → Option Loading → Result Res AcquireError → Memory
    → Type 0
Makes make told (Err (error.FolderFault folder)) new = Unit {0}
Makes make told (Err error.OutOfMemory) new = Unit {0}
Makes make told (Ok res) new = IsMadeOf make told (Ok res) new
Makes make told (Err error.TableFull) new = ⊥
Makes make told (Err error.NotFound) new = IsMadeOf make told (Err error.NotFound) new
Makes make told (Err (error.BeyondPack end whole)) new = IsMadeOf make told (Err (error.BeyondPack end whole)) new
Makes make told (Err (error.Bad fault)) new = IsMadeOf make told (Err (error.Bad fault)) new
Makes make told (Err (error.NoRoom asked room)) new = IsMadeOf make told (Err (error.NoRoom asked room)) new
