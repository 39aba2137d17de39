-- What is known before an image is made.
use Rattle.std.specs.Prelude.{ℕ, ◌≡◌, ◌<◌, List, None, Result, Ok}
use Rattle.mem_model.specs.Cache.{peek_bytes}
use Rattle.mem_model.specs.Hunk.{temp_bytes}
use Rattle.mem_model.specs.Images.{HasBytes, front_of, image_size}
use Rattle.mem_model.specs.Memory.{Memory}
use Rattle.res_table.specs.declared.answers.Fault.{Fault}
use Rattle.res_table.specs.declared.builder.NewImage.{NewImage}
use Rattle.res_table.specs.Images.{image_of}

-- the bytes that it is made of
abbrev pub source_in : Memory → NewImage → List ℕ
source_in m new = front_of (temp_bytes m) new.length

-- the image that is to be made, or the fault of the bytes
abbrev pub image_in : Memory → NewImage → Result (List ℕ) Fault
image_in m new = image_of new.builder.speed new.builder.kind (source_in m new)

-- The bytes are there and have an image of that size, which isn't empty.
pub record IsReady (m : Memory) (new : NewImage) : Type 0 where
  pub source : HasBytes (temp_bytes m) new.length
  pub image : image_size (image_in m new) ≡ Ok new.size
  pub some : 0 < new.size

-- The user can be given a block: it is one of the cache's, and has none.
pub record IsFree (m : Memory) (user : ℕ) : Type 0 where
  pub known : user < m.users
  pub absent : peek_bytes m.cache user ≡ None
