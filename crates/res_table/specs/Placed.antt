-- Where an image is put: in a block of the cache, on the low hunk, or into the cache by way of the low hunk.
use Rattle.std.specs.Prelude.{ℕ, ◌≡◌, Bool, false, List, Option, Some, None, Result, Ok, Err, length, unwrap_or}
use Rattle.mem_model.specs.declared.answers.Place.{Place}
use Rattle.mem_model.specs.Answer.{Answered, Answers}
use Rattle.mem_model.specs.Cache.{peek_place}
use Rattle.mem_model.specs.Event.{Shortage, CacheRefusal}
use Rattle.mem_model.specs.Hunk.{with_low_bytes}
use Rattle.mem_model.specs.Images.{with_cache_bytes}
use Rattle.mem_model.specs.Memory.{Memory, low_used}
use Rattle.mem_model.specs.Operations.{cache_alloc, low_alloc, low_free, shortage}
use Rattle.mem_model.specs.Places.{cache_need}
use Rattle.res_table.specs.declared.kinds.Kind.{Kind}
use Rattle.res_table.specs.declared.kinds.Kind.TheVariants as kind

-- Where the block was given, the image stands at its front. Else there was no room: the user had no block, and no image is
-- empty.
abbrev pub filled : Memory → (user : ℕ) → (image : List ℕ) → Answered (Result (Unit {0}) CacheRefusal)
    → Result (Unit {0}) CacheRefusal → Answered (Result ℕ Shortage)
filled m user image given (Ok done) =
    record { answer = Ok (unwrap_or (peek_place given.after.cache user) 0); after = with_cache_bytes given.after user image }
filled m user image given (Err refusal) =
    record { answer = Err (shortage m (cache_need (length image))); after = given.after }

-- A block for the image of a user that has none is asked for, and the image is put there.
unfoldable pub cached : Memory → (user : ℕ) → (image name : List ℕ) → Answered (Result ℕ Shortage)
cached m user image name =
    filled m user image (cache_alloc m user (length image) name) (cache_alloc m user (length image) name).answer

-- what was answered, and the memory with the image in a low block, where that was given
abbrev pub filled_low : (image : List ℕ) → Memory → Result ℕ Shortage → Answered (Result ℕ Shortage)
filled_low image m (Ok place) = record { answer = Ok place; after = with_low_bytes m place image }
filled_low image m (Err shortage) = record { answer = Err shortage; after = m }

-- A low block for the image is asked for, and the image is put there.
unfoldable pub lowered : Memory → (image name : List ℕ) → Answered (Result ℕ Shortage)
lowered m image name =
    filled_low image (low_alloc m (length image) name).after (low_alloc m (length image) name).answer

-- what was answered, and the memory with its low hunk freed to a mark
abbrev pub freed : (mark : ℕ) → Answered (Result ℕ Shortage) → Answered (Result ℕ Shortage)
freed mark made = record { answer = made.answer; after = (low_free made.after mark).after }

-- An image on the low hunk is put into a block of the cache, and the low hunk is freed again whether or not it had room.
abbrev pub moved : (mark user : ℕ) → (image name : List ℕ) → Memory → Result ℕ Shortage → Answered (Result ℕ Shortage)
moved mark user image name m (Ok place) = freed mark (cached m user image name)
moved mark user image name m (Err shortage) = record { answer = Err shortage; after = m }

unfoldable pub through_low : Memory → (user : ℕ) → (image name : List ℕ) → Answered (Result ℕ Shortage)
through_low m user image name =
    moved (low_used m) user image name (lowered m image name).after (lowered m image name).answer

-- an image of each kind, put where it belongs
abbrev pub put_as : Kind → Memory → (user : ℕ) → (image name : List ℕ) → Answered (Result ℕ Shortage)
put_as kind.Brush m user image name = lowered m image name
put_as kind.Alias m user image name = through_low m user image name
put_as kind.Sprite m user image name = lowered m image name
put_as kind.Wad m user image name = lowered m image name
put_as kind.Sound m user image name = cached m user image name

-- the low place of an image, where it isn't in the cache
abbrev pub low_at : Kind → (place : ℕ) → Option Place
low_at kind.Brush place = Some (record { 0 = place })
low_at kind.Alias place = None
low_at kind.Sprite place = Some (record { 0 = place })
low_at kind.Wad place = Some (record { 0 = place })
low_at kind.Sound place = None

-- A call answered so, or without an answer ran out of memory.
abbrev pub GivesOrEnds : {A : Type 0} → Answered A → (frugal : Bool) → Option A → Memory → Type 0
GivesOrEnds given frugal (Some reply) new = Answers given reply new
GivesOrEnds given frugal None new = frugal ≡ false
