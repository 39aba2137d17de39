-- The numbers at the front of an image.
use Rattle.std.specs.Prelude.{ℕ, ◌≡◌, List, length, Ok, IsOkAnd}
use Rattle.base_fields.specs.Fields.{u32_in}
use Rattle.part_plan.specs.Plan.{run}
use Rattle.sprite_load.specs.declared.header.SpriteHeader.{SpriteHeader}
use Rattle.sprite_load.specs.Sprites.{Sprite}
use Rattle.sprite_load.specs.Parts.{sprite}
use Rattle.sprite_load.specs.Images.{all_timed, image_of}

-- the header of an image
abbrev pub header_in : List ℕ → SpriteHeader
header_in image = record { kind = u32_in image 4; frames = u32_in image 20; pictures = u32_in image 32 }

-- what a sprite has
abbrev pub header_of : Sprite → SpriteHeader
header_of s = record { kind = u32_in s.header 8; frames = length s.frames; pictures = length (all_timed s.frames) }

-- Where the image is that of a source, the header is that of the source's sprite.
abbrev pub TellsSprite : SpriteHeader → List ℕ → Type 0
TellsSprite header image =
    (source : List ℕ) → image_of source ≡ Ok image → IsOkAnd (run sprite source) (λ read. header ≡ header_of read.0)
