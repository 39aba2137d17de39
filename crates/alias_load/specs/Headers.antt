-- The numbers at the front of an image.
use Rattle.std.specs.Prelude.{ℕ, ◌≡◌, List, Ok, IsOkAnd}
use Rattle.base_fields.specs.Fields.{u32_in}
use Rattle.part_plan.specs.Plan.{run}
use Rattle.alias_load.specs.declared.image_header.AliasHeader.{AliasHeader}
use Rattle.alias_load.specs.Models.{Alias}
use Rattle.alias_load.specs.Reading.{numskins, skinwidth, skinheight, numverts, numtris, numframes, alias}
use Rattle.alias_load.specs.Images.{count_of, image_of}

-- the header of an image
abbrev pub header_in : List ℕ → AliasHeader
header_in image = record {
  skins = u32_in image 44;
  width = u32_in image 48;
  height = u32_in image 52;
  vertices = u32_in image 56;
  triangles = u32_in image 60;
  frames = u32_in image 64;
  pictures = u32_in image 80;
  poses = u32_in image 84;
}

-- what a model has
abbrev pub header_of : Alias → AliasHeader
header_of model = record {
  skins = numskins model.header;
  width = skinwidth model.header;
  height = skinheight model.header;
  vertices = numverts model.header;
  triangles = numtris model.header;
  frames = numframes model.header;
  pictures = count_of model.skins;
  poses = count_of model.frames;
}

-- Where the image is that of a source, the header is that of the source's model.
abbrev pub TellsAlias : AliasHeader → List ℕ → Type 0
TellsAlias header image =
    (source : List ℕ) → image_of source ≡ Ok image → IsOkAnd (run alias source) (λ read. header ≡ header_of read.0)
