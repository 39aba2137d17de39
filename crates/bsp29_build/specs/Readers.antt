-- What an image tells of its model.
use Rattle.std.specs.Prelude.{ℕ, ◌≡◌, ◌+◌, ◌*◌, ◌≤◌, ◌==◌, List, length, slice_get, Option, Some, None, Ok, if◌then◌else◌}
use Rattle.base_fields.specs.Fields.{field, u32_in}
use Rattle.bsp29_tables.specs.Textures.{missing}
use Rattle.bsp29_build.specs.declared.readers.BrushTexture.{BrushTexture}
use Rattle.bsp29_build.specs.declared.sections.Section.{Section}
use Rattle.bsp29_build.specs.Images.{image_of}
use Rattle.bsp29_build.specs.Sections.{all_sections, count_in, size_in, bytes_in}

-- where the section of a number begins, and how many rows it has
abbrev pub offset_told : (image : List ℕ) → (number : ℕ) → ℕ
offset_told image number = u32_in image (8 * number + 4)

abbrev pub count_told : (image : List ℕ) → (number : ℕ) → ℕ
count_told image number = u32_in image (8 * number + 8)

-- The section of a file stands where the image says, with as many rows.
pub record HasSection (file image : List ℕ) (number : ℕ) (s : Section) : Type 0 where
  pub count : count_told image number ≡ count_in file s
  pub inside : offset_told image number + size_in file s ≤ length image
  pub stands : field (size_in file s) image (offset_told image number) ≡ bytes_in file (offset_told image number) s

-- So do all sections in the image of a file.
abbrev pub TellsSections : (image : List ℕ) → Type 0
TellsSections image = (file : List ℕ) (number : ℕ) (s : Section) → image_of file ≡ Ok image
    → slice_get all_sections number ≡ Some s → HasSection file image number s

-- the image of some file
pub record IsBrush (image : List ℕ) : Type 0 where
  pub file : List ℕ
  pub is : image_of file ≡ Ok image

-- how many leafs can be seen in the first model
abbrev pub visleafs_told : (image : List ℕ) → ℕ
visleafs_told image = u32_in image (offset_told image 14 + 52)

-- the row of a leaf
abbrev pub leaf_told : (image : List ℕ) → (leaf : ℕ) → List ℕ
leaf_told image leaf = field 32 image (offset_told image 10 + 32 * leaf)

-- the bytes of all rows of visibility
abbrev pub visibility_told : (image : List ℕ) → List ℕ
visibility_told image = field (count_told image 4) image (offset_told image 4)

-- a number, or none
abbrev pub number_told : ℕ → Option ℕ
number_told number = if number == missing then None else Some number

-- what the row of a texture tells, where it isn't missing
abbrev pub texture_in : (fields : List ℕ) → Option BrushTexture
texture_in fields =
    if u32_in fields 0 == 0 then None
    else Some (record {
      name = field 16 fields 4;
      width = u32_in fields 20;
      height = u32_in fields 24;
      cycle = record {
        total = u32_in fields 44;
        least = u32_in fields 48;
        greatest = u32_in fields 52;
        next = number_told (u32_in fields 56);
        alternate = number_told (u32_in fields 60);
      };
    })

-- the texture of a number
abbrev pub texture_told : (image : List ℕ) → (texture : ℕ) → Option BrushTexture
texture_told image texture = texture_in (field 68 image (offset_told image 2 + 68 * texture))
