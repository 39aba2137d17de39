-- Pictures: a width, a height, and a byte a pixel.
use Rattle.std.specs.Prelude.{ℕ, ◌+◌, ◌*◌, Bool, not, ◌||◌, ◌==◌, nat_lt, List, [], ◌∷◌, length, Result}
use Rattle.base_fields.specs.Faults.{first_fault, unless}
use Rattle.base_fields.specs.Fields.{u32_in}
use Rattle.wad2_lumps.specs.declared.fault.PicFault.{PicFault}
use Rattle.wad2_lumps.specs.declared.fault.PicFault.TheVariants.{NotPicture, Outside}
use Rattle.wad2_lumps.specs.declared.answers.Picture.{Picture}

-- the picture at a place, whatever stands there
abbrev pub picture_at : List ℕ → ℕ → Picture
picture_at bytes p = record { width = u32_in bytes p; height = u32_in bytes (p + 4); offset = p + 8 }

-- where its last pixel has been passed
abbrev pub pixels_end : Picture → ℕ
pixels_end picture = picture.offset + picture.width * picture.height

-- the tests of a lump at p of this type, each with its fault
abbrev pub tests : List ℕ → ℕ → ℕ → List (Bool × PicFault)
tests bytes p kind =
    (not (kind == 66), NotPicture)
    ∷ (nat_lt (length bytes) (p + 8), Outside)
    ∷ (nat_lt 4096 (picture_at bytes p).width || nat_lt 4096 (picture_at bytes p).height, Outside)
    ∷ (nat_lt (length bytes) (pixels_end (picture_at bytes p)), Outside)
    ∷ []

-- the picture, or the first fault
unfoldable pub picture_in : List ℕ → ℕ → ℕ → Result Picture PicFault
picture_in bytes p kind = unless (first_fault (tests bytes p kind)) (picture_at bytes p)
