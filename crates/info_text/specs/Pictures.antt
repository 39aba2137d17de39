-- A picture of a wad: a function of its lump's name, of its size and of the image.
use Rattle.std.specs.Prelude.{ℕ, ◌+◌, ◌*◌, List, [], ◌∷◌, ◌++◌, decimal, codes}
use Rattle.std.specs.List.{flat_map, range_with_len}
use Rattle.base_fields.specs.Fields.{field}
use Rattle.reply_pieces.specs.Pieces.{joined}
use Rattle.wad2_lumps.specs.declared.answers.Picture.{Picture}
use Rattle.info_text.specs.Dumps.{hex_line}
use Rattle.info_text.specs.LumpNames.{shown}

-- the name, the width and the height
abbrev pub title : List ℕ → Picture → List ℕ
title name picture = joined (codes "pic " ∷ shown name ∷ codes " " ∷ decimal picture.width
    ∷ codes " " ∷ decimal picture.height ∷ codes "\n" ∷ [])

-- row i has as many bytes as the picture is wide
abbrev pub row_text : Picture → List ℕ → ℕ → List ℕ
row_text picture image i = hex_line (field picture.width image (picture.offset + picture.width * i))

-- all rows, the first one first
abbrev pub rows_text : Picture → List ℕ → List ℕ
rows_text picture image = flat_map (row_text picture image) (range_with_len 0 picture.height)

abbrev pub picture_text : (name : List ℕ) → Picture → (image : List ℕ) → List ℕ
picture_text name picture image = title name picture ++ rows_text picture image
