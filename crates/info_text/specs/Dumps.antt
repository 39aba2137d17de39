-- The text of a dump: a function of the name and the image.
use Rattle.std.specs.Prelude.{ℕ, ◌+◌, ◌*◌, ◌/◌, List, [], ◌∷◌, ◌++◌, length, decimal, codes}
use Rattle.std.specs.List.{flat_map, range_with_len}
use Rattle.hex.specs.Hex.{encode_lower}
use Rattle.base_fields.specs.Fields.{field}
use Rattle.reply_pieces.specs.Pieces.{joined}

-- the name, and how many bytes there are
abbrev pub title : List ℕ → ℕ → List ℕ
title name size = joined (codes "dump " ∷ name ∷ codes " " ∷ decimal size ∷ codes "\n" ∷ [])

-- each byte as two hexadecimal digits in lower case, the high half first, and a newline
abbrev pub hex_line : List ℕ → List ℕ
hex_line bytes = encode_lower bytes ++ codes "\n"

-- line i has the 32 bytes from 32 * i on, as far as there are any
abbrev pub line_at : List ℕ → ℕ → List ℕ
line_at image i = hex_line (field 32 image (32 * i))

-- as many lines as the bytes need
abbrev pub hex_lines : List ℕ → List ℕ
hex_lines image = flat_map (line_at image) (range_with_len 0 ((length image + 31) / 32))

abbrev pub dump_text : List ℕ → List ℕ → List ℕ
dump_text name image = title name (length image) ++ hex_lines image
