-- What a wad says of itself: how many lumps it has, and each row of its table.
use Rattle.std.specs.Prelude.{ℕ, List, [], ◌∷◌, ◌++◌, decimal, codes}
use Rattle.std.specs.List.{flat_map, range_with_len}
use Rattle.reply_pieces.specs.Pieces.{joined}
use Rattle.wad2_lumps.specs.declared.rows.LumpRow.{LumpRow}
use Rattle.wad2_lumps.specs.Lumps.{row_told}
use Rattle.wad2_lumps.specs.Wads.{count_in, row_in}
use Rattle.info_text.specs.LumpNames.{shown}

-- how many lumps there are
abbrev pub title : List ℕ → ℕ → List ℕ
title name count = joined (codes "wad " ∷ name ∷ codes " lumps " ∷ decimal count ∷ codes "\n" ∷ [])

-- what a row tells
abbrev pub lump_text : (number : ℕ) → LumpRow → List ℕ
lump_text number row = joined (codes "lump " ∷ decimal number ∷ codes " " ∷ shown row.name
    ∷ codes " type " ∷ decimal row.kind ∷ codes " size " ∷ decimal row.size
    ∷ codes " compression " ∷ decimal row.compression ∷ codes "\n" ∷ [])

-- row i of the table
abbrev pub row_text : List ℕ → ℕ → List ℕ
row_text image i = lump_text i (row_told (row_in image i))

-- all rows, in their order
abbrev pub rows_text : List ℕ → List ℕ
rows_text image = flat_map (row_text image) (range_with_len 0 (count_in image))

abbrev pub wad_text : (name image : List ℕ) → List ℕ
wad_text name image = title name (count_in image) ++ rows_text image
