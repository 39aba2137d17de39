-- What is seen from a leaf of a map: a function of the leaf's number and of the image.
use Rattle.std.specs.Prelude.{ℕ, List, [], ◌∷◌, ◌++◌, Result, Ok, Err, decimal, codes}
use Rattle.reply_pieces.specs.Pieces.{joined}
use Rattle.vis_rows.specs.Rows.{row_of}
use Rattle.vis_rows.specs.declared.VisError.{VisError}
use Rattle.vis_rows.specs.declared.VisError.TheVariants.{NoLeaf, Truncated}
use Rattle.info_text.specs.Dumps.{hex_line}

-- what stands before a row
abbrev pub title : (leaf : ℕ) → List ℕ
title leaf = joined (codes "vis " ∷ decimal leaf ∷ codes " " ∷ [])

-- the number and the row, or why there is none
abbrev pub row_text : (leaf : ℕ) → Result (List ℕ) VisError → List ℕ
row_text leaf (Ok row) = title leaf ++ hex_line row
row_text leaf (Err NoLeaf) = joined (codes "no leaf " ∷ decimal leaf ∷ codes "\n" ∷ [])
row_text leaf (Err Truncated) = joined (codes "vis row " ∷ decimal leaf ∷ codes " truncated\n" ∷ [])

abbrev pub leaf_text : (leaf : ℕ) → (image : List ℕ) → List ℕ
leaf_text leaf image = row_text leaf (row_of image leaf)
