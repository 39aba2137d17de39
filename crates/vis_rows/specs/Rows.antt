-- The row of a leaf: which leafs are seen from it, a bit for each.
use Rattle.std.specs.Prelude.{ℕ, zero, suc, ◌+◌, ◌/◌, List, [], ◌∷◌, ◌++◌, length, take, drop, replicate, ℤ, pos, negsuc}
use Rattle.std.specs.Prelude.{Option, Some, None, Result, Ok, Err, nat_lt, nat_le, ◌==◌, if◌then◌else◌}
use Rattle.base_fields.specs.Fields.{i32_in}
use Rattle.bsp29_build.specs.Readers.{count_told, leaf_told, visibility_told, visleafs_told}
use Rattle.vis_rows.specs.declared.VisError.{VisError}
use Rattle.vis_rows.specs.declared.VisError.TheVariants.{NoLeaf, Truncated}

-- what the bytes stand for: a zero and a count for as many zeros, and each other byte for itself
unfoldable pub expand : List ℕ → List ℕ
expand [] = []
expand (zero ∷ []) = []
expand (zero ∷ n ∷ bytes) = replicate n 0 ++ expand bytes
expand (suc x ∷ bytes) = suc x ∷ expand bytes

-- the first bytes, where there are so many
unfoldable pub first : (width : ℕ) → List ℕ → Result (List ℕ) VisError
first width bytes = if nat_lt (length bytes) width then Err Truncated else Ok (take width bytes)

-- how many bytes a row has
abbrev pub row_width : (image : List ℕ) → ℕ
row_width image = (visleafs_told image + 7) / 8

-- the bytes from an offset on, where it is inside
abbrev pub from_offset : ℤ → List ℕ → Option (List ℕ)
from_offset (pos at) bytes = if nat_lt at (length bytes) then Some (drop at bytes) else None
from_offset (negsuc at) bytes = None

-- the bytes that tell what is seen from a leaf
abbrev pub told_from : (image : List ℕ) → (leaf : ℕ) → Option (List ℕ)
told_from image leaf =
    if leaf == 0 then None else from_offset (i32_in (leaf_told image leaf) 4) (visibility_told image)

-- the row that they tell; where there are none, all leafs are seen
abbrev pub row_told : (width : ℕ) → Option (List ℕ) → Result (List ℕ) VisError
row_told width None = Ok (replicate width 255)
row_told width (Some bytes) = first width (expand bytes)

-- the row of a leaf
unfoldable pub row_of : (image : List ℕ) → (leaf : ℕ) → Result (List ℕ) VisError
row_of image leaf =
    if nat_le (count_told image 10) leaf then Err NoLeaf else row_told (row_width image) (told_from image leaf)

-- ---- what a call leaves in the bytes that it fills: all of them, or so many at their front

abbrev pub whole : {T : Type 0} → (out : List ℕ) → Result T VisError → Result (List ℕ) VisError
whole out (Ok done) = Ok out
whole out (Err error) = Err error

abbrev pub front : (out : List ℕ) → Result ℕ VisError → Result (List ℕ) VisError
front out (Ok n) = Ok (take n out)
front out (Err error) = Err error
