-- Hull 0 of an image: the nodes as clipnodes.
use Rattle.std.specs.Prelude.{ℕ, ◌*◌, ℤ, pos, negsuc, List, ◌++◌}
use Rattle.std.specs.List.{flat_map}
use Rattle.base_fields.specs.Fields.{field, i16_in}
use Rattle.bsp29_tables.specs.Lumps.{rows_in}

-- the two bytes of a node's number, or the first two of the leaf -1 - c, which tell its contents
abbrev pub hull_child : (leafs number : List ℕ) → ℤ → List ℕ
hull_child leafs number (pos c) = number
hull_child leafs number (negsuc c) = field 2 leafs (c * 28)

-- the plane of a node and its two children
unfoldable pub hull_row : (leafs fields : List ℕ) → List ℕ
hull_row leafs fields =
    field 4 fields 0
    ++ (hull_child leafs (field 2 fields 4) (i16_in fields 4) ++ hull_child leafs (field 2 fields 6) (i16_in fields 6))

unfoldable pub hull_rows : (nodes leafs : List ℕ) → List ℕ
hull_rows nodes leafs = flat_map (hull_row leafs) (rows_in 24 nodes)
