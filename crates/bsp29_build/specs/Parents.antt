-- The nodes and the leafs of an image: each row as the file has it, and the parent behind it.
use Rattle.std.specs.Prelude.{◌≡◌, ◌<◌, ℕ, ◌+◌, ◌*◌, ◌/◌, Bool, ◌||◌, ℤ, pos, negsuc, List, ◌++◌, length, take}
use Rattle.std.specs.Prelude.{Option, Some, None, IsSome, unwrap_or, position}
use Rattle.std.specs.List.{flat_map, range_with_len}
use Rattle.std.specs.Ordering.{int_eq}
use Rattle.base_fields.specs.Fields.{field, i16_in, u32_bytes}
use Rattle.bsp29_tables.specs.Lumps.{rows_in}
use Rattle.bsp29_build.specs.declared.parents.ChildKind.{ChildKind}
use Rattle.bsp29_build.specs.declared.parents.ChildKind.TheVariants.{Node, Leaf}

-- a node names another by its number, and the leaf n by -1 - n
abbrev pub child_of : ChildKind → ℕ → ℤ
child_of Node n = pos n
child_of Leaf n = negsuc n

-- a node has the child
abbrev pub has_child : ℤ → List ℕ → Bool
has_child child fields = int_eq (i16_in fields 4) child || int_eq (i16_in fields 6) child

-- the least node that has the child
unfoldable pub parent_of : List ℕ → ℤ → Option ℕ
parent_of nodes child = position (has_child child) (rows_in 24 nodes)

-- what stands in the place of a parent where there is none
abbrev pub no_parent : ℕ
no_parent = 0xffff_ffff

-- the bytes of a row in a file
abbrev pub child_size : ChildKind → ℕ
child_size Node = 24
child_size Leaf = 28

-- a row, and the parent behind it
abbrev pub with_parent : List ℕ → Option ℕ → List ℕ
with_parent fields parent = fields ++ u32_bytes (unwrap_or parent no_parent)

abbrev pub child_row : ChildKind → (nodes table : List ℕ) → ℕ → List ℕ
child_row kind nodes table n =
    with_parent (field (child_size kind) table (n * child_size kind)) (parent_of nodes (child_of kind n))

-- the rows of a table of children
unfoldable pub child_rows : ChildKind → (nodes table : List ℕ) → List ℕ
child_rows kind nodes table =
    flat_map (child_row kind nodes table) (range_with_len 0 (length table / child_size kind))

-- the rows of the nodes, and of the leafs
abbrev pub node_rows : (nodes : List ℕ) → List ℕ
node_rows nodes = child_rows Node nodes nodes

abbrev pub leaf_rows : (nodes leafs : List ℕ) → List ℕ
leaf_rows nodes leafs = child_rows Leaf nodes leafs

-- the children of this kind that nodes have are among so many rows
pub record HasRows (kind : ChildKind) (nodes : List ℕ) (count : ℕ) : Type 0 where
  pub there : (n : ℕ) → IsSome (parent_of nodes (child_of kind n)) → n < count

-- the children of each node are there
pub record HasChildren (nodes leafs : List ℕ) : Type 0 where
  pub has_nodes : HasRows Node nodes (length nodes / 24)
  pub has_leafs : HasRows Leaf nodes (length leafs / 28)

-- ---- a table while it is written

-- the number of a child, if it is of this kind
abbrev pub number_in : ChildKind → ℤ → Option ℕ
number_in Node (pos n) = Some n
number_in Leaf (negsuc n) = Some n
number_in kind other = None

-- a row before its parent is put
abbrev pub blank_row : (size : ℕ) (table : List ℕ) → ℕ → List ℕ
blank_row size table n = with_parent (field size table (n * size)) None

-- a row with the parent at its end, if there is one
abbrev pub ending_in : (size : ℕ) (fields : List ℕ) → Option ℕ → List ℕ
ending_in size fields None = fields
ending_in size fields (Some parent) = take size fields ++ u32_bytes parent

-- each row, of this size and four bytes more, ends in its parent now, where it is given one; else it is as it was
pub record PutsParents (size : ℕ) (parents : ℕ → Option ℕ) (old new : List ℕ) : Type 0 where
  pub each : (n : ℕ) → n < length old / (size + 4)
      → field (size + 4) new (n * (size + 4)) ≡ ending_in size (field (size + 4) old (n * (size + 4))) (parents n)
