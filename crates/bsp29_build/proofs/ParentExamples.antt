-- Worked examples: three nodes and three leafs.
use Rattle.std.proofs.Common.{◌≡◌, ℕ, List, [], ◌∷◌, ◌++◌, replicate, Some, None, pos, negsuc, refl}
use Rattle.base_fields.specs.Fields.{field, u16_in, u32_bytes}
use Rattle.bsp29_tables.specs.Lumps.{rows_in}
use Rattle.bsp29_build.specs.Parents.{parent_of, child_rows, node_rows, leaf_rows}
use Rattle.bsp29_build.specs.Hulls.{hull_row, hull_rows}

-- a node of this plane, which names its children by these two bytes each
abbrev node : ℕ → (front back : List ℕ) → List ℕ
node plane front back = u32_bytes plane ++ (front ++ (back ++ replicate 16 9))

-- a leaf whose contents begin with this byte
abbrev leaf : ℕ → List ℕ
leaf contents = contents ∷ 255 ∷ replicate 26 9

-- node 0 has the nodes 2 and 1, node 1 the leaf 1 and the node 2, and node 2 the leafs 0 and 1
abbrev nodes : List ℕ
nodes =
    node 5 (2 ∷ 0 ∷ []) (1 ∷ 0 ∷ [])
    ++ (node 6 (254 ∷ 255 ∷ []) (2 ∷ 0 ∷ []) ++ node 7 (255 ∷ 255 ∷ []) (254 ∷ 255 ∷ []))

abbrev leafs : List ℕ
leafs = leaf 250 ++ (leaf 251 ++ leaf 252)

-- the nodes 0 and 1 have it
of_two_nodes : parent_of nodes (pos 2) ≡ Some 0
unfolding parent_of rows_in u16_in
of_two_nodes = refl

-- the nodes 1 and 2 have it
of_a_leaf : parent_of nodes (negsuc 1) ≡ Some 1
unfolding parent_of rows_in u16_in
of_a_leaf = refl

of_the_first : parent_of nodes (pos 0) ≡ None
unfolding parent_of rows_in u16_in
of_the_first = refl

rows_of_nodes : node_rows nodes
    ≡ field 24 nodes 0
    ++ (u32_bytes 0xffff_ffff ++ (field 24 nodes 24 ++ (u32_bytes 0 ++ (field 24 nodes 48 ++ u32_bytes 0))))
unfolding child_rows parent_of rows_in u16_in
rows_of_nodes = refl

rows_of_leafs : leaf_rows nodes leafs
    ≡ leaf 250 ++ (u32_bytes 2 ++ (leaf 251 ++ (u32_bytes 1 ++ (leaf 252 ++ u32_bytes 0xffff_ffff))))
unfolding child_rows parent_of rows_in u16_in
rows_of_leafs = refl

-- node 1 has the contents of leaf 1, and node 2 those of the leafs 0 and 1
clipnodes : hull_rows nodes leafs
    ≡ 5 ∷ 0 ∷ 0 ∷ 0 ∷ 2 ∷ 0 ∷ 1 ∷ 0 ∷ 6 ∷ 0 ∷ 0 ∷ 0 ∷ 251 ∷ 255 ∷ 2 ∷ 0 ∷ 7 ∷ 0 ∷ 0 ∷ 0 ∷ 250 ∷ 255 ∷ 251 ∷ 255 ∷ []
unfolding hull_rows hull_row rows_in u16_in
clipnodes = refl
