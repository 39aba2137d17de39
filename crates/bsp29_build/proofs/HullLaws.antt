-- Hull 0, node by node.
use Rattle.std.proofs.Common.{◌≡◌, ◌<◌, ℕ, ◌*◌, ◌+◌, ◌-◌, ◌/◌, ℤ, pos, negsuc, List, length, IfSome}
use Rattle.std.proofs.Common.{refl, ap, ◌∙◌, arith}
use Rattle.std.specs.List.{flat_map, range_with_len}
use Rattle.std.proofs.lemmas.List.{length-append}
use Rattle.std.proofs.lemmas.List.Folds.{flat_map-map}
use Rattle.base_fields.specs.Fields.{field, i16_in}
use Rattle.base_fields.proofs.FieldLaws.{length-field}
use Rattle.bsp29_tables.specs.Lumps.{rows_in}
use Rattle.bsp29_build.specs.declared.parents.ChildKind.TheVariants.{Leaf}
use Rattle.bsp29_build.specs.Parents.{HasRows, number_in}
use Rattle.bsp29_build.specs.Hulls.{hull_child, hull_row, hull_rows}
use Rattle.bsp29_build.proofs.RowEdits.{row_inside, length-rows}
use Rattle.bsp29_build.proofs.ChildLaws.{front_among, back_among}

-- the clipnode of a node
abbrev pub clipnode_at : (leafs nodes : List ℕ) → ℕ → List ℕ
clipnode_at leafs nodes n = hull_row leafs (field 24 nodes (n * 24))

pub hull_rows_by_number : (nodes leafs : List ℕ)
    → hull_rows nodes leafs ≡ flat_map (clipnode_at leafs nodes) (range_with_len 0 (length nodes / 24))
unfolding hull_rows rows_in
hull_rows_by_number nodes leafs =
    flat_map-map (hull_row leafs) (λ fields. field 24 nodes (fields * 24)) (range_with_len 0 (length nodes / 24))

-- ---- lengths

length-hull_child : (leafs number : List ℕ) (child : ℤ) → length number ≡ 2
    → IfSome (number_in Leaf child) (λ n. n < length leafs / 28) → length (hull_child leafs number child) ≡ 2
length-hull_child leafs number (pos c) len has = len
length-hull_child leafs number (negsuc c) len has =
    length-field 2 leafs (c * 28) (omega (arith, row_inside 28 (length leafs) c has))

length-clipnode : (leafs nodes : List ℕ) (n : ℕ) → HasRows Leaf nodes (length leafs / 28) → n < length nodes / 24
    → length (clipnode_at leafs nodes n) ≡ 8
unfolding hull_row
length-clipnode leafs nodes n has lt =
    let fields = field 24 nodes (n * 24) in
    let front = i16_in fields 4 in
    let back = i16_in fields 6 in
    let count = length leafs / 28 in
    let width : n * 24 + 24 - n * 24 ≡ 24 = omega arith in
    let long : length fields ≡ 24 = length-field 24 nodes (n * 24) (row_inside 24 (length nodes) n lt) in
    let front_has = rw width at (front_among Leaf nodes count n has lt) in
    let back_has = rw width at (back_among Leaf nodes count n has lt) in
    let front_long = length-hull_child leafs (field 2 fields 4) front (length-field 2 fields 4 (omega arith)) front_has in
    let back_long = length-hull_child leafs (field 2 fields 6) back (length-field 2 fields 6 (omega arith)) back_has in
    rw (length-append, length-field 4 fields 0 (omega arith), length-append, front_long, back_long) refl

pub length-hull_rows : (nodes leafs : List ℕ) → HasRows Leaf nodes (length leafs / 28)
    → length (hull_rows nodes leafs) ≡ 8 * (length nodes / 24)
length-hull_rows nodes leafs has =
    ap length (hull_rows_by_number nodes leafs)
    ∙ length-rows (clipnode_at leafs nodes) 8 (length nodes / 24) (λ n from lt. length-clipnode leafs nodes n has lt)
