-- In a file without a fault the children of each node are there.
use Rattle.std.proofs.Common.{◌≡◌, ℕ, ◌/◌, true, ℤ, pos, negsuc, List, [], length, get_or, Option, Some, None, IsSome}
use Rattle.std.proofs.Common.{refl, inl, inr}
use Rattle.std.specs.Ordering.{int_eq}
use Rattle.std.proofs.lemmas.Bool.{or_cases, and_parts, ltb-true}
use Rattle.std.proofs.lemmas.Bool.Decides.{Decides-int_eq}
use Rattle.std.proofs.lemmas.List.Quantifiers.{position-Some}
use Rattle.std.proofs.lemmas.Option.{slice_get-get_or}
use Rattle.base_fields.specs.Fields.{i16_in}
use Rattle.bsp29_tables.specs.declared.lumps.Lump.TheVariants.{Nodes, Leafs}
use Rattle.bsp29_tables.specs.Checks.{fine}
use Rattle.bsp29_tables.specs.Lumps.{lump_of, rows_of}
use Rattle.bsp29_tables.specs.Rows.{counts_of, is_child, node_passes}
use Rattle.bsp29_tables.specs.Order.{check_of}
use Rattle.bsp29_tables.specs.Sound.{IsSound}
use Rattle.bsp29_tables.proofs.Cutting.{length-rows_in}
use Rattle.bsp29_tables.proofs.SoundLaws.{sound_from_fine}
use Rattle.bsp29_build.specs.declared.parents.ChildKind.TheVariants.{Node, Leaf}
use Rattle.bsp29_build.specs.Parents.{has_child, parent_of, HasRows, HasChildren}

-- a child of a node that passes is there
child_passes : (bytes fields : List ℕ) (child : ℤ) → node_passes (counts_of bytes) fields ≡ true → has_child child fields ≡ true
    → is_child (counts_of bytes) child ≡ true
child_passes bytes fields child passes has =
    let upper = and_parts _ _ passes in
    let lower = and_parts _ _ upper.0 in
    let first = and_parts _ _ lower.0 in
    elim (or_cases (int_eq (i16_in fields 4) child) (int_eq (i16_in fields 6) child) has) [
      | inl four ↦ rw (← (Decides-int_eq (i16_in fields 4) child).0 four) first.1
      | inr six ↦ rw (← (Decides-int_eq (i16_in fields 6) child).0 six) lower.1
    ]

-- what has a parent is there
parent_passes : (bytes : List ℕ) (child : ℤ) → IsSound bytes → (parent : Option ℕ)
    → parent_of (lump_of bytes Nodes) child ≡ parent → IsSome parent → is_child (counts_of bytes) child ≡ true
unfolding parent_of
parent_passes bytes child sound None is some = absurd cc
parent_passes bytes child sound (Some n) is some =
    let rows = rows_of bytes Nodes in
    let found = position-Some (has_child child) rows n [] is in
    let fields = get_or rows n [] in
    child_passes bytes fields child (sound.rows Nodes n fields (slice_get-get_or rows n [] found.0)) found.1

pub children_from_sound : (bytes : List ℕ) → IsSound bytes → HasChildren (lump_of bytes Nodes) (lump_of bytes Leafs)
unfolding counts_of
children_from_sound bytes sound = record {
  has_nodes = record {
    there = λ n some.
        let passes = parent_passes bytes (pos n) sound _ refl some in
        rw (← length-rows_in 24 (lump_of bytes Nodes)) (ltb-true _ _ passes);
  };
  has_leafs = record {
    there = λ n some.
        let passes = parent_passes bytes (negsuc n) sound _ refl some in
        rw (← length-rows_in 28 (lump_of bytes Leafs)) (ltb-true _ _ passes);
  };
}

pub children_from_fine : (bytes : List ℕ) → check_of bytes ≡ fine
    → HasChildren (lump_of bytes Nodes) (lump_of bytes Leafs)
children_from_fine bytes e = children_from_sound bytes (sound_from_fine bytes e)

pub nodes_there : (bytes : List ℕ) → check_of bytes ≡ fine
    → HasRows Node (lump_of bytes Nodes) (length (lump_of bytes Nodes) / 24)
nodes_there bytes e = (children_from_fine bytes e).has_nodes

pub leafs_there : (bytes : List ℕ) → check_of bytes ≡ fine
    → HasRows Leaf (lump_of bytes Nodes) (length (lump_of bytes Leafs) / 28)
leafs_there bytes e = (children_from_fine bytes e).has_leafs

pub ruleset children_laws = (nodes_there, leafs_there)
