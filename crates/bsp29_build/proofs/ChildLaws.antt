-- The children of nodes.
use Rattle.std.proofs.Common.{◌≡◌, ◌≢◌, ℕ, ◌+◌, ◌-◌, ◌*◌, ◌/◌, ◌<◌, Bool, true, false, ℤ, pos, negsuc}
use Rattle.std.proofs.Common.{List, [], length, get_or, take, drop, Some, IsSome, IfSome}
use Rattle.std.proofs.Common.{refl, sym, ◌∙◌, inl, inr, arith}
use Rattle.std.specs.Prelude.{position, ◌&&◌, nat_lt, Option, None}
use Rattle.std.specs.List.{position_or_len, list_all}
use Rattle.std.specs.Option.{option_map_or}
use Rattle.std.specs.Ordering.{int_eq}
use Rattle.std.proofs.lemmas.Bool.{cases_lt, false≢true, or_left, or_right, lt-ltb, false_from_ne_true}
use Rattle.std.proofs.lemmas.Bool.{or_cases, and_parts, ltb-true}
use Rattle.std.proofs.lemmas.Bool.Decides.{Decides-int_eq}
use Rattle.std.proofs.lemmas.List.Sums.{fails_before_first, AllPass-from_list_all}
use Rattle.std.proofs.lemmas.List.Quantifiers.{position-Some}
use Rattle.base_fields.specs.Fields.{i16_in}
use Rattle.bsp29_tables.specs.Lumps.{rows_in}
use Rattle.bsp29_tables.proofs.Cutting.{length-rows_in, get_or-rows_in}
use Rattle.bsp29_build.specs.declared.parents.ChildKind.{ChildKind}
use Rattle.bsp29_build.specs.declared.parents.ChildKind.TheVariants.{Node, Leaf}
use Rattle.bsp29_build.specs.Parents.{child_of, has_child, parent_of, HasRows, number_in}

same_child : (child : ℤ) → int_eq child child ≡ true
same_child child = (Decides-int_eq child child).1 refl

some_passes : (p : List ℕ → Bool) (xs : List (List ℕ)) (n : ℕ) → n < length xs → p (get_or xs n []) ≡ true
    → IsSome (position p xs)
some_passes p xs n lt passes =
    elim (cases_lt (position_or_len p xs) (length xs)) [
      | inl below ↦ rw (lt-ltb _ _ below) refl
      | inr past ↦ absurd (false≢true (sym (fails_before_first p xs n [] (omega arith)) ∙ passes))
    ]

some_parent : (nodes : List ℕ) (n : ℕ) (child : ℤ) → n < length nodes / 24
    → has_child child (get_or (rows_in 24 nodes) n []) ≡ true → IsSome (parent_of nodes child)
unfolding parent_of
some_parent nodes n child lt has = some_passes (has_child child) (rows_in 24 nodes) n (rw length-rows_in lt) has

among : (kind : ChildKind) (nodes : List ℕ) (count : ℕ) (child : ℤ) → HasRows kind nodes count
    → IsSome (parent_of nodes child) → IfSome (number_in kind child) (λ n. n < count)
among Node nodes count (pos n) has some = has.there n some
among Leaf nodes count (negsuc n) has some = has.there n some
among Node nodes count (negsuc n) has some = tt
among Leaf nodes count (pos n) has some = tt

-- the row of a node, as it is cut out of the bytes
abbrev pub node_at : (nodes : List ℕ) → ℕ → List ℕ
node_at nodes n = take (n * 24 + 24 - n * 24) (drop (n * 24) nodes)

is_among : (kind : ChildKind) (nodes : List ℕ) (count n : ℕ) (child : ℤ) → HasRows kind nodes count
    → n < length nodes / 24 → has_child child (node_at nodes n) ≡ true → IfSome (number_in kind child) (λ k. k < count)
is_among kind nodes count n child has lt of =
    among kind nodes count child has (some_parent nodes n child lt (rw (get_or-rows_in 24 nodes n lt) of))

-- the children of a node, if they are of the kind, are among the rows
pub front_among : (kind : ChildKind) (nodes : List ℕ) (count n : ℕ) → HasRows kind nodes count → n < length nodes / 24
    → IfSome (number_in kind (i16_in (node_at nodes n) 4)) (λ k. k < count)
front_among kind nodes count n has lt =
    let front = i16_in (node_at nodes n) 4 in
    is_among kind nodes count n front has lt (or_left _ _ (same_child front))

pub back_among : (kind : ChildKind) (nodes : List ℕ) (count n : ℕ) → HasRows kind nodes count → n < length nodes / 24
    → IfSome (number_in kind (i16_in (node_at nodes n) 6)) (λ k. k < count)
back_among kind nodes count n has lt =
    let back = i16_in (node_at nodes n) 6 in
    is_among kind nodes count n back has lt (or_right _ _ (same_child back))

-- ---- which row a child names

-- which child has the number that a node names
named : (kind : ChildKind) (child : ℤ) (number : ℕ) → number_in kind child ≡ Some number
    → child ≡ child_of kind number
named Node (pos c) number is = cc
named Leaf (negsuc c) number is = cc
named Node (negsuc c) number is = absurd cc
named Leaf (pos c) number is = absurd cc

one_number : (kind : ChildKind) (n number : ℕ) → child_of kind n ≡ child_of kind number → n ≡ number
one_number Node n number same = cc
one_number Leaf n number same = cc

pub is_named : (kind : ChildKind) (child : ℤ) (number : ℕ) → number_in kind child ≡ Some number
    → int_eq child (child_of kind number) ≡ true
is_named kind child number is = (Decides-int_eq child (child_of kind number)).1 (named kind child number is)

pub other_named : (kind : ChildKind) (child : ℤ) (number n : ℕ) → number_in kind child ≡ Some number → n ≢ number
    → int_eq child (child_of kind n) ≡ false
other_named kind child number n is other =
    let is_number = named kind child number is in
    false_from_ne_true (int_eq child (child_of kind n)) (λ same.
    other (one_number kind n number (sym ((Decides-int_eq child (child_of kind n)).0 same) ∙ is_number)))

-- ---- children that are tested one by one

-- a child, if it is of the kind, has a number below the count
abbrev pub is_below : ChildKind → (count : ℕ) → (child : ℤ) → Bool
is_below kind count child = option_map_or (λ n. nat_lt n count) (number_in kind child) true

below_if_named : (kind : ChildKind) (count n : ℕ) (child : ℤ) → is_below kind count child ≡ true
    → int_eq child (child_of kind n) ≡ true → n < count
below_if_named kind count n child below same = by kind n child below ((Decides-int_eq child (child_of kind n)).0 same)
  where
    by : (kind : ChildKind) (n : ℕ) (child : ℤ) → is_below kind count child ≡ true → child ≡ child_of kind n → n < count
    by Node n child below is = ltb-true n count (rw is at below)
    by Leaf n child below is = ltb-true n count (rw is at below)

-- both children of a row are
abbrev pub has_below : ChildKind → (count : ℕ) → (fields : List ℕ) → Bool
has_below kind count fields = is_below kind count (i16_in fields 4) && is_below kind count (i16_in fields 6)

row_tested : (kind : ChildKind) (count n k : ℕ) (rows : List (List ℕ)) → list_all (has_below kind count) rows ≡ true
    → position (has_child (child_of kind n)) rows ≡ Some k → n < count
row_tested kind count n k rows tested at =
    let child = child_of kind n in
    let found = position-Some (has_child child) rows k [] at in
    let front = i16_in (get_or rows k []) 4 in
    let back = i16_in (get_or rows k []) 6 in
    let passes = AllPass-from_list_all (has_below kind count) rows tested k [] found.0 in
    let both = and_parts (is_below kind count front) (is_below kind count back) passes in
    elim (or_cases (int_eq front child) (int_eq back child) found.1) [
      | inl same ↦ below_if_named kind count n front both.0 same
      | inr same ↦ below_if_named kind count n back both.1 same
    ]

rows_tested_at : (kind : ChildKind) (nodes : List ℕ) (count n : ℕ) (parent : Option ℕ)
    → list_all (has_below kind count) (rows_in 24 nodes) ≡ true → parent_of nodes (child_of kind n) ≡ parent
    → IsSome parent → n < count
unfolding parent_of
rows_tested_at kind nodes count n None tested is some = absurd cc
rows_tested_at kind nodes count n (Some k) tested is some = row_tested kind count n k (rows_in 24 nodes) tested is

-- a table of which each row is tested
pub rows_tested : (kind : ChildKind) (nodes : List ℕ) (count : ℕ)
    → list_all (has_below kind count) (rows_in 24 nodes) ≡ true → HasRows kind nodes count
rows_tested kind nodes count tested = record {
  there = λ n some. rows_tested_at kind nodes count n (parent_of nodes (child_of kind n)) tested refl some;
}
