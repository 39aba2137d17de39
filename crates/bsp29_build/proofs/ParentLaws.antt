-- Parents that are put behind the rows of a table.
use Rattle.std.proofs.Common.{◌≡◌, ℕ, ◌+◌, ◌*◌, ◌/◌, ◌≤◌, ◌<◌, Bool, true, false, ◌||◌, cond, ℤ, List, [], ◌++◌}
use Rattle.std.proofs.Common.{length, take, drop, Option, Some, None, unwrap_or, refl, sym, ap, ◌∙◌, inl, inr, arith}
use Rattle.std.specs.List.{position_from, flat_map, range_with_len}
use Rattle.std.specs.Ordering.{int_eq}
use Rattle.std.specs.Option.{option_or}
use Rattle.std.proofs.lemmas.Bool.{cases_eq}
use Rattle.std.proofs.lemmas.List.{drop_more, drop_all, take_at, length-take, length-append}
use Rattle.std.proofs.lemmas.Iterator.Adapters.{position_from-zero}
use Rattle.base_fields.specs.Fields.{field, i16_in, u32_bytes, with_field}
use Rattle.base_fields.proofs.FieldLaws.{length-field}
use Rattle.bsp29_tables.specs.Lumps.{rows_in}
use Rattle.bsp29_tables.proofs.Cutting.{length-rows_in, get_or-rows_in}
use Rattle.bsp29_build.specs.declared.parents.ChildKind.{ChildKind}
use Rattle.bsp29_build.specs.declared.parents.ChildKind.TheVariants.{Node, Leaf}
use Rattle.bsp29_build.specs.Parents.{child_of, has_child, parent_of, child_size, with_parent, number_in, no_parent}
use Rattle.bsp29_build.specs.Parents.{ending_in, PutsParents, blank_row, child_row, child_rows, node_rows, leaf_rows}
use Rattle.bsp29_build.proofs.ChildLaws.{node_at, is_named, other_named}
use Rattle.bsp29_build.proofs.RowEdits.{row_inside, end_here, end_other, below_count}
use Rattle.bsp29_build.proofs.RowEdits.{HaveSize, length-rows, row_of_rows, rows_known}

-- ---- rows that end in parents

-- the parent of one child
abbrev pub only_of : ChildKind → (child : ℤ) → (parent : ℕ) → ℕ → Option ℕ
only_of kind child parent n = cond (int_eq child (child_of kind n)) (Some parent) None

-- one parent is put
pub puts_one : (kind : ChildKind) (old : List ℕ) (number parent : ℕ) (child : ℤ)
    → number < length old / (child_size kind + 4) → number_in kind child ≡ Some number
    → PutsParents (child_size kind) (only_of kind child parent) old
    (with_field old (number * (child_size kind + 4) + child_size kind) (u32_bytes parent))
puts_one kind old number parent child below is =
    let size = child_size kind in
    let room = row_inside (size + 4) (length old) number below in
    record {
      each = λ n lt.
          elim (cases_eq n number) [
            | inl same ↦
                rw (same, is_named kind child number is) (end_here size old (u32_bytes parent) number refl room)
            | inr other ↦
                rw (other_named kind child number n is other)
                (end_other size old (u32_bytes parent) number n refl room other)
          ];
    }

-- the second parents come before the first
ending_twice : (size : ℕ) (row : List ℕ) (first second : Option ℕ) → size ≤ length row
    → ending_in size (ending_in size row first) second ≡ ending_in size row (option_or second first)
ending_twice size row None None long = refl
ending_twice size row None (Some parent) long = refl
ending_twice size row (Some parent) None long = refl
ending_twice size row (Some parent) (Some other) long =
    let len : length (take size row) ≡ size = omega (arith, length-take size row) in
    ap (λ front. front ++ u32_bytes other) (take_at (take size row) (u32_bytes parent) size len)

pub puts_both : (size : ℕ) (first second : ℕ → Option ℕ) (old middle new : List ℕ) → length middle ≡ length old
    → PutsParents size first old middle → PutsParents size second middle new
    → PutsParents size (λ n. option_or (second n) (first n)) old new
puts_both size first second old middle new len one two = record {
  each = λ n lt.
      let row = field (size + 4) old (n * (size + 4)) in
      let long : size ≤ length row =
      omega (arith, length-field (size + 4) old (n * (size + 4)) (row_inside (size + 4) (length old) n lt)) in
      two.each n (rw len lt) ∙ rw (one.each n lt) (ending_twice size row (first n) (second n) long);
}

-- ---- the nodes from the last to the first

-- the least node from n on that has the child
abbrev pub parent_from : List ℕ → ℕ → ℤ → Option ℕ
parent_from nodes n child = position_from (has_child child) n (drop n (rows_in 24 nodes))

-- the nodes from n on have put their children's parents
pub record IsParented (kind : ChildKind) (nodes old new : List ℕ) (n : ℕ) : Type 0 where
  pub puts : PutsParents (child_size kind) (λ k. parent_from nodes n (child_of kind k)) old new

pub parented_none : (kind : ChildKind) (nodes old : List ℕ) → IsParented kind nodes old old (length nodes / 24)
parented_none kind nodes old =
    let rows = rows_in 24 nodes in
    let none : drop (length nodes / 24) rows ≡ [] =
    drop_all (length nodes / 24) rows (omega (arith, length-rows_in 24 nodes)) in
    record { puts = record { each = λ n lt. rw none refl } }

-- a node puts its parent behind both children, before the parents that are there
both_put : (first second : Bool) (n : ℕ) (rest : Option ℕ)
    → option_or (cond second (Some n) None) (option_or (cond first (Some n) None) rest)
    ≡ cond (first || second) (Some n) rest
both_put true true n rest = refl
both_put true false n rest = refl
both_put false true n rest = refl
both_put false false n rest = refl

parent_more : (nodes : List ℕ) (n : ℕ) (child : ℤ) → n < length nodes / 24
    → parent_from nodes n child ≡ cond (has_child child (node_at nodes n)) (Some n) (parent_from nodes (n + 1) child)
parent_more nodes n child lt =
    let below : n < length (rows_in 24 nodes) = rw length-rows_in lt in
    rw (drop_more (rows_in 24 nodes) n [] below, get_or-rows_in 24 nodes n lt) refl

pub parented_more : {kind : ChildKind} {nodes old new : List ℕ} (one two : List ℕ) (n : ℕ)
    → IsParented kind nodes old new (n + 1) → n < length nodes / 24 → length new ≡ length old → length one ≡ length old
    → PutsParents (child_size kind) (only_of kind (i16_in (node_at nodes n) 4) n) new one
    → PutsParents (child_size kind) (only_of kind (i16_in (node_at nodes n) 6) n) one two
    → IsParented kind nodes old two n
parented_more {kind} {nodes} {old} {new} one two n so lt new_len one_len first second =
    let size = child_size kind in
    let front = i16_in (node_at nodes n) 4 in
    let back = i16_in (node_at nodes n) 6 in
    let rest = λ (k : ℕ). parent_from nodes (n + 1) (child_of kind k) in
    let half = puts_both size rest (only_of kind front n) old new one new_len so.puts first in
    let later = λ (k : ℕ). option_or (only_of kind front n k) (rest k) in
    let whole = puts_both size later (only_of kind back n) old one two one_len half second in
    let same = λ (k : ℕ).
    both_put (int_eq front (child_of kind k)) (int_eq back (child_of kind k)) n (rest k)
    ∙ sym (parent_more nodes n (child_of kind k) lt) in
    record {
      puts = record {
        each = λ k below. whole.each k below ∙ ap (ending_in size (field (size + 4) old (k * (size + 4)))) (same k);
      };
    }

pub parented_all : {kind : ChildKind} {nodes old new : List ℕ} → IsParented kind nodes old new 0
    → PutsParents (child_size kind) (λ k. parent_of nodes (child_of kind k)) old new
unfolding parent_of
parented_all {kind} {nodes} {old} {new} so = record {
  each = λ k below.
      let size = child_size kind in
      so.puts.each k below
      ∙ ap (ending_in size (field (size + 4) old (k * (size + 4))))
      (sym (position_from-zero (has_child (child_of kind k)) (rows_in 24 nodes)));
}

-- ---- all rows of a table

-- a row of the table lies inside
length-row : (kind : ChildKind) (table : List ℕ) (n : ℕ) → n < length table / child_size kind
    → length (field (child_size kind) table (n * child_size kind)) ≡ child_size kind
length-row kind table n lt =
    length-field (child_size kind) table (n * child_size kind) (row_inside (child_size kind) (length table) n lt)

pub length-blank_row : (size : ℕ) (table : List ℕ) (n : ℕ) → n < length table / size
    → length (blank_row size table n) ≡ size + 4
length-blank_row size table n lt =
    length-append (field size table (n * size)) (u32_bytes no_parent)
    ∙ ap (λ k. k + 4) (length-field size table (n * size) (row_inside size (length table) n lt))

blank_size : (kind : ChildKind) (table : List ℕ)
    → HaveSize (blank_row (child_size kind) table) (child_size kind + 4) 0 (length table / child_size kind)
blank_size kind table n from lt = length-blank_row (child_size kind) table n lt

ending_blank : (size : ℕ) (row : List ℕ) (parent : Option ℕ) → length row ≡ size
    → ending_in size (with_parent row None) parent ≡ with_parent row parent
ending_blank size row None len = refl
ending_blank size row (Some parent) len =
    ap (λ front. front ++ u32_bytes parent) (take_at row (u32_bytes no_parent) size len)

-- rows without parents, in which the parents were put
pub parents_put : (kind : ChildKind) (nodes table blank out : List ℕ)
    → blank ≡ flat_map (blank_row (child_size kind) table) (range_with_len 0 (length table / child_size kind))
    → length out ≡ length blank
    → PutsParents (child_size kind) (λ n. parent_of nodes (child_of kind n)) blank out
    → out ≡ child_rows kind nodes table
unfolding child_rows
parents_put kind nodes table blank out is same puts =
    let size = child_size kind in
    let count = length table / size in
    let len : length blank ≡ (size + 4) * count =
    ap length is ∙ length-rows (blank_row size table) (size + 4) count (blank_size kind table) in
    rows_known (child_row kind nodes table) (size + 4) count out (same ∙ len ∙ grind arith) (λ n lt.
    let below : n < length blank / (size + 4) =
    below_count (size + 4) count (length blank) n (omega arith) len lt in
    let row = field size table (n * size) in
    let blank_is : field (size + 4) blank (n * (size + 4)) ≡ blank_row size table n =
    rw is (row_of_rows (blank_row size table) (size + 4) count n (blank_size kind table) lt) in
    puts.each n below
    ∙ rw blank_is (ending_blank size row (parent_of nodes (child_of kind n)) (length-row kind table n lt)))

-- ---- lengths

length-child_rows : (kind : ChildKind) (nodes table : List ℕ)
    → length (child_rows kind nodes table) ≡ (child_size kind + 4) * (length table / child_size kind)
unfolding child_rows
length-child_rows kind nodes table =
    length-rows (child_row kind nodes table) (child_size kind + 4) (length table / child_size kind) (λ n from lt.
    length-append (field (child_size kind) table (n * child_size kind))
    (u32_bytes (unwrap_or (parent_of nodes (child_of kind n)) no_parent))
    ∙ ap (λ k. k + 4) (length-row kind table n lt))

pub length-node_rows : (nodes : List ℕ) → length (node_rows nodes) ≡ 28 * (length nodes / 24)
length-node_rows nodes = length-child_rows Node nodes nodes

pub length-leaf_rows : (nodes leafs : List ℕ) → length (leaf_rows nodes leafs) ≡ 32 * (length leafs / 28)
length-leaf_rows nodes leafs = length-child_rows Leaf nodes leafs
