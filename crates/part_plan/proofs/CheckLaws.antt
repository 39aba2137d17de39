-- Tests of one row after the other.
use Rattle.std.proofs.Common.{◌≡◌, ℕ, suc, ◌+◌, ◌-◌, ◌≤◌, ◌<◌, Bool, true, false, Option, Some, None, refl, sym, ◌∙◌, arith}
use Rattle.std.specs.List.{list_any, range_with_len}
use Rattle.base_fields.specs.Faults.{first_fault}
use Rattle.part_plan.specs.Checks.{each_row}

-- whether one of n numbers passes a test, from the number j on
pub wrong_more : (p : ℕ → Bool) (n j : ℕ) (total : Bool) → j < n → p j ≡ false
    → list_any p (range_with_len j (n - j)) ≡ total → list_any p (range_with_len (j + 1) (n - (j + 1))) ≡ total
wrong_more p n j total lt is so_far =
    let k : n - j ≡ suc (n - (j + 1)) = omega arith in
    let one : list_any p (range_with_len j (n - j)) ≡ list_any p (range_with_len (j + 1) (n - (j + 1))) = rw (k, is) refl in
    sym one ∙ so_far

pub wrong_here : (p : ℕ → Bool) (n j : ℕ) (total : Bool) → j < n → p j ≡ true → list_any p (range_with_len j (n - j)) ≡ total → total ≡ true
wrong_here p n j total lt is so_far =
    let k : n - j ≡ suc (n - (j + 1)) = omega arith in
    let one : list_any p (range_with_len j (n - j)) ≡ true = rw (k, is) refl in
    sym so_far ∙ one

pub none_wrong : (p : ℕ → Bool) (n j : ℕ) (total : Bool) → n ≤ j → list_any p (range_with_len j (n - j)) ≡ total → total ≡ false
none_wrong p n j total le so_far =
    let k : n - j ≡ 0 = omega arith in
    let one : list_any p (range_with_len j (n - j)) ≡ false = rw k refl in
    sym so_far ∙ one

pub ruleset interval_laws = (wrong_more, wrong_here, none_wrong)

-- the first bad one of n rows, from the row i on
pub row_more : {F : Type 0} (bad : ℕ → Bool) (fault : ℕ → F) (n i : ℕ) (total : Option F) → i < n → bad i ≡ false
    → first_fault (each_row bad fault i (n - i)) ≡ total → first_fault (each_row bad fault (i + 1) (n - (i + 1))) ≡ total
row_more bad fault n i total lt is so_far =
    let k : n - i ≡ suc (n - (i + 1)) = omega arith in
    let one : first_fault (each_row bad fault i (n - i)) ≡ first_fault (each_row bad fault (i + 1) (n - (i + 1))) = rw (k, is) refl in
    sym one ∙ so_far

pub row_here : {F : Type 0} (bad : ℕ → Bool) (fault : ℕ → F) (n i : ℕ) (total : Option F) → i < n → bad i ≡ true
    → first_fault (each_row bad fault i (n - i)) ≡ total → total ≡ Some (fault i)
row_here bad fault n i total lt is so_far =
    let k : n - i ≡ suc (n - (i + 1)) = omega arith in
    let one : first_fault (each_row bad fault i (n - i)) ≡ Some (fault i) = rw (k, is) refl in
    sym so_far ∙ one

pub rows_done : {F : Type 0} (bad : ℕ → Bool) (fault : ℕ → F) (n i : ℕ) (total : Option F) → n ≤ i
    → first_fault (each_row bad fault i (n - i)) ≡ total → total ≡ None
rows_done {F = F} bad fault n i total le so_far =
    let k : n - i ≡ 0 = omega arith in
    let one : first_fault (each_row bad fault i (n - i)) ≡ None = rw k refl in
    sym so_far ∙ one

pub ruleset row_laws = (row_more, row_here, rows_done)
