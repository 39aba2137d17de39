-- Checks in an order: the first fault counts.
use Rattle.std.specs.Prelude.{ℕ, ◌+◌, Bool, List, [], ◌∷◌, Result, Ok, Err}
use Rattle.base_fields.specs.Faults.{first_fault, unless}
use Rattle.bsp29_tables.specs.declared.fault.BspFault.{BspFault}

-- no fault, or the first
abbrev pub Checked : Type 0
Checked = Result (Unit {0}) BspFault

abbrev pub fine : Checked
fine = Ok tt

-- the fault of the first test that is true
abbrev pub none_of : List (Bool × BspFault) → Checked
none_of tests = unless (first_fault tests) tt

-- the second check, where the first finds nothing
infixr 10 ◌⨾◌
abbrev pub ◌⨾◌ : Checked → Checked → Checked
(Ok nothing) ⨾ next = next
(Err fault) ⨾ next = Err fault

-- the check of each element in order; it is told the number of the element, which is k for the first
unfoldable pub each_from : {A : Type 0} → (ℕ → A → Checked) → ℕ → List A → Checked
each_from check k [] = fine
each_from check k (x ∷ xs) = check k x ⨾ each_from check (k + 1) xs
