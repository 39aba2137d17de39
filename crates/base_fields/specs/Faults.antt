-- Faults in an order: a list of tests, each with the fault of what it finds.
use Rattle.std.specs.Prelude.{Bool, if◌then◌else◌, List, [], ◌∷◌, Option, Some, None, Result, Ok, Err}

-- the fault of the first test that is true
abbrev pub first_fault : {F : Type 0} → List (Bool × F) → Option F
first_fault [] = None
first_fault (test ∷ tests) = if test.0 then Some test.1 else first_fault tests

-- the value, where there is no fault
abbrev pub unless : {F A : Type 0} → Option F → A → Result A F
unless None value = Ok value
unless (Some fault) value = Err fault
