-- What faults in an order tell.
use Rattle.std.proofs.Common.{◌≡◌, Bool, true, false, List, [], ◌∷◌, Option, Some, None, Ok, refl}
use Rattle.std.specs.List.{AllByRecursion}
use Rattle.base_fields.specs.Faults.{first_fault, unless}

-- where there is no fault, each test is false
pub passes : {F : Type 0} (tests : List (Bool × F)) → first_fault tests ≡ None → AllByRecursion (λ t. t.0 ≡ false) tests
passes [] none = tt
passes ((true, fault) ∷ tests) none = absurd cc
passes ((false, fault) ∷ tests) none = (refl, passes tests none)

-- a value comes where there is no fault, and is that value
pub unless_ok : {F A : Type 0} (fault : Option F) (value x : A) → unless fault value ≡ Ok x → (fault ≡ None) × (value ≡ x)
unless_ok None value x is = (refl, cc)
unless_ok (Some fault) value x is = absurd cc
