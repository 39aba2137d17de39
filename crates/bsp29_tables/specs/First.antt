-- Which fault is the first.
use Rattle.std.specs.Prelude.{◌≡◌, ℕ, ◌<◌, List, slice_get, Some, Err}
use Rattle.bsp29_tables.specs.declared.fault.BspFault.{BspFault}
use Rattle.bsp29_tables.specs.Checks.{Checked, fine}

-- an element of the list has this fault, and none before it has one
pub record IsFirst {A : Type 0} (check : ℕ → A → Checked) (xs : List A) (fault : BspFault) : Type 0 where
  pub number : ℕ
  pub element : A
  pub stands : slice_get xs number ≡ Some element
  pub fails : check number element ≡ Err fault
  pub before : (n : ℕ) (x : A) → n < number → slice_get xs n ≡ Some x → check n x ≡ fine
