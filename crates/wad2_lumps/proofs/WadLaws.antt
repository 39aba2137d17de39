-- What the bytes of a wad have.
use Rattle.std.proofs.Common.{◌≡◌, ℕ, ◌+◌, ◌*◌, ◌≤◌, List, length, Option, Some, None, refl, arith}
use Rattle.std.specs.Prelude.{IsOk}
use Rattle.std.proofs.lemmas.Bool.Decides.{nat_tests}
use Rattle.base_fields.specs.Faults.{first_fault, unless}
use Rattle.base_fields.proofs.FaultLaws.{passes}
use Rattle.wad2_lumps.specs.Wads.{count_in, table_in, tests, wad_in, IsWad}

no_fault : {F A : Type 0} (fault : Option F) (value : A) → IsOk (unless fault value) → fault ≡ None
no_fault None value is = refl
no_fault (Some fault) value is = absurd cc

-- a wad has no fault
pub faultless : (bytes : List ℕ) → IsWad bytes → first_fault (tests bytes) ≡ None
unfolding wad_in
faultless bytes is = no_fault (first_fault (tests bytes)) (count_in bytes) is

-- the header and the table stand inside
pub table_inside : (bytes : List ℕ) → IsWad bytes
    → (12 ≤ length bytes) × (table_in bytes + 32 * count_in bytes ≤ length bytes)
table_inside bytes is =
    let passed = passes (tests bytes) (faultless bytes is) in
    (grind (arith, nat_tests, passed.0), grind (arith, nat_tests, passed.1.0))
