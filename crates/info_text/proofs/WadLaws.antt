-- The rows of a wad, by their numbers.
use Rattle.std.proofs.Common.{◌≡◌, ℕ, ◌<◌, ◌≤◌, List, Option, Some, None, Ok, inl, inr, ◌∙◌}
use Rattle.std.proofs.lemmas.Bool.{cases_lt}
use Rattle.base_fields.specs.Faults.{first_fault, unless}
use Rattle.wad2_lumps.specs.declared.fault.WadFault.{WadFault}
use Rattle.wad2_lumps.specs.declared.rows.LumpRow.{LumpRow}
use Rattle.wad2_lumps.specs.Wads.{count_in, row_in, tests, wad_in}
use Rattle.wad2_lumps.specs.Lumps.{row_told, lump_row_in}
use Rattle.wad2_lumps.proofs.LumpLaws.{row_there, row_past}

module _ (bytes : List ℕ) (i : ℕ) where
  -- a row that is there is one of the table
  pub row_is : {row : LumpRow} → Some row ≡ lump_row_in bytes i
      → (i < count_in bytes) × (row ≡ row_told (row_in bytes i))
  row_is {row} is = elim (cases_lt i (count_in bytes)) [
    | inl lt ↦ (lt, let both : Some row ≡ Some (row_told (row_in bytes i)) = is ∙ row_there bytes i lt in cc)
    | inr le ↦ absurd (let both : Some row ≡ None = is ∙ row_past bytes i le in cc)
  ]

  -- where none is, the table has ended
  pub none_is : None ≡ lump_row_in bytes i → count_in bytes ≤ i
  none_is is = elim (cases_lt i (count_in bytes)) [
    | inl lt ↦ absurd (let both : None ≡ Some (row_told (row_in bytes i)) = is ∙ row_there bytes i lt in cc)
    | inr le ↦ le
  ]

count_unless : (fault : Option WadFault) (count number : ℕ) → unless fault count ≡ Ok number → number ≡ count
count_unless None count number is = cc
count_unless (Some fault) count number is = absurd (cc)

-- the number of the lumps of a wad is the one that its header has
pub count_is : (bytes : List ℕ) (count : ℕ) → wad_in bytes ≡ Ok count → count ≡ count_in bytes
unfolding wad_in
count_is bytes count is = count_unless (first_fault (tests bytes)) (count_in bytes) count is
