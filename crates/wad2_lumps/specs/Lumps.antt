-- What the rows of a wad tell.
use Rattle.std.specs.Prelude.{ℕ, ◌==◌, if◌then◌else◌, List, bytes_eq, slice_get, slice_index}
use Rattle.std.specs.Prelude.{Option, Some, None, option_map}
use Rattle.std.specs.List.{find}
use Rattle.base_fields.specs.Fields.{field, u32_in}
use Rattle.wad2_lumps.specs.declared.answers.Lump.{Lump}
use Rattle.wad2_lumps.specs.declared.answers.Lump.TheVariants.{Found, Absent, Compressed}
use Rattle.wad2_lumps.specs.declared.rows.LumpRow.{LumpRow}
use Rattle.wad2_lumps.specs.Names.{cleaned}
use Rattle.wad2_lumps.specs.Wads.{rows_in, name_in}

-- the lump of a row
abbrev pub lump_told : List ℕ → Lump
lump_told entry =
    if slice_index entry 13 == 0 then Found (u32_in entry 0) (u32_in entry 8) (slice_index entry 12) else Compressed

-- the lump of a row that is looked for
abbrev pub lump_of : Option (List ℕ) → Lump
lump_of None = Absent
lump_of (Some entry) = lump_told entry

-- the first row of this name
abbrev pub row_named : List ℕ → List ℕ → Option (List ℕ)
row_named bytes name = find (λ entry. bytes_eq (name_in entry) (cleaned name)) (rows_in bytes)

-- its lump
unfoldable pub lump_in : List ℕ → List ℕ → Lump
lump_in bytes name = lump_of (row_named bytes name)

-- what a row is
abbrev pub row_told : List ℕ → LumpRow
row_told entry = record {
  name = field 16 entry 16;
  kind = slice_index entry 12;
  size = u32_in entry 8;
  compression = slice_index entry 13;
}

-- row i, where there is one
unfoldable pub lump_row_in : List ℕ → ℕ → Option LumpRow
lump_row_in bytes i = option_map row_told (slice_get (rows_in bytes) i)
