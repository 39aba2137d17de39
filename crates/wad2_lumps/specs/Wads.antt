-- Wads: a header, and a table of rows.
use Rattle.std.specs.Prelude.{ℕ, ◌+◌, ◌*◌, Bool, not, ◌||◌, ◌==◌, nat_lt, List, [], ◌∷◌, length, map, codes}
use Rattle.std.specs.Prelude.{Result, IsOk}
use Rattle.std.specs.List.{starts_with, range_with_len}
use Rattle.base_fields.specs.Faults.{first_fault, unless}
use Rattle.base_fields.specs.Fields.{field, u32_in}
use Rattle.wad2_lumps.specs.declared.fault.WadFault.{WadFault}
use Rattle.wad2_lumps.specs.declared.fault.WadFault.TheVariants.{NotWad, TableOutside}
use Rattle.wad2_lumps.specs.Names.{cleaned}

-- how many rows the table has, and where it begins
abbrev pub count_in : List ℕ → ℕ
count_in bytes = u32_in bytes 4

abbrev pub table_in : List ℕ → ℕ
table_in bytes = u32_in bytes 8

-- the tests, each with its fault
abbrev pub tests : List ℕ → List (Bool × WadFault)
tests bytes =
    (nat_lt (length bytes) 12 || not (starts_with ◌==◌ bytes (codes "WAD2")), NotWad)
    ∷ (nat_lt (length bytes) (table_in bytes + 32 * count_in bytes), TableOutside)
    ∷ []

-- the number of lumps, or the first fault
unfoldable pub wad_in : List ℕ → Result ℕ WadFault
wad_in bytes = unless (first_fault (tests bytes)) (count_in bytes)

-- the bytes are a wad
abbrev pub IsWad : List ℕ → Type 0
IsWad bytes = IsOk (wad_in bytes)

-- row i of the table, 32 bytes
abbrev pub row_in : List ℕ → ℕ → List ℕ
row_in bytes i = field 32 bytes (table_in bytes + 32 * i)

-- all of them
abbrev pub rows_in : List ℕ → List (List ℕ)
rows_in bytes = map (row_in bytes) (range_with_len 0 (count_in bytes))

-- the name of a row
abbrev pub name_in : List ℕ → List ℕ
name_in entry = cleaned (field 16 entry 16)
