-- Packs: a header, and a directory of rows.
use Rattle.std.specs.Prelude.{ℕ, ◌+◌, ◌*◌, ◌/◌, not, ◌||◌, nat_eq, nat_lt, if◌then◌else◌, List, [], ◌∷◌, length, take}
use Rattle.std.specs.Prelude.{map, filter, slice_range, Option, Some, None, Result, Ok, Err, bytes_eq, codes}
use Rattle.std.specs.List.{starts_with}
use Rattle.std.specs.Simd.{first_chunks}
use Rattle.base_fields.specs.Fields.{u32_in}
use Rattle.base_fields.specs.Texts.{until_zero}
use Rattle.pack_files.specs.declared.entries.Entry.{Entry}
use Rattle.pack_files.specs.declared.names.Name.{Name}
use Rattle.pack_files.specs.declared.faults.PackFault.{PackFault}
use Rattle.pack_files.specs.declared.faults.PackFault.TheVariants.{NotPack, TooMany, DirOutside}

-- a row of a directory
pub record Row : Type 0 where
  pub name : List ℕ
  pub entry : Entry

-- the row in these 64 bytes
abbrev pub row_of : List ℕ → Row
row_of bytes = record {
  name = until_zero (take 56 bytes);
  entry = record { offset = u32_in bytes 56; length = u32_in bytes 60 };
}

-- where the directory stands, and how many rows it has
abbrev pub directory_at : List ℕ → ℕ
directory_at bytes = u32_in bytes 4

abbrev pub count_of : List ℕ → ℕ
count_of bytes = u32_in bytes 8 / 64

-- the bytes of the directory that this header tells
abbrev pub directory_of : List ℕ → List ℕ → List ℕ
directory_of header bytes = slice_range bytes (directory_at header) (directory_at header + 64 * count_of header)

-- the rows of a pack's directory
abbrev pub rows_of : List ℕ → List Row
rows_of bytes = map row_of (first_chunks 64 (count_of bytes) (directory_of bytes bytes))

-- the first row of each name
abbrev pub first_rows : List Row → List Row
first_rows [] = []
first_rows (row ∷ rows) = row ∷ filter (λ other. not (bytes_eq other.name row.name)) (first_rows rows)

-- the entry of the first row of this name
abbrev pub entry_of : List ℕ → List Row → Option Entry
entry_of name [] = None
entry_of name (row ∷ rows) = if bytes_eq name row.name then Some row.entry else entry_of name rows

-- what is kept of a pack: the first row of each name, the count of all rows, and the pack's length
pub record PackTable : Type 0 where
  pub rows : List Row
  pub count : ℕ
  pub whole : ℕ

-- the entries of a map as rows
abbrev pub table_of : List (Name × Entry) → List Row
table_of entries = map (λ e. record { name = e.0.bytes.items; entry = e.1 }) entries

-- the first fault of a pack that begins with these bytes and has so many in all
abbrev pub fault_of : List ℕ → ℕ → Option PackFault
fault_of bytes whole =
    if nat_lt whole 12 || not (starts_with nat_eq bytes (codes "PACK")) then Some NotPack
    else if nat_lt 2048 (count_of bytes) then Some (TooMany (count_of bytes))
    else if nat_lt whole (directory_at bytes + 64 * count_of bytes) then Some DirOutside
    else None

-- the table, unless there is a fault
abbrev pub unless : Option PackFault → PackTable → Result PackTable PackFault
unless None table = Ok table
unless (Some fault) table = Err fault

-- what a pack's bytes are
unfoldable pub pack_of : List ℕ → Result PackTable PackFault
pack_of bytes =
    unless (fault_of bytes (length bytes))
    (record { rows = first_rows (rows_of bytes); count = count_of bytes; whole = length bytes })
