-- The lumps of a file.
use Rattle.std.specs.Prelude.{ℕ, ◌+◌, ◌*◌, ◌/◌, ◌%◌, Bool, true, false, not, ◌&&◌, nat_lt, ◌==◌}
use Rattle.std.specs.Prelude.{List, [], ◌∷◌, length, map}
use Rattle.std.specs.List.{range_with_len}
use Rattle.base_fields.specs.Fields.{field, u32_in}
use Rattle.bsp29_tables.specs.declared.fault.BspFault.{BspFault}
use Rattle.bsp29_tables.specs.declared.fault.BspFault.TheVariants.{Short, Version, LumpOutside, LumpSize, LumpCount}
use Rattle.bsp29_tables.specs.declared.fault.BspFault.TheVariants.{NoModel}
use Rattle.bsp29_tables.specs.declared.lumps.Lump.{Lump}
use Rattle.bsp29_tables.specs.declared.lumps.Lump.TheVariants.{Entities, Planes, Textures, Vertexes, Visibility}
use Rattle.bsp29_tables.specs.declared.lumps.Lump.TheVariants.{Nodes, Texinfos, Faces, Lighting, Clipnodes}
use Rattle.bsp29_tables.specs.declared.lumps.Lump.TheVariants.{Leafs, Marksurfaces, Edges, Surfedges, Models}
use Rattle.bsp29_tables.specs.Checks.{Checked, none_of, each_from}

-- the number in the header
abbrev pub number_of : Lump → ℕ
number_of Entities = 0
number_of Planes = 1
number_of Textures = 2
number_of Vertexes = 3
number_of Visibility = 4
number_of Nodes = 5
number_of Texinfos = 6
number_of Faces = 7
number_of Lighting = 8
number_of Clipnodes = 9
number_of Leafs = 10
number_of Marksurfaces = 11
number_of Edges = 12
number_of Surfedges = 13
number_of Models = 14

-- the bytes of a row
abbrev pub row_size : Lump → ℕ
row_size Entities = 1
row_size Planes = 20
row_size Textures = 1
row_size Vertexes = 12
row_size Visibility = 1
row_size Nodes = 24
row_size Texinfos = 40
row_size Faces = 20
row_size Lighting = 1
row_size Clipnodes = 8
row_size Leafs = 28
row_size Marksurfaces = 2
row_size Edges = 4
row_size Surfedges = 4
row_size Models = 64

abbrev pub all_lumps : List Lump
all_lumps =
    Entities ∷ Planes ∷ Textures ∷ Vertexes ∷ Visibility ∷ Nodes ∷ Texinfos ∷ Faces ∷ Lighting ∷ Clipnodes ∷ Leafs
    ∷ Marksurfaces ∷ Edges ∷ Surfedges ∷ Models ∷ []

-- where a lump begins and how many bytes it has, as the header says
abbrev pub offset_of : List ℕ → Lump → ℕ
offset_of bytes lump = u32_in bytes (8 * number_of lump + 4)

abbrev pub length_of : List ℕ → Lump → ℕ
length_of bytes lump = u32_in bytes (8 * number_of lump + 8)

-- the bytes of a lump, as far as the file has them
unfoldable pub lump_of : List ℕ → Lump → List ℕ
lump_of bytes lump = field (length_of bytes lump) bytes (offset_of bytes lump)

-- the rows of this size, as far as they are whole
unfoldable pub rows_in : ℕ → List ℕ → List (List ℕ)
rows_in size bytes = map (λ row. field size bytes (row * size)) (range_with_len 0 (length bytes / size))

-- the rows of a lump
abbrev pub rows_of : List ℕ → Lump → List (List ℕ)
rows_of bytes lump = rows_in (row_size lump) (lump_of bytes lump)

abbrev pub count_of : List ℕ → Lump → ℕ
count_of bytes lump = length (rows_of bytes lump)

-- ---- the checks of the header and of the lumps

abbrev pub header_tests : List ℕ → List (Bool × BspFault)
header_tests bytes =
    (nat_lt (length bytes) 124, Short)
    ∷ (not (u32_in bytes 0 == 29), Version (u32_in bytes 0))
    ∷ []

abbrev pub header_check : List ℕ → Checked
header_check bytes = none_of (header_tests bytes)

abbrev pub is_outside : List ℕ → Lump → Bool
is_outside bytes lump =
    not (length_of bytes lump == 0) && nat_lt (length bytes) (offset_of bytes lump + length_of bytes lump)

-- the number of nodes and that of leafs have a limit
abbrev pub is_limited : Lump → Bool
is_limited Nodes = true
is_limited Leafs = true
is_limited other = false

abbrev pub has_too_many : List ℕ → Lump → Bool
has_too_many bytes lump = is_limited lump && nat_lt 32768 (length_of bytes lump / row_size lump)

abbrev pub lump_tests : List ℕ → Lump → List (Bool × BspFault)
lump_tests bytes lump =
    (is_outside bytes lump, LumpOutside (number_of lump))
    ∷ (not (length_of bytes lump % row_size lump == 0), LumpSize (number_of lump))
    ∷ (has_too_many bytes lump, LumpCount (number_of lump))
    ∷ []

unfoldable pub lump_check : List ℕ → Lump → Checked
lump_check bytes lump = none_of (lump_tests bytes lump)

abbrev pub lumps_check : List ℕ → Checked
lumps_check bytes = each_from (λ number lump. lump_check bytes lump) 0 all_lumps

abbrev pub models_tests : List ℕ → List (Bool × BspFault)
models_tests bytes = (count_of bytes Models == 0, NoModel) ∷ []

abbrev pub models_check : List ℕ → Checked
models_check bytes = none_of (models_tests bytes)
