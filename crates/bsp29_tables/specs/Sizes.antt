-- How many bytes the image of a brush model has.
use Rattle.std.specs.Prelude.{ℕ, ◌+◌, ◌*◌, ◌^◌, Bool, nat_le, List, [], ◌∷◌}
use Rattle.std.specs.List.{sum_by}
use Rattle.bsp29_tables.specs.declared.fault.BspFault.{BspFault}
use Rattle.bsp29_tables.specs.declared.fault.BspFault.TheVariants.{TooLarge}
use Rattle.bsp29_tables.specs.declared.lumps.Lump.{Lump}
use Rattle.bsp29_tables.specs.declared.lumps.Lump.TheVariants.{Planes, Textures, Nodes, Faces, Leafs}
use Rattle.bsp29_tables.specs.Checks.{Checked, none_of}
use Rattle.bsp29_tables.specs.Lumps.{row_size, all_lumps, lump_of, count_of}
use Rattle.bsp29_tables.specs.Textures.{texture_count, all_pixels}

-- a row for each texture, and the pixels behind them
abbrev pub textures_size : List ℕ → ℕ
textures_size lump = 68 * texture_count lump + all_pixels lump

-- the bytes of a row in the image
abbrev pub section_row_size : Lump → ℕ
section_row_size Planes = 24
section_row_size Nodes = 28
section_row_size Faces = 24
section_row_size Leafs = 32
section_row_size other = row_size other

-- the bytes of all rows of a lump in the image
unfoldable pub section_size : List ℕ → Lump → ℕ
section_size bytes Textures = textures_size (lump_of bytes Textures)
section_size bytes other = section_row_size other * count_of bytes other

-- a header, the lumps in their order, and hull 0, which has a clipnode for each node
unfoldable pub image_size : List ℕ → ℕ
image_size bytes = 132 + (sum_by (section_size bytes) all_lumps + 8 * count_of bytes Nodes)

abbrev pub size_tests : List ℕ → List (Bool × BspFault)
size_tests bytes = (nat_le (2 ^ 31) (image_size bytes), TooLarge) ∷ []

abbrev pub size_check : List ℕ → Checked
size_check bytes = none_of (size_tests bytes)
