-- The sections of an image: one for each lump, and hull 0.
use Rattle.std.specs.Prelude.{ℕ, ◌*◌, List, [], ◌∷◌, ◌++◌, map}
use Rattle.bsp29_tables.specs.declared.lumps.Lump.{Lump}
use Rattle.bsp29_tables.specs.declared.lumps.Lump.TheVariants.{Planes, Textures, Nodes, Texinfos, Faces, Leafs}
use Rattle.bsp29_tables.specs.Lumps.{all_lumps, lump_of, rows_of, count_of}
use Rattle.bsp29_tables.specs.Sizes.{section_size}
use Rattle.bsp29_tables.specs.Textures.{texture_count}
use Rattle.bsp29_build.specs.declared.sections.Section.{Section}
use Rattle.bsp29_build.specs.declared.sections.Section.TheVariants.{Of, Hull}
use Rattle.bsp29_build.specs.Rows.{with_words, sign_bits, face_kind}
use Rattle.bsp29_build.specs.Textures.{texture_section}
use Rattle.bsp29_build.specs.Parents.{node_rows, leaf_rows}
use Rattle.bsp29_build.specs.Hulls.{hull_rows}

abbrev pub all_sections : List Section
all_sections = map Of all_lumps ++ Hull ∷ []

-- how many rows a section has: bytes where a row is one, and textures
abbrev pub count_in : (file : List ℕ) → Section → ℕ
count_in file (Of Textures) = texture_count (lump_of file Textures)
count_in file (Of other) = count_of file other
count_in file Hull = count_of file Nodes

-- the section of a lump, which begins there in the image
abbrev pub lump_section : (file : List ℕ) → (start : ℕ) → Lump → List ℕ
lump_section file start Planes = with_words sign_bits (rows_of file Planes)
lump_section file start Textures = texture_section (lump_of file Textures) start
lump_section file start Nodes = node_rows (lump_of file Nodes)
lump_section file start Faces =
    with_words (face_kind (lump_of file Textures) (lump_of file Texinfos)) (rows_of file Faces)
lump_section file start Leafs = leaf_rows (lump_of file Nodes) (lump_of file Leafs)
lump_section file start other = lump_of file other

-- a section, which begins there in the image
unfoldable pub bytes_in : (file : List ℕ) → (start : ℕ) → Section → List ℕ
bytes_in file start (Of lump) = lump_section file start lump
bytes_in file start Hull = hull_rows (lump_of file Nodes) (lump_of file Leafs)

-- how many bytes it has
abbrev pub size_in : (file : List ℕ) → Section → ℕ
size_in file (Of lump) = section_size file lump
size_in file Hull = 8 * count_of file Nodes
