-- The rows that name rows of other lumps: what they name has to be there.
use Rattle.std.specs.Prelude.{ℕ, suc, ◌+◌, Bool, true, false, not, ◌&&◌, ◌||◌, nat_lt, nat_le, ◌==◌}
use Rattle.std.specs.Prelude.{ℤ, pos, negsuc, List, [], ◌∷◌, Option, Some, None}
use Rattle.base_fields.specs.Fields.{u16_in, i16_in, u32_in, i32_in}
use Rattle.bsp29_tables.specs.declared.fault.BspFault.{BspFault}
use Rattle.bsp29_tables.specs.declared.fault.BspFault.TheVariants.{BadRow}
use Rattle.bsp29_tables.specs.declared.lumps.Lump.{Lump}
use Rattle.bsp29_tables.specs.declared.lumps.Lump.TheVariants.{Planes, Textures, Vertexes, Nodes, Texinfos, Faces}
use Rattle.bsp29_tables.specs.declared.lumps.Lump.TheVariants.{Clipnodes, Leafs, Marksurfaces, Edges, Surfedges}
use Rattle.bsp29_tables.specs.declared.lumps.Lump.TheVariants.{Models}
use Rattle.bsp29_tables.specs.declared.rows.Counts.{Counts}
use Rattle.bsp29_tables.specs.Checks.{Checked, none_of, each_from}
use Rattle.bsp29_tables.specs.Lumps.{number_of, lump_of, rows_of, count_of}
use Rattle.bsp29_tables.specs.Textures.{told_count}

-- how many rows there are that others name
unfoldable pub counts_of : List ℕ → Counts
counts_of bytes = record {
  planes = count_of bytes Planes;
  textures = told_count (lump_of bytes Textures);
  vertexes = count_of bytes Vertexes;
  nodes = count_of bytes Nodes;
  texinfos = count_of bytes Texinfos;
  faces = count_of bytes Faces;
  clipnodes = count_of bytes Clipnodes;
  leafs = count_of bytes Leafs;
  marksurfaces = count_of bytes Marksurfaces;
  edges = count_of bytes Edges;
  surfedges = count_of bytes Surfedges;
}

-- ---- the tests of a row

-- the child of a node is a node, or below 0 the leaf -1 - c
abbrev pub is_child : Counts → ℤ → Bool
is_child counts (pos c) = nat_lt c counts.nodes
is_child counts (negsuc c) = nat_lt c counts.leafs

abbrev pub node_passes : Counts → List ℕ → Bool
node_passes counts fields =
    nat_lt (u32_in fields 0) counts.planes
    && is_child counts (i16_in fields 4)
    && is_child counts (i16_in fields 6)
    && nat_le (u16_in fields 20 + u16_in fields 22) counts.faces

-- where there is no texture lump, each texture passes
abbrev pub names_texture : Option ℕ → ℕ → Bool
names_texture None texture = true
names_texture (Some textures) texture = nat_lt texture textures

abbrev pub texinfo_passes : Counts → List ℕ → Bool
texinfo_passes counts fields = names_texture counts.textures (u32_in fields 32)

abbrev pub face_passes : Counts → List ℕ → Bool
face_passes counts fields =
    nat_lt (u16_in fields 0) counts.planes
    && nat_le (u32_in fields 4 + u16_in fields 8) counts.surfedges
    && nat_lt (u16_in fields 10) counts.texinfos

-- the child of a clipnode is a clipnode, or below 0 it tells contents
abbrev pub is_clip_child : Counts → ℤ → Bool
is_clip_child counts (pos c) = nat_lt c counts.clipnodes
is_clip_child counts (negsuc c) = true

abbrev pub clipnode_passes : Counts → List ℕ → Bool
clipnode_passes counts fields =
    nat_lt (u32_in fields 0) counts.planes
    && is_clip_child counts (i16_in fields 4)
    && is_clip_child counts (i16_in fields 6)

-- a number from -32768 to -1
abbrev pub is_contents : ℤ → Bool
is_contents (pos c) = false
is_contents (negsuc c) = nat_lt c 32768

abbrev pub leaf_passes : Counts → List ℕ → Bool
leaf_passes counts fields =
    is_contents (i32_in fields 0) && nat_le (u16_in fields 20 + u16_in fields 22) counts.marksurfaces

abbrev pub marksurface_passes : Counts → List ℕ → Bool
marksurface_passes counts fields = nat_lt (u16_in fields 0) counts.faces

abbrev pub edge_passes : Counts → List ℕ → Bool
edge_passes counts fields = nat_lt (u16_in fields 0) counts.vertexes && nat_lt (u16_in fields 2) counts.vertexes

-- the number of an edge, below 0 of one that is walked backwards
abbrev pub is_surfedge : Counts → ℤ → Bool
is_surfedge counts (pos e) = nat_lt e counts.edges
is_surfedge counts (negsuc e) = nat_lt (suc e) counts.edges

-- the leafs that are seen are told by model 0
abbrev pub model_passes : Counts → ℕ → List ℕ → Bool
model_passes counts number fields =
    nat_le (u32_in fields 56 + u32_in fields 60) counts.faces
    && (not (number == 0) || nat_le (u32_in fields 52) counts.leafs)

abbrev pub row_passes : Counts → Lump → ℕ → List ℕ → Bool
row_passes counts Nodes number fields = node_passes counts fields
row_passes counts Texinfos number fields = texinfo_passes counts fields
row_passes counts Faces number fields = face_passes counts fields
row_passes counts Clipnodes number fields = clipnode_passes counts fields
row_passes counts Leafs number fields = leaf_passes counts fields
row_passes counts Marksurfaces number fields = marksurface_passes counts fields
row_passes counts Edges number fields = edge_passes counts fields
row_passes counts Surfedges number fields = is_surfedge counts (i32_in fields 0)
row_passes counts Models number fields = model_passes counts number fields
row_passes counts other number fields = true

-- ---- the checks

abbrev pub row_tests : Counts → Lump → ℕ → List ℕ → List (Bool × BspFault)
row_tests counts lump number fields =
    (not (row_passes counts lump number fields), BadRow (number_of lump) number) ∷ []

abbrev pub row_check : Counts → Lump → ℕ → List ℕ → Checked
row_check counts lump number fields = none_of (row_tests counts lump number fields)

abbrev pub lump_rows_check : List ℕ → Lump → Checked
lump_rows_check bytes lump = each_from (row_check (counts_of bytes) lump) 0 (rows_of bytes lump)

-- the lumps whose rows name others, in their order
abbrev pub naming_lumps : List Lump
naming_lumps =
    Nodes ∷ Texinfos ∷ Faces ∷ Clipnodes ∷ Leafs ∷ Marksurfaces ∷ Edges ∷ Surfedges ∷ Models ∷ []

abbrev pub rows_check : List ℕ → Checked
rows_check bytes = each_from (λ number lump. lump_rows_check bytes lump) 0 naming_lumps
