-- Rows that have a word more in the image than in the file: planes and faces.
use Rattle.std.specs.Prelude.{ℕ, ◌+◌, ◌*◌, List, ◌++◌, codes, nat_eq, nat_lt, ◌==◌, slice_get, Option, Some, None, if◌then◌else◌}
use Rattle.std.specs.List.{flat_map, starts_with}
use Rattle.base_fields.specs.Fields.{field, u16_in, u32_in, u32_bytes}
use Rattle.bsp29_tables.specs.Textures.{texture_offsets, missing}
use Rattle.bsp29_build.specs.declared.faces.FaceKind.{FaceKind}
use Rattle.bsp29_build.specs.declared.faces.FaceKind.TheVariants.{Plain, Sky, Turbulent}

-- each row with a word behind it
abbrev pub with_words : (List ℕ → ℕ) → List (List ℕ) → List ℕ
with_words word rows = flat_map (λ fields. fields ++ u32_bytes (word fields)) rows

-- ---- planes

-- 1 where the float is below zero: its highest bit is set, and it isn't the zero that has it
abbrev pub sign_at : List ℕ → ℕ → ℕ
sign_at fields at = if nat_lt 0x8000_0000 (u32_in fields at) then 1 else 0

-- a bit for each part of the normal
unfoldable pub sign_bits : List ℕ → ℕ
sign_bits fields = sign_at fields 0 + 2 * sign_at fields 4 + 4 * sign_at fields 8

-- ---- faces

-- how the image writes a kind
abbrev pub number_of : FaceKind → ℕ
number_of Plain = 0
number_of Sky = 1
number_of Turbulent = 2

abbrev pub kind_named : List ℕ → FaceKind
kind_named name =
    if starts_with nat_eq name (codes "sky") then Sky
    else if starts_with nat_eq name (codes "*") then Turbulent
    else Plain

-- the kind of the faces with this texture, where it is there
abbrev pub kind_at : List ℕ → Option ℕ → FaceKind
kind_at textures None = Plain
kind_at textures (Some at) = if at == missing then Plain else kind_named (field 16 textures at)

unfoldable pub texture_kind : List ℕ → ℕ → FaceKind
texture_kind textures texture = kind_at textures (slice_get (texture_offsets textures) texture)

-- the texture of a face is that of its texinfo
unfoldable pub face_kind : (textures texinfos face : List ℕ) → ℕ
face_kind textures texinfos face =
    number_of (texture_kind textures (u32_in texinfos (40 * u16_in face 10 + 32)))
