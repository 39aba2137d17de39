-- The texture lump: a count, an offset in the lump for each texture, and the textures.
use Rattle.std.specs.Prelude.{◌≡◌, ◌≤◌, ◌⊎◌, ℕ, ◌+◌, ◌*◌, ◌/◌, ◌%◌, Bool, not, ◌||◌, nat_lt, ◌==◌, if◌then◌else◌}
use Rattle.std.specs.Prelude.{List, [], ◌∷◌, length, map, Option, Some, None}
use Rattle.std.specs.List.{range_with_len, sum_by}
use Rattle.base_fields.specs.Fields.{u32_in}
use Rattle.bsp29_tables.specs.declared.fault.BspFault.{BspFault}
use Rattle.bsp29_tables.specs.declared.fault.BspFault.TheVariants.{TextureTable, TextureOutside, TextureSize}
use Rattle.bsp29_tables.specs.Checks.{Checked, fine, none_of, each_from}

-- how many textures there are
unfoldable pub texture_count : List ℕ → ℕ
texture_count lump = if length lump == 0 then 0 else u32_in lump 0

-- the same, where there is a lump
abbrev pub told_count : List ℕ → Option ℕ
told_count lump = if length lump == 0 then None else Some (texture_count lump)

-- where in the lump the textures begin
unfoldable pub texture_offsets : List ℕ → List ℕ
texture_offsets lump = map (λ texture. u32_in lump (4 * texture + 4)) (range_with_len 0 (texture_count lump))

-- the offset of a texture that is missing
abbrev pub missing : ℕ
missing = 0xffff_ffff

-- ---- a texture: a name of 16 bytes, a width, a height, four numbers that aren't read, and its pixels

abbrev pub width_at : List ℕ → ℕ → ℕ
width_at lump at = u32_in lump (at + 16)

abbrev pub height_at : List ℕ → ℕ → ℕ
height_at lump at = u32_in lump (at + 20)

-- the picture, and the same with sides of a half, a quarter and an eighth: 85 bytes for each 64 pixels
abbrev pub pixel_count : (width height : ℕ) → ℕ
pixel_count width height = width * height / 64 * 85

unfoldable pub pixels_at : List ℕ → ℕ → ℕ
pixels_at lump at = if at == missing then 0 else pixel_count (width_at lump at) (height_at lump at)

-- the pixels of all textures that aren't missing
abbrev pub all_pixels : List ℕ → ℕ
all_pixels lump = sum_by (pixels_at lump) (texture_offsets lump)

-- a width or a height is a multiple of 16, and at most 16384
pub record IsSide (side : ℕ) : Type 0 where
  pub whole : side % 16 ≡ 0
  pub most : side ≤ 16384

-- a texture and its pixels lie in the lump
pub record IsTexture (lump : List ℕ) (at : ℕ) : Type 0 where
  pub room : at + 40 ≤ length lump
  pub width : IsSide (width_at lump at)
  pub height : IsSide (height_at lump at)
  pub inside : at + 40 + pixel_count (width_at lump at) (height_at lump at) ≤ length lump

abbrev pub HasTexture : List ℕ → ℕ → Type 0
HasTexture lump at = (at ≡ missing) ⊎ IsTexture lump at

-- ---- the checks

-- the lump has a count, it isn't above 4096, and the lump has as many offsets
abbrev pub table_tests : List ℕ → List (Bool × BspFault)
table_tests lump =
    (nat_lt (length lump) 4, TextureTable)
    ∷ (nat_lt 4096 (u32_in lump 0), TextureTable)
    ∷ (nat_lt (length lump) (4 * u32_in lump 0 + 4), TextureTable)
    ∷ []

unfoldable pub table_check : List ℕ → Checked
table_check lump = if length lump == 0 then fine else none_of (table_tests lump)

abbrev pub is_bad_side : ℕ → Bool
is_bad_side side = not (side % 16 == 0) || nat_lt 16384 side

abbrev pub texture_tests : List ℕ → ℕ → ℕ → List (Bool × BspFault)
texture_tests lump texture at =
    (nat_lt (length lump) (at + 40), TextureOutside texture)
    ∷ (is_bad_side (width_at lump at) || is_bad_side (height_at lump at), TextureSize texture)
    ∷ (nat_lt (length lump) (at + 40 + pixel_count (width_at lump at) (height_at lump at)), TextureOutside texture)
    ∷ []

unfoldable pub texture_check : List ℕ → ℕ → ℕ → Checked
texture_check lump texture at = if at == missing then fine else none_of (texture_tests lump texture at)

abbrev pub textures_check : List ℕ → Checked
textures_check lump = each_from (texture_check lump) 0 (texture_offsets lump)
