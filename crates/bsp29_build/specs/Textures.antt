-- The textures in an image: a row for each, and then the pixels of those that are there.
use Rattle.std.specs.Prelude.{ℕ, ◌≡◌, ◌+◌, ◌-◌, ◌*◌, List, [], ◌∷◌, ◌++◌, length, take, drop, replicate, ◌==◌, if◌then◌else◌}
use Rattle.std.specs.Prelude.{Option, None, unwrap_or}
use Rattle.std.specs.List.{flat_map}
use Rattle.base_fields.specs.Fields.{field, u32_bytes}
use Rattle.base_fields.specs.Texts.{until_zero}
use Rattle.bsp29_tables.specs.declared.cycles.Cycle.{Cycle}
use Rattle.bsp29_tables.specs.Checks.{fine}
use Rattle.bsp29_tables.specs.Cycles.{cycle_of}
use Rattle.bsp29_tables.specs.Textures.{texture_count, texture_offsets, missing, pixels_at, table_check, textures_check}

-- no fault is found in the texture lump
abbrev pub IsChecked : List ℕ → Type 0
IsChecked lump = (table_check lump ≡ fine) × (textures_check lump ≡ fine)

-- the name until its first zero byte, and zeros
unfoldable pub padded : List ℕ → List ℕ
padded name = until_zero name ++ replicate (16 - length (until_zero name)) 0

-- what is told of a texture that has no place in an animation
abbrev pub no_cycle : Cycle
no_cycle = record { total = 0; least = 0; greatest = 0; next = None; alternate = None }

-- the number of a texture, or none
abbrev pub number_or_none : Option ℕ → List ℕ
number_or_none number = u32_bytes (unwrap_or number missing)

-- the five numbers of an animation: a total, a least and a greatest time, and two textures
unfoldable pub animation_numbers : Cycle → List ℕ
animation_numbers c =
    u32_bytes c.total ++ (u32_bytes c.least ++ (u32_bytes c.greatest
    ++ (number_or_none c.next ++ number_or_none c.alternate)))

-- the row of a texture, of whose bytes the first 40 are told, with the place of its pixels in the image
unfoldable pub present_row : (pixels : ℕ) → Cycle → (texture : List ℕ) → List ℕ
present_row pixels cycle texture =
    u32_bytes 1 ++ (padded (take 16 texture) ++ (drop 16 texture ++ (animation_numbers cycle ++ u32_bytes pixels)))

-- the same of the texture that begins there, or zeros where it is missing
unfoldable pub texture_row : (lump : List ℕ) → (pixels : ℕ) → Cycle → (at : ℕ) → List ℕ
texture_row lump pixels cycle at =
    if at == missing then replicate 68 0 else present_row pixels cycle (field 40 lump at)

-- The rows of the textures from this number on, which begin there in the lump. The pixels of each stand behind those of the
-- one before.
unfoldable pub texture_rows : (lump : List ℕ) → (pixels texture : ℕ) → (offsets : List ℕ) → List ℕ
texture_rows lump pixels texture [] = []
texture_rows lump pixels texture (at ∷ offsets) =
    texture_row lump pixels (unwrap_or (cycle_of lump texture) no_cycle) at
    ++ texture_rows lump (pixels + pixels_at lump at) (texture + 1) offsets

unfoldable pub pixels_of : (lump : List ℕ) → (at : ℕ) → List ℕ
pixels_of lump at = if at == missing then [] else field (pixels_at lump at) lump (at + 40)

abbrev pub all_pixels_of : List ℕ → List ℕ
all_pixels_of lump = flat_map (pixels_of lump) (texture_offsets lump)

-- the section that begins there in the image
unfoldable pub texture_section : (lump : List ℕ) → (start : ℕ) → List ℕ
texture_section lump start =
    texture_rows lump (start + 68 * texture_count lump) 0 (texture_offsets lump) ++ all_pixels_of lump
