-- What a file is in which no fault is found.
use Rattle.std.specs.Prelude.{◌≡◌, ◌≤◌, ◌<◌, ◌⊎◌, ℕ, ◌+◌, ◌*◌, ◌/◌, ◌%◌, ◌^◌, true}
use Rattle.std.specs.Prelude.{List, length, drop, slice_get, slice_index_or, Option, Some, None, is_some}
use Rattle.base_fields.specs.Fields.{u32_in}
use Rattle.bsp29_tables.specs.declared.lumps.Lump.{Lump}
use Rattle.bsp29_tables.specs.declared.lumps.Lump.TheVariants.{Textures, Models}
use Rattle.bsp29_tables.specs.Lumps.{row_size, offset_of, length_of, lump_of, rows_of, count_of, is_limited}
use Rattle.bsp29_tables.specs.Textures.{texture_offsets, HasTexture}
use Rattle.bsp29_tables.specs.Cycles.{name_at, is_animating, frame_of, frames_of}
use Rattle.bsp29_tables.specs.Rows.{counts_of, row_passes}
use Rattle.bsp29_tables.specs.Sizes.{image_size}

-- the lump is empty or lies in the file, it has whole rows, and not too many
pub record IsLump (bytes : List ℕ) (lump : Lump) : Type 0 where
  pub inside : (length_of bytes lump ≡ 0) ⊎ (offset_of bytes lump + length_of bytes lump ≤ length bytes)
  pub whole : length_of bytes lump % row_size lump ≡ 0
  pub few : is_limited lump ≡ true → length_of bytes lump / row_size lump ≤ 32768

-- a count of at most 4096, and as many offsets
pub record HasOffsets (lump : List ℕ) : Type 0 where
  pub count : 4 ≤ length lump
  pub few : u32_in lump 0 ≤ 4096
  pub offsets : 4 * u32_in lump 0 + 4 ≤ length lump

-- with a frame all frames before it are there
abbrev pub IsWhole : List (Option ℕ) → Type 0
IsWhole frames =
    (j k : ℕ) → j < k → is_some (slice_index_or frames k None) ≡ true → is_some (slice_index_or frames j None) ≡ true

-- the digits of a group are whole, and its letters
pub record HasFrames (lump : List ℕ) (rest : List ℕ) : Type 0 where
  pub digits : IsWhole (frames_of lump rest 48)
  pub letters : IsWhole (frames_of lump rest 65)

-- each texture is missing or lies in the lump, its frame is told where it is animating, and no group lacks a frame
pub record HasTextures (lump : List ℕ) : Type 0 where
  pub table : (length lump ≡ 0) ⊎ HasOffsets lump
  pub inside : (n at : ℕ) → slice_get (texture_offsets lump) n ≡ Some at → HasTexture lump at
  pub told : (n at : ℕ) → slice_get (texture_offsets lump) n ≡ Some at → is_animating (name_at lump at) ≡ true
      → is_some (frame_of (name_at lump at)) ≡ true
  pub whole : (n at : ℕ) → slice_get (texture_offsets lump) n ≡ Some at → is_animating (name_at lump at) ≡ true
      → HasFrames lump (drop 2 (name_at lump at))

-- the lumps are there, and what the rows name is
pub record IsSound (bytes : List ℕ) : Type 0 where
  pub long : 124 ≤ length bytes
  pub version : u32_in bytes 0 ≡ 29
  pub lumps : (lump : Lump) → IsLump bytes lump
  pub models : 0 < count_of bytes Models
  pub textures : HasTextures (lump_of bytes Textures)
  pub rows : (lump : Lump) (n : ℕ) (row : List ℕ) → slice_get (rows_of bytes lump) n ≡ Some row
      → row_passes (counts_of bytes) lump n row ≡ true
  pub small : image_size bytes < 2 ^ 31
