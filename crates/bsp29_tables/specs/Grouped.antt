-- An order of textures in which those of a group lie together, and in a group those of a frame.
use Rattle.std.specs.Prelude.{◌≡◌, ◌≤◌, ◌<◌, ◌⊎◌, ℕ, true, List, drop, Option, Some, None, is_some, All, Contains}
use Rattle.std.specs.declared.cmp.Ordering.{Ordering}
use Rattle.std.specs.Ordering.{nat_cmp, ordering_then, is_lt}
use Rattle.std.specs.Cmp.Lexicographic.{slice_cmp}
use Rattle.std.specs.List.Sorted.{IsSortedBy}
use Rattle.bsp29_tables.specs.Checks.{fine}
use Rattle.bsp29_tables.specs.Textures.{texture_count, table_check, textures_check}
use Rattle.bsp29_tables.specs.Cycles.{name_of, frame_of}

-- a digit, or a letter from A to J
abbrev pub IsFrame : ℕ → Type 0
IsFrame frame = ((48 ≤ frame) × (frame < 58)) ⊎ ((65 ≤ frame) × (frame < 75))

-- the frame of a name, or 0
abbrev pub frame_or_zero : Option ℕ → ℕ
frame_or_zero None = 0
frame_or_zero (Some frame) = frame

-- how a name lies to a frame of a group: by the bytes behind the frame, then by the frame
unfoldable pub frame_cmp : (name : List ℕ) → (rest : List ℕ) → (frame : ℕ) → Ordering
frame_cmp name rest frame =
    ordering_then (slice_cmp nat_cmp (drop 2 name) rest) (nat_cmp (frame_or_zero (frame_of name)) frame)

-- how a texture lies to another: by frames of groups, then by their numbers
unfoldable pub texture_cmp : (lump : List ℕ) → (first : ℕ) → (second : ℕ) → Ordering
texture_cmp lump first second =
    let other = name_of lump second in
    ordering_then (frame_cmp (name_of lump first) (drop 2 other) (frame_or_zero (frame_of other))) (nat_cmp first second)

-- the texture is there, and has a frame
pub record IsShown (lump : List ℕ) (texture : ℕ) : Type 0 where
  pub there : texture < texture_count lump
  pub frame : is_some (frame_of (name_of lump texture)) ≡ true

-- all textures that have frames, in the order
pub record IsGrouped (lump : List ℕ) (order : List ℕ) : Type 0 where
  pub shown : All (IsShown lump) order
  pub whole : (texture : ℕ) → IsShown lump texture → Contains order texture
  pub sorted : IsSortedBy (λ first second. is_lt (texture_cmp lump first second)) order

-- what is known of a lump and its order
pub record IsFound (lump : List ℕ) (textures : List ℕ) : Type 0 where
  pub table : table_check lump ≡ fine
  pub inside : textures_check lump ≡ fine
  pub order : IsGrouped lump textures
