-- Cycles of textures: those whose names begin with `+` are frames of animations.
use Rattle.std.specs.Prelude.{ℕ, ◌+◌, ◌*◌, ◌-◌, ◌%◌, Bool, false, ◌&&◌, ◌||◌, nat_lt, nat_le, ◌==◌, if◌then◌else◌}
use Rattle.std.specs.Prelude.{List, [], ◌∷◌, take, drop, map, filter, slice_index, slice_index_or, bytes_eq}
use Rattle.std.specs.Prelude.{Option, Some, None, is_some, is_none, Err}
use Rattle.std.specs.List.{range_with_len, last_or}
use Rattle.std.specs.Option.{option_or}
use Rattle.base_fields.specs.Fields.{field}
use Rattle.base_fields.specs.Texts.{until_zero}
use Rattle.bsp29_tables.specs.declared.fault.BspFault.{BspFault}
use Rattle.bsp29_tables.specs.declared.fault.BspFault.TheVariants.{BadAnimation, MissingFrame}
use Rattle.bsp29_tables.specs.declared.cycles.Cycle.{Cycle}
use Rattle.bsp29_tables.specs.Checks.{Checked, fine, none_of, each_from}
use Rattle.bsp29_tables.specs.Textures.{missing, texture_count, texture_offsets}

-- ---- names

-- the name of the texture that begins there; a missing one has none
unfoldable pub name_at : List ℕ → ℕ → List ℕ
name_at lump at = if at == missing then [] else until_zero (field 16 lump at)

-- the name of a texture
abbrev pub name_of : List ℕ → ℕ → List ℕ
name_of lump texture = name_at lump (slice_index_or (texture_offsets lump) texture missing)

-- the name begins with `+`
abbrev pub is_animating : List ℕ → Bool
is_animating name = slice_index name 0 == 43

-- the frame that a byte tells: a digit or a letter from A to J, and small letters are taken as capitals
unfoldable pub frame_told : ℕ → Option ℕ
frame_told byte =
    if (nat_le 48 byte && nat_le byte 57) || (nat_le 65 byte && nat_le byte 74) then Some byte
    else (if nat_le 97 byte && nat_le byte 106 then Some (byte - 32) else None)

-- the frame of an animating texture stands behind the `+`
abbrev pub frame_of : List ℕ → Option ℕ
frame_of name = if is_animating name then frame_told (slice_index name 1) else None

abbrev pub is_frame : ℕ → Option ℕ → Bool
is_frame frame None = false
is_frame frame (Some other) = other == frame

-- ---- groups: the animating textures with the same bytes behind the frame

abbrev pub is_member : (rest : List ℕ) → (name : List ℕ) → Bool
is_member rest name = is_animating name && bytes_eq (drop 2 name) rest

-- the textures of a group in order
unfoldable pub group_of : (lump : List ℕ) → (rest : List ℕ) → List ℕ
group_of lump rest = filter (λ texture. is_member rest (name_of lump texture)) (range_with_len 0 (texture_count lump))

-- the last texture of a group with this frame: it counts
unfoldable pub shown_of : (lump : List ℕ) → (rest : List ℕ) → (frame : ℕ) → Option ℕ
shown_of lump rest frame =
    last_or None (filter (λ texture. is_frame frame (frame_of (name_of lump texture))) (group_of lump rest))

-- the textures that count for the ten frames from the first one on: the digits from 48 on, the letters from 65 on
unfoldable pub frames_of : (lump : List ℕ) → (rest : List ℕ) → (first : ℕ) → List (Option ℕ)
frames_of lump rest first = map (λ place. shown_of lump rest (first + place)) (range_with_len 0 10)

-- how many frames there are up to the greatest
unfoldable pub span : List (Option ℕ) → ℕ
span [] = 0
span (x ∷ xs) = if span xs == 0 then (if is_some x then 1 else 0) else span xs + 1

-- the least frame that is lacking
abbrev pub lacking_from : ℕ → List (Option ℕ) → Option ℕ
lacking_from frame [] = None
lacking_from frame (None ∷ xs) = Some frame
lacking_from frame (Some x ∷ xs) = lacking_from (frame + 1) xs

-- the least frame below the greatest that is lacking
unfoldable pub lacking_below : ℕ → List (Option ℕ) → Option ℕ
lacking_below first frames = lacking_from first (take (span frames) frames)

-- the frame that a group lacks, the digits first
unfoldable pub lacking_of : (lump : List ℕ) → (rest : List ℕ) → Option ℕ
lacking_of lump rest =
    option_or (lacking_below 48 (frames_of lump rest 48)) (lacking_below 65 (frames_of lump rest 65))

-- ---- the place of a texture in its animation

-- the texture counts for this place among its frames; the others are the letters of digits, or the digits of letters
unfoldable pub cycle_in : (texture : ℕ) → (place : ℕ) → (frames : List (Option ℕ)) → (others : List (Option ℕ))
    → Option Cycle
cycle_in texture place frames others =
    if is_frame texture (slice_index_or frames place None) then Some (record {
      total = 2 * span frames;
      least = 2 * place;
      greatest = 2 * place + 2;
      next = slice_index_or frames ((place + 1) % span frames) None;
      alternate = slice_index_or others 0 None;
    }) else None

unfoldable pub cycle_of : (lump : List ℕ) → (texture : ℕ) → Option Cycle
cycle_of lump texture = at_frame (frame_of (name_of lump texture)) where
  at_frame : Option ℕ → Option Cycle
  at_frame None = None
  at_frame (Some frame) =
      let rest = drop 2 (name_of lump texture) in
      let digits = frames_of lump rest 48 in
      let letters = frames_of lump rest 65 in
      if nat_lt frame 58 then cycle_in texture (frame - 48) digits letters else cycle_in texture (frame - 65) letters digits

-- ---- the checks

abbrev pub animation_tests : List ℕ → ℕ → ℕ → List (Bool × BspFault)
animation_tests lump texture at =
    (is_animating (name_at lump at) && is_none (frame_of (name_at lump at)), BadAnimation texture) ∷ []

unfoldable pub animation_check : List ℕ → ℕ → ℕ → Checked
animation_check lump texture at = none_of (animation_tests lump texture at)

abbrev pub animations_check : List ℕ → Checked
animations_check lump = each_from (animation_check lump) 0 (texture_offsets lump)

-- the fault of a frame that is lacking
abbrev pub lacking_fault : ℕ → Option ℕ → Checked
lacking_fault texture None = fine
lacking_fault texture (Some frame) = Err (MissingFrame texture frame)

-- the first texture of a group names what the group lacks
unfoldable pub frame_check : List ℕ → ℕ → ℕ → Checked
frame_check lump texture at =
    if is_animating (name_at lump at) then lacking_fault texture (lacking_of lump (drop 2 (name_at lump at))) else fine

abbrev pub frames_check : List ℕ → Checked
frames_check lump = each_from (frame_check lump) 0 (texture_offsets lump)
