-- Worked examples of cycles: a texture lump is made from names, and its textures have no pixels.
use Rattle.std.proofs.Common.{◌≡◌, ℕ, ◌+◌, ◌*◌, ◌-◌, List, [], ◌∷◌, ◌++◌, length, replicate, codes, refl}
use Rattle.std.proofs.Common.{Some, None, Err}
use Rattle.std.specs.List.{flat_map}
use Rattle.base_fields.specs.Fields.{u32_in, u32_bytes}
use Rattle.bsp29_tables.specs.declared.fault.BspFault.TheVariants.{BadAnimation, MissingFrame}
use Rattle.bsp29_tables.specs.Checks.{fine, each_from}
use Rattle.bsp29_tables.specs.Textures.{texture_count, texture_offsets}
use Rattle.bsp29_tables.specs.Cycles.{name_at, frame_told, group_of, shown_of, frames_of, span, lacking_below, lacking_of}
use Rattle.bsp29_tables.specs.Cycles.{cycle_in, cycle_of, animation_check, animations_check, frame_check, frames_check}

abbrev texture : List ℕ → List ℕ
texture name = name ++ replicate (40 - length name) 0

abbrev offsets_from : ℕ → List (List ℕ) → List ℕ
offsets_from at [] = []
offsets_from at (name ∷ names) = u32_bytes at ++ offsets_from (at + 40) names

abbrev lump : List (List ℕ) → List ℕ
lump names = u32_bytes (length names) ++ (offsets_from (4 * length names + 4) names ++ flat_map texture names)

-- `+0slip` is texture 4, and `+1slip` texture 7
slip : List ℕ
slip = lump (
    codes "a" ∷ codes "b" ∷ codes "c" ∷ codes "d" ∷ codes "+0slip" ∷ codes "e" ∷ codes "f" ∷ codes "+1slip" ∷ [])

slip_four : cycle_of slip 4 ≡ Some (record { total = 4; least = 0; greatest = 2; next = Some 7; alternate = None })
unfolding slip u32_in texture_count texture_offsets name_at frame_told group_of shown_of frames_of span cycle_in cycle_of
slip_four = refl

slip_seven : cycle_of slip 7 ≡ Some (record { total = 4; least = 2; greatest = 4; next = Some 4; alternate = None })
unfolding slip u32_in texture_count texture_offsets name_at frame_told group_of shown_of frames_of span cycle_in cycle_of
slip_seven = refl

slip_other : cycle_of slip 6 ≡ None
unfolding slip u32_in texture_count texture_offsets name_at frame_told cycle_of
slip_other = refl

slip_whole : frames_check slip ≡ fine
unfolding slip each_from u32_in texture_count texture_offsets name_at frame_told group_of shown_of frames_of span
    lacking_below lacking_of frame_check
slip_whole = refl

-- the letters of a switch are told by the digits; of two frames that are the same the last counts
switch : List ℕ
switch = lump (codes "+aon" ∷ codes "+0on" ∷ codes "+1on" ∷ codes "+0off" ∷ codes "+0on" ∷ codes "+Bon" ∷ [])

switch_digit : cycle_of switch 2
    ≡ Some (record { total = 4; least = 2; greatest = 4; next = Some 4; alternate = Some 0 })
unfolding switch u32_in texture_count texture_offsets name_at frame_told group_of shown_of frames_of span cycle_in
    cycle_of
switch_digit = refl

switch_letter : cycle_of switch 5
    ≡ Some (record { total = 4; least = 2; greatest = 4; next = Some 0; alternate = Some 4 })
unfolding switch u32_in texture_count texture_offsets name_at frame_told group_of shown_of frames_of span cycle_in
    cycle_of
switch_letter = refl

switch_displaced : cycle_of switch 1 ≡ None
unfolding switch u32_in texture_count texture_offsets name_at frame_told group_of shown_of frames_of span cycle_in
    cycle_of
switch_displaced = refl

-- ---- faults

only_one : frames_check (lump (codes "+1x" ∷ [])) ≡ Err (MissingFrame 0 48)
unfolding each_from u32_in texture_count texture_offsets name_at frame_told group_of shown_of frames_of span
    lacking_below lacking_of frame_check
only_one = refl

-- the first texture is told of a group, and the digit before the letter
no_letter : frames_check (lump (codes "+0y" ∷ codes "+cx" ∷ codes "+0x" ∷ codes "+2x" ∷ []))
    ≡ Err (MissingFrame 1 49)
unfolding each_from u32_in texture_count texture_offsets name_at frame_told group_of shown_of frames_of span
    lacking_below lacking_of frame_check
no_letter = refl

no_frame : animations_check (lump (codes "+0x" ∷ codes "+kx" ∷ [])) ≡ Err (BadAnimation 1)
unfolding each_from u32_in texture_count texture_offsets name_at frame_told animation_check
no_frame = refl

nothing_behind : animations_check (lump (codes "x" ∷ codes "+" ∷ [])) ≡ Err (BadAnimation 1)
unfolding each_from u32_in texture_count texture_offsets name_at frame_told animation_check
nothing_behind = refl
