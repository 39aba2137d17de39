-- Parts that are cut out of bytes.
use Rattle.std.proofs.Common.{◌≡◌, ℕ, ◌+◌, ◌-◌, ◌*◌, ◌/◌, ◌<◌, min, List, [], length, get_or, take, drop}
use Rattle.std.proofs.Common.{ap, ◌∙◌, arith}
use Rattle.std.proofs.lemmas.List.{length-drop, take_min, drop_min}
use Rattle.std.proofs.lemmas.List.FromFn.{length-map-range_with_len, get_or-map-range_with_len}
use Rattle.base_fields.specs.Fields.{field, u32_in}
use Rattle.bsp29_tables.specs.Lumps.{rows_in}
use Rattle.bsp29_tables.specs.Textures.{texture_count, texture_offsets}

-- a part that is cut where the bytes end is the field
pub cut_is_field : (bytes : List ℕ) (at n start count : ℕ) → start ≡ min at (length bytes)
    → count ≡ min n (length bytes - start) → take (start + count - start) (drop start bytes) ≡ field n bytes at
cut_is_field bytes at n start count start_is count_is =
    let most : start + count - start ≡ min n (length (drop start bytes)) =
    omega (arith, length-drop {A = ℕ} start bytes) in
    rw (most, take_min n (drop start bytes))
    (ap (λ (l : List ℕ). take n l) (ap (λ k. drop k bytes) start_is ∙ drop_min at bytes))

pub length-rows_in : (size : ℕ) (bytes : List ℕ) → length (rows_in size bytes) ≡ length bytes / size
unfolding rows_in
length-rows_in size bytes = length-map-range_with_len (λ row. field size bytes (row * size)) 0 (length bytes / size)

-- a row, cut out of the bytes
pub get_or-rows_in : (size : ℕ) (bytes : List ℕ) (row : ℕ) → row < length bytes / size
    → get_or (rows_in size bytes) row [] ≡ take (row * size + size - row * size) (drop (row * size) bytes)
unfolding rows_in
get_or-rows_in size bytes row lt =
    let width : row * size + size - row * size ≡ size = omega arith in
    rw width
    (get_or-map-range_with_len (λ r. field size bytes (r * size)) 0 (length bytes / size) row row [] lt (omega arith))

pub length-texture_offsets : (lump : List ℕ) → length (texture_offsets lump) ≡ texture_count lump
unfolding texture_offsets
length-texture_offsets lump = length-map-range_with_len (λ t. u32_in lump (4 * t + 4)) 0 (texture_count lump)

pub get_or-texture_offsets : (lump : List ℕ) (texture : ℕ) → texture < texture_count lump
    → get_or (texture_offsets lump) texture 0 ≡ u32_in lump (4 * texture + 4)
unfolding texture_offsets
get_or-texture_offsets lump texture lt =
    get_or-map-range_with_len (λ t. u32_in lump (4 * t + 4)) 0 (texture_count lump) texture texture 0 lt (omega arith)
