-- How long the files and the rows of the directory are.
use Rattle.std.proofs.Common.{◌≡◌, ℕ, zero, suc, ◌*◌, ◌%◌, ◌<◌, ◌≤◌, ◌++◌, length, refl, ap, length-append, arith}
use Rattle.std.proofs.lemmas.List.{length-replicate}
use Rattle.world_gen.specs.declared.resources.Resource.{Resource}
use Rattle.world_gen.specs.declared.resources.Resource.TheVariants.{Sound, Sprite, Map}
use Rattle.world_gen.specs.Draws.{stepped, bytes_drawn}
use Rattle.world_gen.specs.Files.{format, samples, padding, sound_header, sound_file}
use Rattle.world_gen.specs.Files.{side, sprite_header, sprite_file, map_file}
use Rattle.world_gen.specs.Numbers.{half, word}
use Rattle.world_gen.specs.Packs.{row}
use Rattle.world_gen.specs.Resources.{file_name, file_of}

length-bytes_drawn : (count state : ℕ) → length (bytes_drawn count state) ≡ count
unfolding bytes_drawn
length-bytes_drawn zero state = refl
length-bytes_drawn (suc count) state = ap suc (length-bytes_drawn count (stepped state))

length-sound_header : (count : ℕ) → length (sound_header count) ≡ 44
unfolding sound_header format half word
length-sound_header count = refl

length-sound : (state : ℕ) → length (sound_file state) ≤ 65536
unfolding sound_file
length-sound state =
    let few : samples state < 60000 = omega arith in
    omega (
      arith,
      few,
      length-append (sound_header (samples state) ++ bytes_drawn (samples state) (stepped state)) (padding (samples state)),
      length-append (sound_header (samples state)) (bytes_drawn (samples state) (stepped state)),
      length-sound_header (samples state),
      length-bytes_drawn (samples state) (stepped state),
      length-replicate {A = ℕ} (samples state % 2) 0,
    )

length-sprite_header : (side : ℕ) → length (sprite_header side) ≡ 56
unfolding sprite_header word
length-sprite_header side = refl

square : (n : ℕ) → n < 128 → n * n ≤ 16384
square n below = grind arith

length-sprite : (state : ℕ) → length (sprite_file state) ≤ 65536
unfolding sprite_file
length-sprite state =
    let few : side state < 128 = omega arith in
    omega (
      arith,
      square (side state) few,
      length-append (sprite_header (side state)) (bytes_drawn (side state * side state) (stepped state)),
      length-sprite_header (side state),
      length-bytes_drawn (side state * side state) (stepped state),
    )

length-map : length map_file ≡ 188
unfolding map_file word
length-map = refl

-- no file is long
pub length-file : (resource : Resource) (state : ℕ) → length (file_of resource state) ≤ 65536
length-file (Sound n) state = length-sound state
length-file (Sprite n) state = length-sprite state
length-file (Map n) state = omega (arith, length-map)

-- each row has 64 bytes
pub length-row : (resource : Resource) (at size : ℕ) → length (row (file_name resource) at size) ≡ 64
unfolding row word
length-row (Sound n) at size = refl
length-row (Sprite n) at size = refl
length-row (Map n) at size = refl
