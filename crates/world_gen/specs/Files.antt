-- The files of a game, each from the state of the draws before it.
use Rattle.std.specs.Prelude.{ℕ, ◌+◌, ◌*◌, ◌%◌, List, [], ◌∷◌, ◌++◌, replicate, codes}
use Rattle.world_gen.specs.Draws.{stepped, drawn, bytes_drawn, state_after}
use Rattle.world_gen.specs.Numbers.{half, word, words}

-- ---- a sound of one channel, with 8 bits a sample

-- how many samples it has: one draw tells it
abbrev pub samples : (state : ℕ) → ℕ
samples state = 20000 + drawn state % 40000

-- one zero byte behind an odd number of bytes
abbrev pub padding : (count : ℕ) → List ℕ
padding count = replicate (count % 2) 0

-- the format: 1 for plain samples, channels, samples a second, bytes a second, bytes a sample, bits
unfoldable pub format : List ℕ
format = codes "WAVEfmt " ++ word 16
    ++ half 1 ++ half 1 ++ word 11025 ++ word 11025 ++ half 1 ++ half 8

-- what stands before the samples
unfoldable pub sound_header : (count : ℕ) → List ℕ
sound_header count = codes "RIFF" ++ word (36 + (count + count % 2)) ++ format ++ codes "data" ++ word count

-- each sample is a draw
unfoldable pub sound_file : (state : ℕ) → List ℕ
sound_file state =
    sound_header (samples state) ++ bytes_drawn (samples state) (stepped state) ++ padding (samples state)

unfoldable pub behind_sound : (state : ℕ) → ℕ
behind_sound state = state_after (samples state) (stepped state)

-- ---- a sprite of one square picture

-- how wide and how high it is: one draw tells it
abbrev pub side : (state : ℕ) → ℕ
side state = 16 + drawn state % 112

-- version, type, radius, width, height, frames, beam length, synctype; then of the frame, its kind, two words of origin,
-- width and height
unfoldable pub sprite_header : (side : ℕ) → List ℕ
sprite_header side = codes "IDSP" ++ words (1 ∷ 2 ∷ 0 ∷ side ∷ side ∷ 1 ∷ 0 ∷ 0 ∷ 0 ∷ 0 ∷ 0 ∷ side ∷ side ∷ [])

-- each pixel is a draw
unfoldable pub sprite_file : (state : ℕ) → List ℕ
sprite_file state = sprite_header (side state) ++ bytes_drawn (side state * side state) (stepped state)

unfoldable pub behind_sprite : (state : ℕ) → ℕ
behind_sprite state = state_after (side state * side state) (stepped state)

-- ---- the map: version 29, fourteen empty lumps, and as the last the models, one row of zeros behind the header

unfoldable pub map_file : List ℕ
map_file = word 29 ++ replicate (14 * 8) 0 ++ word 124 ++ word 64 ++ replicate 64 0
