-- Worked examples.
use Rattle.std.proofs.Common.{◌≡◌, ℕ, List, [], ◌∷◌, ◌++◌, Some, None, Ok, Err, codes, replicate, refl}
use Rattle.base_fields.specs.Fields.{u16_in, u32_in, u32_bytes}
use Rattle.wav_load.specs.declared.fault.WavFault.TheVariants.{NoData, BadLoop, Rate}
use Rattle.wav_load.specs.declared.ratio.Ratio.TheVariants.{Times, Part}
use Rattle.wav_load.specs.Chunks.{is_chunk, behind, chunks_within, chunks_from, first_chunk, places_in}
use Rattle.wav_load.specs.Parts.{parts_in}
use Rattle.wav_load.specs.Ratios.{powers, ratio_of}
use Rattle.wav_load.specs.Faults.{sound_in}
use Rattle.wav_load.specs.Headers.{header_in}
use Rattle.wav_load.specs.Images.{image_of}

-- the front of a file, a chunk with so many samples a second of 8 bits, and one of five samples
abbrev front : List ℕ
front = codes "RIFF" ++ (u32_bytes 42 ++ codes "WAVE")

abbrev coding : ℕ → List ℕ
coding rate = codes "fmt " ++ (u32_bytes 16 ++ (1 ∷ 0 ∷ 1 ∷ 0 ∷ u32_bytes rate ++ (u32_bytes rate ++ 1 ∷ 0 ∷ 8 ∷ 0 ∷ [])))

abbrev samples : List ℕ
samples = codes "data" ++ (u32_bytes 5 ++ 128 ∷ 129 ∷ 127 ∷ 0 ∷ 255 ∷ 0 ∷ [])

abbrev five : List ℕ
five = front ++ (coding 22050 ++ samples)

two_chunks : chunks_from five 12 ≡ 12 ∷ 36 ∷ []
unfolding chunks_from chunks_within is_chunk behind u32_in
two_chunks = refl

-- an odd length is rounded up
odd_chunk : chunks_from (replicate 12 0 ++ (codes "junk" ++ (u32_bytes 3 ++ (codes "abc" ++ 0 ∷ samples)))) 12 ≡ 12 ∷ 24 ∷ []
unfolding chunks_from chunks_within is_chunk behind u32_in
odd_chunk = refl

-- two of five samples
halved : image_of 11025 five ≡ Ok
    (2 ∷ 0 ∷ 0 ∷ 0 ∷ 255 ∷ 255 ∷ 255 ∷ 255 ∷ 0x11 ∷ 0x2b ∷ 0 ∷ 0 ∷ 1 ∷ 0 ∷ 0 ∷ 0 ∷ 0 ∷ 0 ∷ 0 ∷ 0 ∷ 0 ∷ 255 ∷ [])
unfolding image_of sound_in parts_in places_in first_chunk chunks_from chunks_within is_chunk behind u16_in u32_in
    ratio_of powers
halved = refl

-- a length of 2 ^ 31
no_data : image_of 11025 (front ++ (coding 22050 ++ (codes "data" ++ u32_bytes 0x8000_0000))) ≡ Err NoData
unfolding image_of sound_in parts_in places_in first_chunk chunks_from chunks_within is_chunk behind u16_in u32_in
    ratio_of powers
no_data = refl

other_rate : image_of 11025 (front ++ (coding 8000 ++ samples)) ≡ Err (Rate 8000)
unfolding image_of sound_in parts_in places_in first_chunk chunks_from chunks_within is_chunk behind u16_in u32_in
    ratio_of powers
other_rate = refl

-- a loop of so many samples from sample 1 on
abbrev looped : ℕ → List ℕ
looped n =
    front
    ++ (coding 22050
    ++ (codes "cue " ++ (u32_bytes 28 ++ (replicate 24 0 ++ u32_bytes 1))
    ++ (codes "LIST" ++ (u32_bytes 24 ++ (replicate 16 0 ++ (u32_bytes n ++ codes "mark"))) ++ samples)))

loop_of_three : image_of 22050 (looped 3) ≡ Ok
    (4 ∷ 0 ∷ 0 ∷ 0 ∷ 1 ∷ 0 ∷ 0 ∷ 0 ∷ 0x22 ∷ 0x56 ∷ 0 ∷ 0 ∷ 1 ∷ 0 ∷ 0 ∷ 0 ∷ 0 ∷ 0 ∷ 0 ∷ 0 ∷ 0 ∷ 1 ∷ 255 ∷ 128 ∷ [])
unfolding image_of sound_in parts_in places_in first_chunk chunks_from chunks_within is_chunk behind u16_in u32_in
    ratio_of powers
loop_of_three = refl

loop_of_five : image_of 22050 (looped 5) ≡ Err BadLoop
unfolding image_of sound_in parts_in places_in first_chunk chunks_from chunks_within is_chunk behind u16_in u32_in
    ratio_of powers
loop_of_five = refl

header_read : header_in (2 ∷ 0 ∷ 0 ∷ 0 ∷ 255 ∷ 255 ∷ 255 ∷ 255 ∷ 0x11 ∷ 0x2b ∷ 0 ∷ 0 ∷ 1 ∷ 0 ∷ 0 ∷ 0 ∷ 0 ∷ 0 ∷ 0 ∷ 0 ∷ [])
    ≡ record { length = 2; loop_start = None; speed = 11025; width = 1 }
unfolding u32_in
header_read = refl

-- the greatest ratios, and beyond
most : ratio_of 2822400 11025 ≡ Some (Times 256)
unfolding ratio_of powers
most = refl

least : ratio_of 100 25600 ≡ Some (Part 256)
unfolding ratio_of powers
least = refl

beyond : ratio_of 512 1 ≡ None
unfolding ratio_of powers
beyond = refl

no_power : ratio_of 300 100 ≡ None
unfolding ratio_of powers
no_power = refl
