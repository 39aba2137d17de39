-- The image of a sound.
use Rattle.std.specs.Prelude.{ℕ, ◌≡◌, ◌+◌, ◌*◌, ◌%◌, ◌^◌, ◌<◌, ◌==◌, if◌then◌else◌, List, ◌++◌, map, option_map}
use Rattle.std.specs.Prelude.{Result, Ok, Err, IsOkAnd}
use Rattle.std.specs.List.{flat_map, range_with_len}
use Rattle.base_fields.specs.Fields.{field}
use Rattle.wav_load.specs.declared.ratio.Ratio.{Ratio}
use Rattle.wav_load.specs.declared.sound.Sound.{Sound}
use Rattle.wav_load.specs.declared.header.SoundHeader.{SoundHeader}
use Rattle.wav_load.specs.declared.fault.WavFault.{WavFault}
use Rattle.wav_load.specs.Parts.{parts_in}
use Rattle.wav_load.specs.Ratios.{scaled, input_of}
use Rattle.wav_load.specs.Faults.{sound_in}
use Rattle.wav_load.specs.Headers.{header_bytes}

-- less 128, in two's complement
abbrev pub centred : ℕ → ℕ
centred byte = (byte + 128) % 256

-- a sample of these bytes as it is kept: one of 8 bits has its sign then, one of 16 bits has it
abbrev pub kept : ℕ → List ℕ → List ℕ
kept width sample = if width == 1 then map centred sample else sample

-- output sample i, of input samples of this width
abbrev pub output : ℕ → Ratio → List ℕ → ℕ → List ℕ
output width ratio input i = kept width (field width input (width * input_of ratio i))

-- the first n output samples
abbrev pub outputs : ℕ → Ratio → List ℕ → ℕ → List ℕ
outputs width ratio input n = flat_map (output width ratio input) (range_with_len 0 n)

-- the bytes of the samples that are played
abbrev pub input_in : List ℕ → Sound → List ℕ
input_in bytes sound = field (sound.width * sound.played) bytes sound.from

-- how many samples there are at the speed
abbrev pub count_of : Sound → ℕ
count_of sound = scaled sound.ratio sound.played

abbrev pub samples_of : List ℕ → Sound → List ℕ
samples_of bytes sound = outputs sound.width sound.ratio (input_in bytes sound) (count_of sound)

abbrev pub header_of : Sound → ℕ → SoundHeader
header_of sound speed = record {
  length = count_of sound;
  loop_start = option_map (scaled sound.ratio) sound.loop_start;
  speed = speed;
  width = sound.width;
}

abbrev pub image_from : List ℕ → ℕ → Result Sound WavFault → Result (List ℕ) WavFault
image_from bytes speed (Ok sound) = Ok (header_bytes (header_of sound speed) ++ samples_of bytes sound)
image_from bytes speed (Err fault) = Err fault

-- the image that these bytes have at this speed, or their first fault
unfoldable pub image_of : ℕ → List ℕ → Result (List ℕ) WavFault
image_of speed bytes = image_from bytes speed (sound_in (parts_in bytes) speed)

-- Where the image is that of a source, the header is that of the source's sound.
abbrev pub TellsSound : SoundHeader → List ℕ → Type 0
TellsSound header image =
    (speed : ℕ) (source : List ℕ) → speed < 2 ^ 32 → image_of speed source ≡ Ok image
    → IsOkAnd (sound_in (parts_in source) speed) (λ sound. header ≡ header_of sound speed)
