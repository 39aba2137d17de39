-- The numbers at the front of an image.
use Rattle.std.specs.Prelude.{ℕ, ◌==◌, if◌then◌else◌, List, ◌++◌, Option, Some, None, unwrap_or}
use Rattle.base_fields.specs.Fields.{u32_in, u32_bytes}
use Rattle.wav_load.specs.declared.header.SoundHeader.{SoundHeader}

-- in the place of the loop's start, where there is no loop
abbrev pub no_loop : ℕ
no_loop = 0xFFFF_FFFF

-- the header as its 20 bytes
abbrev pub header_bytes : SoundHeader → List ℕ
header_bytes header =
    u32_bytes header.length
    ++ (u32_bytes (unwrap_or header.loop_start no_loop)
    ++ (u32_bytes header.speed ++ (u32_bytes header.width ++ u32_bytes 0)))

-- a start as it is read
abbrev pub start_of : ℕ → Option ℕ
start_of word = if word == no_loop then None else Some word

-- the header of an image
abbrev pub header_in : List ℕ → SoundHeader
header_in image = record {
  length = u32_in image 0;
  loop_start = start_of (u32_in image 4);
  speed = u32_in image 8;
  width = u32_in image 12;
}
