-- What is read of a WAV file, whatever it is.
use Rattle.std.specs.Prelude.{ℕ, ◌+◌, ◌-◌, min, Bool, ◌&&◌, nat_le, if◌then◌else◌, List, length, codes, Option, Some}
use Rattle.std.specs.Prelude.{None, option_map, option_and_then}
use Rattle.base_fields.specs.Fields.{u16_in, u32_in}
use Rattle.wav_load.specs.declared.parts.Coding.{Coding}
use Rattle.wav_load.specs.declared.parts.Stretch.{Stretch}
use Rattle.wav_load.specs.declared.parts.Parts.{Parts}
use Rattle.wav_load.specs.Chunks.{stands, places_in}

-- the file has the 12 bytes before the chunks
abbrev pub is_riff : List ℕ → Bool
is_riff bytes = nat_le 12 (length bytes) && (stands bytes (codes "RIFF") 0 && stands bytes (codes "WAVE") 8)

-- of the `fmt ` chunk at p: 16 bytes behind its name and its length
abbrev pub coding_at : List ℕ → ℕ → Option Coding
coding_at bytes p = if nat_le (p + 24) (length bytes) then Some (record {
  format = u16_in bytes (p + 8);
  channels = u16_in bytes (p + 10);
  rate = u32_in bytes (p + 12);
  bits = u16_in bytes (p + 22);
}) else None

-- of the `data` chunk at p: the samples, cut at the file's end
abbrev pub stretch_at : List ℕ → ℕ → Stretch
stretch_at bytes p = record { from = p + 8; length = min (u32_in bytes (p + 4)) (length bytes - (p + 8)) }

-- of the `cue ` chunk at p: the sample at which the loop begins
abbrev pub loop_start_at : List ℕ → ℕ → Option ℕ
loop_start_at bytes p = if nat_le (p + 36) (length bytes) then Some (u32_in bytes (p + 32)) else None

-- of the `LIST` chunk at p: how many samples the loop has, where it is a mark that tells them
abbrev pub mark_at : List ℕ → ℕ → Option ℕ
mark_at bytes p =
    if nat_le (p + 32) (length bytes) && stands bytes (codes "mark") (p + 28) then Some (u32_in bytes (p + 24)) else None

unfoldable pub parts_in : List ℕ → Parts
parts_in bytes = record {
  riff = is_riff bytes;
  coding = option_and_then (coding_at bytes) (places_in bytes).fmt;
  stretch = option_map (stretch_at bytes) (places_in bytes).samples;
  loop_start = option_and_then (loop_start_at bytes) (places_in bytes).cue;
  mark = option_and_then (mark_at bytes) (places_in bytes).list;
}
