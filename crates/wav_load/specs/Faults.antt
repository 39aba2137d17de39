-- The tests of a WAV file in their order, and the sound that passes them.
use Rattle.std.specs.Prelude.{ℕ, ◌≡◌, ◌+◌, ◌*◌, ◌/◌, ◌^◌, ◌≤◌, ◌⊎◌, not, ◌||◌, nat_lt, ◌==◌, if◌then◌else◌, List}
use Rattle.std.specs.Prelude.{[], ◌∷◌, Bool, Option, Some, None, IfSome, is_none, unwrap_or, Result}
use Rattle.base_fields.specs.Faults.{first_fault, unless}
use Rattle.wav_load.specs.declared.parts.Coding.{Coding}
use Rattle.wav_load.specs.declared.parts.Stretch.{Stretch}
use Rattle.wav_load.specs.declared.parts.Parts.{Parts}
use Rattle.wav_load.specs.declared.ratio.Ratio.TheVariants.{Times}
use Rattle.wav_load.specs.declared.sound.Sound.{Sound}
use Rattle.wav_load.specs.declared.fault.WavFault.{WavFault}
use Rattle.wav_load.specs.declared.fault.WavFault.TheVariants.{NotRiff, NoFmt, NotPcm, NotMono, Width, NoData}
use Rattle.wav_load.specs.declared.fault.WavFault.TheVariants.{BadLoop, TooLong, Rate}
use Rattle.wav_load.specs.Ratios.{ratio_of, IsSmall}

-- what a test speaks of; where it is missing a test before it has failed
abbrev pub coding_in : Parts → Coding
coding_in parts = unwrap_or parts.coding (record { format = 0; channels = 0; rate = 0; bits = 0 })

abbrev pub stretch_in : Parts → Stretch
stretch_in parts = unwrap_or parts.stretch (record { from = 0; length = 0 })

abbrev pub width_in : Parts → ℕ
width_in parts = (coding_in parts).bits / 8

-- the samples that the file holds
abbrev pub held_in : Parts → ℕ
held_in parts = (stretch_in parts).length / width_in parts

-- the samples up to the end of the loop, where its start and its mark are told, else 0
abbrev pub loop_end : Option ℕ → Option ℕ → ℕ
loop_end None mark = 0
loop_end (Some start) None = 0
loop_end (Some start) (Some mark) = start + mark

-- the samples that are played: those, or all
abbrev pub played_in : Parts → ℕ
played_in parts = if loop_end parts.loop_start parts.mark == 0 then held_in parts else loop_end parts.loop_start parts.mark

-- the tests, each with its fault
abbrev pub tests : Parts → ℕ → List (Bool × WavFault)
tests parts speed =
    (not parts.riff, NotRiff)
    ∷ (is_none parts.coding, NoFmt)
    ∷ (not ((coding_in parts).format == 1), NotPcm)
    ∷ (not ((coding_in parts).channels == 1), NotMono)
    ∷ (not ((coding_in parts).bits == 8 || (coding_in parts).bits == 16), Width)
    ∷ (is_none parts.stretch, NoData)
    ∷ (nat_lt (held_in parts) (played_in parts) || nat_lt (played_in parts) (unwrap_or parts.loop_start 0), BadLoop)
    ∷ (nat_lt (2 ^ 22) (played_in parts), TooLong)
    ∷ (is_none (ratio_of (coding_in parts).rate speed), Rate (coding_in parts).rate)
    ∷ []

abbrev pub passing_sound : Parts → ℕ → Sound
passing_sound parts speed = record {
  from = (stretch_in parts).from;
  played = played_in parts;
  width = width_in parts;
  ratio = unwrap_or (ratio_of (coding_in parts).rate speed) (Times 1);
  loop_start = parts.loop_start;
}

-- the sound, or the first fault
unfoldable pub sound_in : Parts → ℕ → Result Sound WavFault
sound_in parts speed = unless (first_fault (tests parts speed)) (passing_sound parts speed)

-- the samples that are played stand among the first n bytes
pub record IsInside (n : ℕ) (sound : Sound) : Type 0 where
  pub width : (sound.width ≡ 1) ⊎ (sound.width ≡ 2)
  pub few : sound.played ≤ 2 ^ 22
  pub ends : sound.from + sound.width * sound.played ≤ n
  pub ratio : IsSmall sound.ratio
  pub loop_start : IfSome sound.loop_start (λ start. start ≤ sound.played)
