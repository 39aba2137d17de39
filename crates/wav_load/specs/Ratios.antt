-- The ratios of a rate to a speed: the powers of two from 1/256 to 256.
use Rattle.std.specs.Prelude.{ℕ, ◌*◌, ◌/◌, ◌<◌, ◌≤◌, ◌==◌, if◌then◌else◌, List, [], ◌∷◌, Option, Some, None, option_map}
use Rattle.std.specs.List.{find}
use Rattle.wav_load.specs.declared.ratio.Ratio.{Ratio}
use Rattle.wav_load.specs.declared.ratio.Ratio.TheVariants.{Times, Part}

unfoldable pub powers : List ℕ
powers = 1 ∷ 2 ∷ 4 ∷ 8 ∷ 16 ∷ 32 ∷ 64 ∷ 128 ∷ 256 ∷ []

-- one of the two, the first before the second
abbrev pub times_or_part : Option ℕ → Option ℕ → Option Ratio
times_or_part (Some power) other = Some (Times power)
times_or_part None other = option_map Part other

-- The rate is a power of two times the speed, or the speed is one times the rate. No speed has the rate 0.
unfoldable pub ratio_of : ℕ → ℕ → Option Ratio
ratio_of rate speed =
    if rate == 0 then None
    else times_or_part (find (λ power. speed * power == rate) powers) (find (λ power. rate * power == speed) powers)

-- so many samples of the rate, brought to the speed and rounded down
abbrev pub scaled : Ratio → ℕ → ℕ
scaled (Times power) count = count / power
scaled (Part power) count = count * power

-- the sample of the rate that sample i of the speed is
abbrev pub input_of : Ratio → ℕ → ℕ
input_of (Times power) i = i * power
input_of (Part power) i = i / power

abbrev pub power_of : Ratio → ℕ
power_of (Times power) = power
power_of (Part power) = power

-- the power is from 1 to 256
pub record IsSmall (ratio : Ratio) : Type 0 where
  pub least : 0 < power_of ratio
  pub most : power_of ratio ≤ 256
