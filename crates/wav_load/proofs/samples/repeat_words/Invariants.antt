use Rattle.std.proofs.Common.{◌≡◌, ◌*◌, take}
use Rattle.wav_load.specs.declared.ratio.Ratio.TheVariants.{Part}
use Rattle.wav_load.specs.Images.{outputs}
use Rattle.wav_load.proofs.samples.repeat_words.Given as goal

abbrev pub invariant-loop-i : goal.invariant-loop-i
invariant-loop-i l = take (2 * (l.i * l.power)) l.block ≡ outputs 2 (Part l.power) l.input (l.i * l.power)
