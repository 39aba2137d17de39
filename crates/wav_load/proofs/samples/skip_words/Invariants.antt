use Rattle.std.proofs.Common.{◌≡◌, ◌*◌, take}
use Rattle.wav_load.specs.declared.ratio.Ratio.TheVariants.{Times}
use Rattle.wav_load.specs.Images.{outputs}
use Rattle.wav_load.proofs.samples.skip_words.Given as goal

abbrev pub invariant-loop-i : goal.invariant-loop-i
invariant-loop-i l = take (2 * l.i) l.block ≡ outputs 2 (Times l.power) l.input l.i
