use Rattle.std.proofs.Common.{◌≡◌, take}
use Rattle.wav_load.specs.declared.ratio.Ratio.TheVariants.{Times}
use Rattle.wav_load.specs.Images.{outputs}
use Rattle.wav_load.proofs.samples.keep_bytes.Given as goal

abbrev pub invariant-loop-i : goal.invariant-loop-i
invariant-loop-i l = take l.i l.block ≡ outputs 1 (Times 1) l.input l.i
