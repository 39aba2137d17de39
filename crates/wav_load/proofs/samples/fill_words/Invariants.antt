use Rattle.std.proofs.Common.{◌≡◌, ◌*◌, [], ◌∷◌, take}
use Rattle.std.specs.List.{repeat}
use Rattle.wav_load.proofs.samples.fill_words.Given as goal

abbrev pub invariant-loop-i : goal.invariant-loop-i
invariant-loop-i l = take (2 * l.i) l.block ≡ repeat l.i (l.low ∷ l.high ∷ [])
