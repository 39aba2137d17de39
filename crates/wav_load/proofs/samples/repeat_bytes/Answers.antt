use Rattle.std.proofs.Common.{◌∙◌, arith}
use Rattle.wav_load.proofs.SampleLaws.{bytes_repeated}
use Rattle.wav_load.proofs.samples.repeat_bytes.Goals as goal

pub loop-i-preserved : goal.loop-i-preserved
loop-i-preserved c =
    bytes_repeated c.args.power c.loop-i.i c.centred.result _ _ c.loop-i.block c.args.input.now c.fill.new.self
    (c.loop-i.auto.block ∙ c.requires.sized) c.loop-i-test.true (omega arith) (omega arith) c.centred.ensures
    (c.fill.ensures.after (λ y is. is)) c.loop-i.invariant
