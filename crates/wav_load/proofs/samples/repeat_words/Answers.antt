use Rattle.std.proofs.Common.{◌∙◌, arith, refl}
use Rattle.wav_load.proofs.SampleLaws.{words_repeated}
use Rattle.wav_load.proofs.samples.repeat_words.Goals as goal

pub loop-i-preserved : goal.loop-i-preserved
loop-i-preserved c =
    words_repeated c.args.power c.loop-i.i _ _ _ _ c.loop-i.block c.args.input.now c.fill_words.new.block
    (c.loop-i.auto.block ∙ c.requires.sized) c.loop-i-test.true (omega arith) (omega arith) refl refl
    c.fill_words.auto.block c.fill_words.ensures c.loop-i.invariant
