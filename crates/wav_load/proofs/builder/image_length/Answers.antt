use Rattle.wav_load.specs.Images.{image_of}
use Rattle.wav_load.proofs.SoundLaws.{image_size-heard}
use Rattle.wav_load.proofs.builder.image_length.Goals as goal

pub returns : goal.returns
unfolding image_of
returns c =
    let sized = image_size-heard c.args.source.now c.args.speed c.in_ok-sound.sound _ c.in_ok-sound.ensures.value
    c.in_ok-sound.ensures.inside in
    rw (c.from.ensures, c.from-2.ensures, c.scale-length.ensures.value) sized
