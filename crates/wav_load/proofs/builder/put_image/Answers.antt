use Rattle.std.proofs.Common.{◌≡◌, ◌+◌, ◌*◌, length, arith}
use Rattle.wav_load.specs.Images.{image_of, count_of}
use Rattle.wav_load.proofs.SoundLaws.{image_room}
use Rattle.wav_load.proofs.builder.put_image.Goals as goal

pub put_samples-requires-clause-sized : goal.put_samples-requires-clause-sized
unfolding image_of
put_samples-requires-clause-sized c =
    let sound = c.in-Ok.sound in
    let room : length c.args.block.now ≡ 20 + sound.width * count_of sound =
    image_room c.args.source.now c.args.speed sound _ _ c.in-Ok.ensures.value c.in-Ok.ensures.inside c.requires.image in
    omega (arith, room, c.split_at_mut-front.ensures.back_len)
