use Rattle.std.proofs.Common.{arith}
use Rattle.bsp29_build.proofs.SectionLaws.{header_there}
use Rattle.bsp29_build.proofs.images.put_image.Goals as goal

pub split_at_mut-version-requires : goal.split_at_mut-version-requires
split_at_mut-version-requires c = omega (arith, header_there c.args.src.now, c.requires.room)

pub split_at_mut-pairs-requires : goal.split_at_mut-pairs-requires
split_at_mut-pairs-requires c =
    omega (arith, header_there c.args.src.now, c.requires.room, c.split_at_mut-version.ensures.back_len)
