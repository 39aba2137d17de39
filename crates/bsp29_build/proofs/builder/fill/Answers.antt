use Rattle.std.proofs.Common.{length}
use Rattle.bsp29_build.proofs.ImageLaws.{room_of}
use Rattle.bsp29_build.proofs.builder.fill.Goals as goal

pub put_image-requires-clause-room : goal.put_image-requires-clause-room
put_image-requires-clause-room c = room_of c.args.source.now (length c.args.block.now) c.requires
