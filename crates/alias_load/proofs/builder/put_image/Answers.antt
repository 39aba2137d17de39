use Rattle.std.proofs.Common.{length}
use Rattle.alias_load.proofs.ImageLaws.{room_of, image_made}
use Rattle.alias_load.proofs.builder.put_image.Goals as goal

pub put_parts-requires-clause-len : goal.put_parts-requires-clause-len
put_parts-requires-clause-len c = room_of c.args.source.now c.in-Ok.file (length c.args.block.now) c.in-Ok.ensures.is c.requires.image

pub returns : goal.returns
returns c = image_made c.args.source.now c.in-Ok.file c.put_parts.new.block c.in-Ok.ensures.is c.put_parts.ensures
