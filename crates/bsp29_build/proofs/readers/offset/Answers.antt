use Rattle.bsp29_build.proofs.ImageLaws.{sections_told}
use Rattle.bsp29_build.proofs.readers.offset.Goals as goal

pub returns-clause-tells : goal.returns-clause-tells
returns-clause-tells c = sections_told c.args.image.now
