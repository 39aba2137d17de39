use Rattle.sprite_load.proofs.HeaderLaws.{header_tells}
use Rattle.sprite_load.proofs.header.sprite_header.Goals as goal

pub returns-clause-sprite : goal.returns-clause-sprite
returns-clause-sprite c = header_tells _ c.args.image.now (cc)
