use Rattle.alias_load.proofs.HeaderLaws.{header_tells}
use Rattle.alias_load.proofs.image_header.alias_header.Goals as goal

pub returns-clause-model : goal.returns-clause-model
returns-clause-model c = header_tells _ c.args.image.now (cc)
