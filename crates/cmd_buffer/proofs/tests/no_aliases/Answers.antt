use Rattle.cmd_buffer.proofs.AliasLaws.{holds_created}
use Rattle.cmd_buffer.proofs.tests.no_aliases.Goals as goal

pub returns : goal.returns
returns g c = holds_created _ _ c.create.ensures
