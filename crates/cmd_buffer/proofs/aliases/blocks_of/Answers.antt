use Rattle.cmd_buffer.specs.AliasRecords.{alias_of}
use Rattle.cmd_buffer.proofs.AliasNames.{named_exact}
use Rattle.cmd_buffer.proofs.aliases.blocks_of.Goals as goal

pub returns-in-Some : goal.returns-in-Some
returns-in-Some g c = record { found = named_exact c.args.name.now _ (alias_of c.in-Some.«record») c.in-Some.ensures.found }
