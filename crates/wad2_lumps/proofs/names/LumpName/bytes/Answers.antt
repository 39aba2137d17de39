use Rattle.wad2_lumps.proofs.NameLaws.{text_from_clean}
use Rattle.wad2_lumps.proofs.names.LumpName.bytes.Goals as goal

pub returns-clause-text : goal.returns-clause-text
returns-clause-text c = rw c.as_slice.ensures.value (text_from_clean _ c.self.invariant)
