use Rattle.base_fields.proofs.NameLaws.{length_from_name, text_from_name}
use Rattle.base_fields.proofs.names.GameName.bytes.Goals as goal

pub returns-clause-sized : goal.returns-clause-sized
returns-clause-sized c = rw c.as_slice.ensures.value (length_from_name _ c.self.invariant)

pub returns-clause-text : goal.returns-clause-text
returns-clause-text c = rw c.as_slice.ensures.value (text_from_name _ c.self.invariant)
