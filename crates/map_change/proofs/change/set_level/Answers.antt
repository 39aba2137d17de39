use Rattle.map_change.proofs.Marking.{mark_at_end}
use Rattle.map_change.proofs.change.set_level.Goals as goal

pub returns-clause-level : goal.returns-clause-level
returns-clause-level g c = rw c.low_mark.ensures.mark (mark_at_end _ c.low_mark.ensures.laid.low)
