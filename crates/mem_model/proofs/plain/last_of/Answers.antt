use Rattle.mem_model.proofs.Newest.{is_last}
use Rattle.mem_model.proofs.plain.last_of.Goals as goal

pub returns : goal.returns
returns c = is_last c.args.cells.now c.requires
