use Rattle.std.proofs.Common.{arith}
use Rattle.mem_model.proofs.Evicting.{edge_below}
use Rattle.mem_model.proofs.cache.gap_around.Goals as goal

pub overflow_add-place : goal.overflow_add-place
overflow_add-place c = omega (arith, c.end_before-place.ensures, edge_below c.args.cells.now c.args.start c.args.top c.args.at c.requires.between, c.requires.small)
