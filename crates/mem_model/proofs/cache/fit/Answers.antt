use Rattle.std.proofs.Common.{arith}
use Rattle.mem_model.proofs.CacheBlocks.{between-spans}
use Rattle.mem_model.proofs.Gaps.{filled, gap_crowded}
use Rattle.mem_model.proofs.cache.fit.Goals as goal

pub overflow_add-bottom : goal.overflow_add-bottom
overflow_add-bottom c = omega (arith, between-spans c.args.cells.now c.args.bottom c.args.top c.requires.between, c.requires.small)

pub overflow_add-bottom-2 : goal.overflow_add-bottom-2
overflow_add-bottom-2 c = omega (arith, between-spans c.args.cells.now c.args.bottom c.args.top c.requires.between, filled c.args.cells.now c.args.bottom c.args.top c.requires.between, c.requires.used, c.requires.small)

pub returns-then-bottom-size : goal.returns-then-bottom-size
returns-then-bottom-size c = gap_crowded c.args.cells.now c.args.bottom c.args.size c.args.top c.requires.between (omega (arith, c.if-bottom-size.true, c.requires.used))
