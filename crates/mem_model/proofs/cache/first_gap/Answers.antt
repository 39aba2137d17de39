use Rattle.std.proofs.Common.{arith}
use Rattle.mem_model.proofs.Searches.{searched_bounds, searched_place, searched_here}
use Rattle.mem_model.proofs.cache.first_gap.Goals as goal

pub overflow_add-place : goal.overflow_add-place
overflow_add-place c = omega (arith, searched_place c.loop-at.invariant, c.requires.small)

pub returns-then-place-size : goal.returns-then-place-size
returns-then-place-size c = searched_here c.index-cells-at.result c.loop-at.invariant (omega arith) c.index-cells-at.is (omega (arith, c.if-place-size.true, c.place.ensures))

pub end-place-requires : goal.end-place-requires
end-place-requires c = omega (arith, (searched_bounds c.index-cells-at.result c.loop-at.invariant (omega arith) c.index-cells-at.is).1, c.requires.small)
