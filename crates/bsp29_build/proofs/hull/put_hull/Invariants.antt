use Rattle.bsp29_build.proofs.RowEdits.{IsWritten}
use Rattle.bsp29_build.proofs.HullLaws.{clipnode_at}
use Rattle.bsp29_build.proofs.hull.put_hull.Given as goal

abbrev pub invariant-loop-n : goal.invariant-loop-n
invariant-loop-n l = IsWritten (clipnode_at l.leafs l.nodes) 8 l.out l.n
