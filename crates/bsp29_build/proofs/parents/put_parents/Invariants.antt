use Rattle.bsp29_build.proofs.ParentLaws.{IsParented}
use Rattle.bsp29_build.proofs.parents.put_parents.Given as goal

abbrev pub invariant-loop-n : goal.invariant-loop-n
invariant-loop-n l = IsParented l.kind l.nodes l.fn.out l.out l.n
