use Rattle.std.proofs.Common.{◌+◌}
use Rattle.bsp29_build.specs.Parents.{blank_row}
use Rattle.bsp29_build.proofs.RowEdits.{IsWritten}
use Rattle.bsp29_build.proofs.parents.put_rows.Given as goal

abbrev pub invariant-loop-n : goal.invariant-loop-n
invariant-loop-n l = IsWritten (blank_row l.size l.rows) (l.size + 4) l.out l.n
