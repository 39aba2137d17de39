use Rattle.bsp29_tables.specs.Lumps.{rows_in}
use Rattle.bsp29_tables.specs.Rows.{row_check}
use Rattle.bsp29_tables.proofs.Checking.{IsPassed}
use Rattle.bsp29_tables.proofs.rows.check_lump_rows.Given as goal

abbrev pub invariant-loop-row : goal.invariant-loop-row
invariant-loop-row l = IsPassed (row_check l.counts l.lump) (rows_in l.size l.bytes) l.row
