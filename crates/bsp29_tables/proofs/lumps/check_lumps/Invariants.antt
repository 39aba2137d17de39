use Rattle.bsp29_tables.specs.Lumps.{all_lumps, lump_check}
use Rattle.bsp29_tables.proofs.Checking.{IsPassed}
use Rattle.bsp29_tables.proofs.lumps.check_lumps.Given as goal

abbrev pub invariant-loop-lump : goal.invariant-loop-lump
invariant-loop-lump l = IsPassed (λ number lump. lump_check l.src lump) all_lumps l.lump-index
