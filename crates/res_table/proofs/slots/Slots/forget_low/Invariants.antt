use Rattle.std.proofs.Common.{◌≡◌}
use Rattle.res_table.proofs.Forgetting.{below_to}
use Rattle.res_table.proofs.slots.Slots.forget_low.Given as goal

-- the rows before the slot are left as they are below the level
abbrev pub invariant-loop-slot : goal.invariant-loop-slot
invariant-loop-slot l = l.self ≡ record l.initial.self { rows = below_to l.level l.slot l.initial.self.rows }
