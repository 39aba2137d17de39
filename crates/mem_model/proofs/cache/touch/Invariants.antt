use Rattle.mem_model.proofs.Shifts.{IsShifting}
use Rattle.mem_model.proofs.cache.touch.Given as goal

abbrev pub invariant-loop-i : goal.invariant-loop-i
invariant-loop-i l = IsShifting l.recency l.carried l.user l.fn.recency l.i
