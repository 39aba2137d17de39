use Rattle.std.proofs.Common.{◌≡◌, ◌-◌}
use Rattle.std.specs.List.{list_any, range_with_len}
use Rattle.part_plan.specs.Checks.{is_wrong, has_wrong}
use Rattle.part_plan.proofs.checks.any_wrong.Given as goal

abbrev pub invariant-loop-i : goal.invariant-loop-i
invariant-loop-i l = list_any (is_wrong l.intervals) (range_with_len l.i (l.count - l.i)) ≡ has_wrong l.count l.intervals
