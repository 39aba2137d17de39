use Rattle.std.proofs.Common.{◌≡◌, ◌+◌, ◌-◌, ◌*◌, ◌≤◌, length}
use Rattle.part_plan.specs.Plan.{run, each, folding}
use Rattle.alias_load.specs.Reading.{series, all_series}
use Rattle.alias_load.specs.Views.{add_count}
use Rattle.alias_load.proofs.reading.count_items.Given as goal

abbrev pub invariant-loop-row : goal.invariant-loop-row
invariant-loop-row l = record {
  same : folding add_count l.items (run (each (series l.kind) (l.count - l.row) l.row) l.rest) ≡ folding add_count 0 (run (all_series l.kind l.count) l.source);
  room : 4 * l.items + length l.rest ≤ length l.source;
}
