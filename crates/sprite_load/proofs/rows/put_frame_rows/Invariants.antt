use Rattle.std.proofs.Common.{◌≡◌, ◌+◌, ◌-◌, ◌*◌, ◌≤◌, length, take}
use Rattle.part_plan.specs.Plan.{run, each, folding}
use Rattle.sprite_load.specs.Parts.{frame, frames}
use Rattle.sprite_load.specs.Rows.{add_row, no_rows}
use Rattle.sprite_load.proofs.rows.put_frame_rows.Given as goal

abbrev pub invariant-loop-row : goal.invariant-loop-row
invariant-loop-row l = record {
  same : folding add_row (record { first = l.first; text = take (12 * l.row) l.block }) (run (each frame (l.count - l.row) l.row) l.rest) ≡ folding add_row (no_rows 0) (run (frames l.count) l.source);
  room : 16 * l.first + length l.rest ≤ length l.source;
}
