use Rattle.std.proofs.Common.{◌≡◌, ◌+◌, ◌-◌, ◌*◌, ◌≤◌, length}
use Rattle.part_plan.specs.Plan.{run, each, folding}
use Rattle.sprite_load.specs.Parts.{frame, frames}
use Rattle.sprite_load.specs.Sizes.{add_frame, no_sizes}
use Rattle.sprite_load.proofs.sizes.measure_frames.Given as goal

abbrev pub invariant-loop-row : goal.invariant-loop-row
invariant-loop-row l = record {
  same : folding add_frame l.sizes (run (each frame (l.count - l.row) l.row) l.rest) ≡ folding add_frame no_sizes (run (frames l.count) l.source);
  room : 16 * l.sizes.pictures + l.sizes.pixels + length l.rest ≤ length l.source;
}
