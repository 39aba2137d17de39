use Rattle.std.proofs.Common.{◌≡◌, ◌+◌, ◌-◌, ◌*◌, ◌≤◌, length, take, []}
use Rattle.part_plan.specs.Plan.{run, each, folding}
use Rattle.sprite_load.specs.Parts.{frame, frames}
use Rattle.sprite_load.specs.Rows.{add_texts}
use Rattle.sprite_load.specs.Sizes.{add_frame, no_sizes}
use Rattle.sprite_load.proofs.pixels.put_all_pixels.Given as goal

abbrev pub invariant-loop-row : goal.invariant-loop-row
invariant-loop-row l = record {
  sized : folding add_frame l.done (run (each frame (l.count - l.row) l.row) l.rest) ≡ folding add_frame no_sizes (run (frames l.count) l.source);
  same : folding add_texts (take l.done.pixels l.block) (run (each frame (l.count - l.row) l.row) l.rest) ≡ folding add_texts [] (run (frames l.count) l.source);
  room : 16 * l.done.pictures + l.done.pixels + length l.rest ≤ length l.source;
}
