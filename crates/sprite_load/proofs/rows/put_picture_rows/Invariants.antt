use Rattle.std.proofs.Common.{◌≡◌, ◌+◌, ◌-◌, ◌*◌, ◌≤◌, length, take}
use Rattle.part_plan.specs.Plan.{run, each, folding}
use Rattle.sprite_load.specs.Parts.{frame, frames}
use Rattle.sprite_load.specs.Rows.{add_pictures, no_texts}
use Rattle.sprite_load.specs.Sizes.{add_frame, no_sizes}
use Rattle.sprite_load.proofs.rows.put_picture_rows.Given as goal

abbrev pub invariant-loop-row : goal.invariant-loop-row
invariant-loop-row l = record {
  sized : folding add_frame l.done (run (each frame (l.count - l.row) l.row) l.rest) ≡ folding add_frame no_sizes (run (frames l.count) l.source);
  same : folding add_pictures (record { at = l.from + l.done.pixels; text = take (24 * l.done.pictures) l.block }) (run (each frame (l.count - l.row) l.row) l.rest) ≡ folding add_pictures (no_texts l.from) (run (frames l.count) l.source);
  room : 16 * l.done.pictures + l.done.pixels + length l.rest ≤ length l.source;
}
