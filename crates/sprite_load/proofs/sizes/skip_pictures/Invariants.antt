use Rattle.std.proofs.Common.{◌≡◌, ◌+◌, ◌-◌, ◌*◌, ◌≤◌, length}
use Rattle.part_plan.specs.Plan.{run, each, folding}
use Rattle.sprite_load.specs.Parts.{picture_in, pictures}
use Rattle.sprite_load.specs.Sizes.{add_pixels}
use Rattle.sprite_load.proofs.sizes.skip_pictures.Given as goal

abbrev pub invariant-loop : goal.invariant-loop
invariant-loop l = record {
  same : folding add_pixels l.pixels (run (each (picture_in l.row) (l.count - l.counter) l.counter) l.rest) ≡ folding add_pixels 0 (run (pictures l.count l.row) l.source);
  room : 16 * l.counter + l.pixels + length l.rest ≤ length l.source;
}
