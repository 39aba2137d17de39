use Rattle.std.proofs.Common.{◌≡◌, ◌+◌, ◌-◌, ◌*◌, ◌≤◌, length, take, drop}
use Rattle.part_plan.specs.Plan.{run, each, folding}
use Rattle.sprite_load.specs.Parts.{picture_in, pictures}
use Rattle.sprite_load.specs.Rows.{add_picture, no_places}
use Rattle.sprite_load.proofs.rows.put_pictures.Given as goal

abbrev pub invariant-loop-i : goal.invariant-loop-i
invariant-loop-i l = record {
  same : folding add_picture (record { intervals = drop (4 * l.i) l.intervals; at = l.pixels_at; text = take (24 * l.i) l.block }) (run (each (picture_in l.row) (l.count - l.i) l.i) l.rest) ≡ folding add_picture (no_places l.intervals l.from) (run (pictures l.count l.row) l.source);
  room : l.pixels_at + length l.rest ≤ l.from + length l.source;
}
