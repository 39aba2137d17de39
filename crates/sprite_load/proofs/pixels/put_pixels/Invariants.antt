use Rattle.std.proofs.Common.{◌≡◌, ◌-◌, take, []}
use Rattle.part_plan.specs.Plan.{run, each, folding}
use Rattle.sprite_load.specs.Parts.{picture_in, pictures}
use Rattle.sprite_load.specs.Rows.{add_text}
use Rattle.sprite_load.specs.Sizes.{add_pixels}
use Rattle.sprite_load.proofs.pixels.put_pixels.Given as goal

abbrev pub invariant-loop-i : goal.invariant-loop-i
invariant-loop-i l = record {
  sized : folding add_pixels l.at (run (each (picture_in l.row) (l.count - l._i) l._i) l.rest) ≡ folding add_pixels 0 (run (pictures l.count l.row) l.source);
  same : folding add_text (take l.at l.block) (run (each (picture_in l.row) (l.count - l._i) l._i) l.rest) ≡ folding add_text [] (run (pictures l.count l.row) l.source);
}
