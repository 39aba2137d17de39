use Rattle.std.proofs.Common.{◌≡◌, ◌-◌, ◌*◌, ◌++◌, length, take, drop}
use Rattle.alias_load.specs.Images.{pose_rows}
use Rattle.alias_load.specs.Views.{cut}
use Rattle.alias_load.proofs.section.put_pose_rows.Given as goal

abbrev pub invariant-loop-i : goal.invariant-loop-i
invariant-loop-i l = record {
  text : take (28 * l.i) l.block ++ pose_rows (drop (4 * l.i) l.intervals) (cut l.item (l.number - l.i) l.rest) ≡ pose_rows l.intervals (cut l.item l.number l.items);
  left : length l.rest ≡ l.item * (l.number - l.i);
}
