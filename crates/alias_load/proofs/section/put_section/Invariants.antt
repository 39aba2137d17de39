use Rattle.std.proofs.Common.{◌≡◌, ◌+◌, ◌-◌, ◌*◌, ◌≤◌, length, take}
use Rattle.part_plan.specs.Plan.{run, each, folding}
use Rattle.alias_load.specs.Reading.{series, all_series}
use Rattle.alias_load.specs.Sections.{piece_of, add_piece, no_texts}
use Rattle.alias_load.proofs.section.put_section.Given as goal

abbrev pub invariant-loop-row : goal.invariant-loop-row
invariant-loop-row l = record {
  same : folding (add_piece (piece_of l.section)) (record { first = l.first; text = take l.at l.block }) (run (each (series l.kind) (l.count - l.row) l.row) l.rest)
      ≡ folding (add_piece (piece_of l.section)) no_texts (run (all_series l.kind l.count) l.source);
  room : 4 * l.first + length l.rest ≤ length l.source;
  inside : length (take l.at l.block) ≡ l.at;
}
