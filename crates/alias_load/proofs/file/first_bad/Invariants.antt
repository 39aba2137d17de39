use Rattle.std.proofs.Common.{◌≡◌, ◌-◌}
use Rattle.base_fields.specs.Faults.{first_fault}
use Rattle.part_plan.specs.Checks.{each_row}
use Rattle.alias_load.specs.declared.fault.AliasFault.TheVariants.{Triangle}
use Rattle.alias_load.specs.Reading.{is_bad_triangle, triangle_tests}
use Rattle.alias_load.proofs.file.first_bad.Given as goal

abbrev pub invariant-loop-row : goal.invariant-loop-row
invariant-loop-row l = first_fault (each_row (is_bad_triangle l.vertices l.triangles) Triangle l.row (l.count - l.row)) ≡ first_fault (triangle_tests l.vertices l.count l.triangles)
