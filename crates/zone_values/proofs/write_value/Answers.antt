use Rattle.std.proofs.Common.{◌∙◌, ap, List, ℕ, ◌++◌, length, drop}
use Rattle.std.specs.Prelude.{slice_set}
use Rattle.zone_values.proofs.Writing.{written_over}
use Rattle.zone_values.proofs.write_value.Goals as goal

pub returns : goal.returns
returns c =
    ap (λ (front : List ℕ). slice_set (front ++ drop (length c.args.value.now) c.args.bytes.now) (length c.args.value.now) 0) c.copy_from_slice.ensures.after
    ∙ written_over c.args.bytes.now c.args.value.now c.requires
