use Rattle.std.proofs.Common.{Some, ap, ◌∙◌, sym}
use Rattle.std.specs.Option.{option_map}
use Rattle.base_fields.specs.Texts.{until_zero}
use Rattle.zone_values.specs.Values.{value_at}
use Rattle.zone_values.proofs.value_at.Goals as goal

pub returns-clause-value : goal.returns-clause-value
unfolding value_at
returns-clause-value g c = ap (option_map until_zero) c.zone_bytes.ensures.shows ∙ ap Some (sym c.before_zero.ensures.value)
