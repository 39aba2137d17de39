use Rattle.std.proofs.Common.{take, rules, arith}
use Rattle.std.proofs.lemmas.Grind.{common_steps}
use Rattle.base_fields.proofs.TextLaws.{text_from_until_zero}
use Rattle.base_fields.proofs.texts.before_zero.Goals as goal

pub returns-in-Some-clause-text : goal.returns-in-Some-clause-text
returns-in-Some-clause-text c = text_from_until_zero (take c.in-Some.end c.args.bytes.now) c.args.bytes.now (search rules)

pub returns-in-None-clause-text : goal.returns-in-None-clause-text
returns-in-None-clause-text c = text_from_until_zero c.args.bytes.now c.args.bytes.now (grind (arith, common_steps))
