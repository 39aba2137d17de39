use Rattle.std.proofs.Common.{length, arith}
use Rattle.std.proofs.lemmas.Grind.{common_steps}
use Rattle.base_fields.specs.Names.{is_dot}
use Rattle.base_fields.proofs.Cuts.{before_first_is}
use Rattle.base_fields.proofs.names.stem.Goals as goal

pub returns-in-Some : goal.returns-in-Some
returns-in-Some c =
    before_first_is is_dot c.args.part.now c.in-Some.at (omega (arith, c.in-Some.ensures.0)) c.in-Some.ensures.2 (λ _. c.in-Some.ensures.1)

pub returns-in-None : goal.returns-in-None
returns-in-None c =
    let cut = before_first_is is_dot c.args.part.now (length c.args.part.now) (omega arith) c.in-None.ensures (λ some. absurd (omega arith)) in
    grind (arith, common_steps, cut)
