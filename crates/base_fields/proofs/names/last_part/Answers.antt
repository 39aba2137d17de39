use Rattle.std.proofs.Common.{◌+◌, arith}
use Rattle.std.proofs.lemmas.Grind.{common_steps}
use Rattle.base_fields.specs.Names.{is_slash}
use Rattle.base_fields.proofs.Cuts.{after_last_is}
use Rattle.base_fields.proofs.names.last_part.Goals as goal

pub returns-in-Some : goal.returns-in-Some
returns-in-Some c =
    let cut = after_last_is is_slash c.args.word.now (c.in-Some.at + 1) (omega (arith, c.in-Some.ensures.0)) (λ k low high. c.in-Some.ensures.2 k (omega arith) high) (λ _. grind (arith, c.in-Some.ensures.1)) in
    grind (arith, common_steps, cut)

pub returns-in-None : goal.returns-in-None
returns-in-None c = after_last_is is_slash c.args.word.now 0 (omega arith) (λ k _ high. c.in-None.ensures k high) (λ some. absurd (omega arith))
