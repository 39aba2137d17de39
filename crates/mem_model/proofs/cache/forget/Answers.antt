use Rattle.std.proofs.Common.{rules, arith}
use Rattle.std.specs.Prelude.{not, nat_eq}
use Rattle.std.proofs.lemmas.Fn.{filter_same}
use Rattle.std.proofs.lemmas.Bool.Decides.{nat_tests}
use Rattle.mem_model.proofs.cache.forget.Goals as goal

pub returns : goal.returns
returns c = filter_same _ (λ u. not (nat_eq u c.args.user)) _ (λ x b f h. (grind (arith, nat_tests), search rules)) _ _ c.retain.ensures.filtered
