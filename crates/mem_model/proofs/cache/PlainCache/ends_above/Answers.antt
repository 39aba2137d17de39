use Rattle.std.proofs.Common.{◌∙◌, ap, sym, subst}
use Rattle.std.specs.Prelude.{◌^◌, is_some, nat_lt}
use Rattle.mem_model.specs.Memory.{Cache}
use Rattle.mem_model.specs.Cache.{highest_above}
use Rattle.mem_model.specs.Laid.{AreBetween}
use Rattle.mem_model.proofs.Falls.{some_above, ends_in}
use Rattle.mem_model.proofs.cache.PlainCache.ends_above.Goals as goal

pub end-requires : goal.end-requires
end-requires c = ends_in c.in-Some.field-0-1.now 0 (2 ^ 26) c.in-Some.last.now (subst (λ blocks. AreBetween 0 (2 ^ 26) blocks) (sym c.deref.ensures.value ∙ c.in-Some.ensures.cases.0) c.self.invariant.order.between)

pub returns-in-Some : goal.returns-in-Some
returns-in-Some c =
    ap (λ end. nat_lt c.args.top end) c.end.ensures ∙ some_above c.args.top c.in-Some.field-0-1.now c.in-Some.last.now
    ∙ ap (λ blocks. is_some (highest_above c.args.top blocks)) (sym c.in-Some.ensures.cases.0 ∙ c.deref.ensures.value ∙ ap (λ (m : Cache). m.blocks) c.self.view_is)
