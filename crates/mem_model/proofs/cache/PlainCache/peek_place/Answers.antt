use Rattle.std.proofs.Common.{◌≡◌, ◌∙◌, ◌^◌, Some, None, ap, sym, arith}
use Rattle.std.specs.Prelude.{slice_index_or}
use Rattle.mem_model.proofs.Tables.{entry_below}
use Rattle.mem_model.proofs.cache.PlainCache.peek_place.Goals as goal

pub overflow_add-result : goal.overflow_add-result
overflow_add-result c =
    let here : slice_index_or c.self.inside.places.items c.args.user None ≡ Some c.in-Some.place = ap (λ places. slice_index_or places c.args.user None) (sym c.deref.ensures.value) ∙ sym c.in-Some.ensures in
    omega (arith, entry_below c.args.user c.in-Some.place (2 ^ 26) c.self.invariant.places c.self.invariant.order.between here)
