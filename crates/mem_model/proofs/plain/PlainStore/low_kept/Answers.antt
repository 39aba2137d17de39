use Rattle.std.proofs.Common.{◌∙◌, Some, None, sym}
use Rattle.mem_model.proofs.EndSearch.{low_cut}
use Rattle.mem_model.proofs.plain.PlainStore.low_kept.Goals as goal

pub returns-in_err-last : goal.returns-in_err-last
returns-in_err-last c =
    let found = rw (c.deref.ensures.value, c.self.invariant.low_ends) at c.binary_search.ensures.position in
    rw (c.from_residual.ensures, ← c.self.view_is) (low_cut c.self.inside.low.items c.args.mark _ None c.self.invariant.laid.low found (sym c.in_err-last.was ∙ c.ok.ensures.value))

pub returns : goal.returns
returns c =
    let found = rw (c.deref.ensures.value, c.self.invariant.low_ends) at c.binary_search.ensures.position in
    rw (← c.self.view_is) (low_cut c.self.inside.low.items c.args.mark _ (Some c.in_ok-last.last) c.self.invariant.laid.low found (sym c.in_ok-last.was ∙ c.ok.ensures.value))
