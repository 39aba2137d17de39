use Rattle.std.proofs.Common.{◌∙◌, Some, None, sym}
use Rattle.mem_model.proofs.EndSearch.{high_cut, high_cut-none}
use Rattle.mem_model.proofs.plain.PlainStore.high_kept.Goals as goal

pub returns-then-mark-eq0 : goal.returns-then-mark-eq0
returns-then-mark-eq0 c = high_cut-none c.args.self.now.high c.args.mark c.if-mark-eq0.true

pub returns-in_err-last : goal.returns-in_err-last
returns-in_err-last c =
    let found = rw (c.deref.ensures.value, c.self.invariant.high_ends) at c.binary_search.ensures.position in
    rw (c.from_residual.ensures, ← c.self.view_is) (high_cut c.self.inside.high.items c.args.mark _ None c.self.invariant.laid.high c.if-mark-eq0.false found (sym c.in_err-last.was ∙ c.ok.ensures.value))

pub returns : goal.returns
returns c =
    let found = rw (c.deref.ensures.value, c.self.invariant.high_ends) at c.binary_search.ensures.position in
    rw (← c.self.view_is) (high_cut c.self.inside.high.items c.args.mark _ (Some c.in_ok-last.last) c.self.invariant.laid.high c.if-mark-eq0.false found (sym c.in_ok-last.was ∙ c.ok.ensures.value))
