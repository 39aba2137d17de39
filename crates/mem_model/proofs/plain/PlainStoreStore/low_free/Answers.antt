use Rattle.std.proofs.Common.{◌≡◌, sym, refl, None}
use Rattle.mem_model.specs.PlainState.{state_of}
use Rattle.mem_model.specs.Plain.{IsCut}
use Rattle.mem_model.specs.Hunk.{cut_above}
use Rattle.mem_model.proofs.Calling.{low_free_cut, low_free_refused}
use Rattle.mem_model.proofs.Ends.{ends-fewer}
use Rattle.mem_model.proofs.Laying.{Laid-with_fewer}
use Rattle.mem_model.proofs.plain.PlainStoreStore.low_free.Goals as goal

pub returns-in_default-clause-gives : goal.returns-in_default-clause-gives
returns-in_default-clause-gives c =
    let none : cut_above c.self.inside.low.items c.args.mark ≡ None = rw (← c.self.view_is) at c.in_default.ensures in
    rw (← c.self.view_is) (low_free_refused (state_of c.self.inside) c.args.mark refl none)

pub invariant_of-self : goal.invariant_of-self
invariant_of-self c =
    let cut : IsCut c.self.inside.low.items c.args.mark c.in-Some.kept = rw (← c.self.view_is) at c.in-Some.ensures in
    record {
      laid = rw c.truncate.ensures.items (Laid-with_fewer (state_of c.self.inside) c.in-Some.kept cut.some c.self.invariant.laid);
      low_used = rw c.truncate.ensures.items (sym cut.ends);
      high_used = c.self.invariant.high_used;
      low_ends = rw (c.truncate.ensures.items, c.truncate-2.ensures.items, c.self.invariant.low_ends) (ends-fewer c.in-Some.kept c.self.inside.low.items);
      high_ends = c.self.invariant.high_ends;
    }

pub returns-clause-gives : goal.returns-clause-gives
returns-clause-gives c =
    let cut : IsCut c.self.inside.low.items c.args.mark c.in-Some.kept = rw (← c.self.view_is) at c.in-Some.ensures in
    rw (c.truncate.ensures.items, ← c.self.view_is) (low_free_cut (state_of c.self.inside) c.args.mark _ refl cut.kept)

pub returns-clause-laid : goal.returns-clause-laid
returns-clause-laid c = (invariant_of-self c).laid
