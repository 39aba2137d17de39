use Rattle.std.proofs.Common.{◌≡◌, ◌∙◌, ap, sym, None}
use Rattle.mem_model.specs.Memory.{Memory}
use Rattle.mem_model.specs.PlainState.{state_of}
use Rattle.mem_model.specs.Plain.{IsHighCut}
use Rattle.mem_model.specs.Hunk.{cut_from}
use Rattle.mem_model.proofs.Calling.{high_free_cut, high_free_refused}
use Rattle.mem_model.proofs.Ends.{ends-fewer}
use Rattle.mem_model.proofs.HighLaying.{Laid-with_fewer_high, temp-without_temp}
use Rattle.mem_model.proofs.plain.PlainStoreStore.high_free.Goals as goal

pub returns-in-None-clause-gives : goal.returns-in-None-clause-gives
returns-in-None-clause-gives c =
    let none : cut_from 0 c.self.inside.high.items c.args.mark ≡ None = rw (← c.self.view_is) at c.in-None.ensures in
    rw c.free_temp.ensures.freed (high_free_refused c.args.self.now (state_of c.self.inside) c.args.mark c.free_temp.ensures.quiet (c.self.view_is ∙ c.free_temp.ensures.freed) none)

pub invariant_of-self : goal.invariant_of-self
invariant_of-self c =
    let cut : IsHighCut c.self.inside.high.items c.args.mark c.in-Some.kept = rw (← c.self.view_is) at c.in-Some.ensures in
    let none : c.self.inside.temp ≡ None = ap (λ (m : Memory). m.temp) (c.self.view_is ∙ c.free_temp.ensures.freed) ∙ temp-without_temp c.args.self.now in
    record {
      laid = rw (c.truncate.ensures.items, none) (Laid-with_fewer_high (state_of c.self.inside) c.in-Some.kept c.self.invariant.laid);
      low_used = c.self.invariant.low_used;
      high_used = rw c.truncate.ensures.items (sym cut.ends);
      low_ends = c.self.invariant.low_ends;
      high_ends = rw (c.truncate.ensures.items, c.truncate-in-Some.ensures.items, c.self.invariant.high_ends) (ends-fewer c.in-Some.kept c.self.inside.high.items);
    }

pub returns-in-Some-clause-gives : goal.returns-in-Some-clause-gives
returns-in-Some-clause-gives c =
    let cut : IsHighCut c.self.inside.high.items c.args.mark c.in-Some.kept = rw (← c.self.view_is) at c.in-Some.ensures in
    rw c.truncate.ensures.items (high_free_cut c.args.self.now (state_of c.self.inside) c.args.mark _ c.free_temp.ensures.quiet (c.self.view_is ∙ c.free_temp.ensures.freed) cut.kept)

pub returns-in-Some-clause-laid : goal.returns-in-Some-clause-laid
returns-in-Some-clause-laid c = (invariant_of-self c).laid
