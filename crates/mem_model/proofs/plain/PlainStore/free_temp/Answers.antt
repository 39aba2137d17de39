use Rattle.std.proofs.Common.{◌≡◌, ◌-◌, length, sym, arith}
use Rattle.mem_model.specs.PlainState.{state_of}
use Rattle.mem_model.proofs.Ends.{ends-fewer}
use Rattle.mem_model.proofs.HighLaying.{IsMarked, marked, Laid-with_fewer_high, without_temp_some, without_temp_none}
use Rattle.mem_model.proofs.plain.PlainStore.free_temp.Goals as goal

pub invariant_of-self : goal.invariant_of-self
invariant_of-self c =
    let mark : IsMarked c.self.inside.high.items c.in-Some.older = marked c.self.inside.high.items c.in-Some.older (rw c.in-Some.is at c.self.invariant.laid.temp) in
    let whole : c.len-newest.result ≡ length c.self.inside.high.items = omega (arith, c.len-newest.ensures, c.self.inside.high.ok.0) in
    record {
      laid = rw c.truncate.ensures.items (Laid-with_fewer_high (state_of c.self.inside) (c.len-newest.result - 1) c.self.invariant.laid);
      low_used = c.self.invariant.low_used;
      high_used = rw (c.truncate.ensures.items, whole) (sym mark.older);
      low_ends = c.self.invariant.low_ends;
      high_ends = rw (c.truncate.ensures.items, c.truncate-in-Some.ensures.items, c.self.invariant.high_ends) (ends-fewer (c.len-newest.result - 1) c.self.inside.high.items);
    }

pub returns-in-Some-clause-freed : goal.returns-in-Some-clause-freed
returns-in-Some-clause-freed c =
    let whole : c.len-newest.result ≡ length c.self.inside.high.items = omega (arith, c.len-newest.ensures, c.self.inside.high.ok.0) in
    rw (c.truncate.ensures.items, whole, ← c.self.view_is) (sym (without_temp_some (state_of c.self.inside) c.in-Some.older c.in-Some.is))

pub returns-in_default-clause-freed : goal.returns-in_default-clause-freed
returns-in_default-clause-freed c = rw (← c.self.view_is) (sym (without_temp_none (state_of c.self.inside) c.in_default.is))
