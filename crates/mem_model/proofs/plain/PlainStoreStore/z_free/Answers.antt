use Rattle.std.proofs.Common.{Ok, refl, sym, subst}
use Rattle.mem_model.specs.Answer.{Answers}
use Rattle.mem_model.specs.Laid.{Laid}
use Rattle.mem_model.specs.PlainState.{state_of}
use Rattle.mem_model.specs.Zone.{with_free}
use Rattle.mem_model.specs.Operations.{z_free}
use Rattle.mem_model.proofs.Calling.{z_free_nowhere, z_free_again, z_free_used}
use Rattle.mem_model.proofs.ZoneLaying.{Laid-z_free}
use Rattle.mem_model.proofs.plain.PlainStoreStore.z_free.Goals as goal

pub returns-in_default-clause-gives : goal.returns-in_default-clause-gives
returns-in_default-clause-gives c = rw (← c.self.view_is) (z_free_nowhere (state_of c.self.inside) c.args.place.0 refl (sym c.in_default.ensures.position))

pub returns-then-not-is_used-clause-gives : goal.returns-then-not-is_used-clause-gives
returns-then-not-is_used-clause-gives c =
    rw (← c.self.view_is) (z_free_again (state_of c.self.inside) c.args.place.0 c.in-Some.at c.cell.result.now refl (sym c.in-Some.ensures.position) c.cell.ensures (sym c.if-not-is_used.ensures))

freed : (c : goal.After-free) → Answers (z_free (state_of c.self.inside) c.args.place.0) (Ok tt) (record (state_of c.self.inside) { zone = with_free c.self.inside.zone c.in-Some.at })
freed c = z_free_used (state_of c.self.inside) c.args.place.0 c.in-Some.at c.cell.result.now refl (sym c.in-Some.ensures.position) c.cell.ensures (sym c.if-not-is_used.ensures)

pub invariant_of-self : goal.invariant_of-self
invariant_of-self c = record {
  laid = rw c.free.ensures (subst Laid (sym (freed c).after) (Laid-z_free (state_of c.self.inside) c.args.place.0 c.self.invariant.laid));
  low_used = c.self.invariant.low_used;
  high_used = c.self.invariant.high_used;
  low_ends = c.self.invariant.low_ends;
  high_ends = c.self.invariant.high_ends;
}

pub returns-clause-gives : goal.returns-clause-gives
returns-clause-gives c = rw (c.free.ensures, ← c.self.view_is) (freed c)

pub returns-clause-laid : goal.returns-clause-laid
returns-clause-laid c = (invariant_of-self c).laid
