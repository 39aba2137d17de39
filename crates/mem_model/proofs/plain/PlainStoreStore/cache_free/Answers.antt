use Rattle.std.proofs.Common.{refl, sym, subst}
use Rattle.mem_model.specs.Laid.{Laid}
use Rattle.mem_model.specs.PlainState.{state_of}
use Rattle.mem_model.proofs.Calling.{cache_free_gives}
use Rattle.mem_model.proofs.CacheLaws.{Laid-cache_free}
use Rattle.mem_model.proofs.plain.PlainStoreStore.cache_free.Goals as goal

pub invariant_of-self : goal.invariant_of-self
invariant_of-self c = record {
  laid = rw c.free.ensures.left (subst Laid (sym (cache_free_gives (state_of c.self.inside) c.args.user refl).after) (Laid-cache_free (state_of c.self.inside) c.args.user c.self.invariant.laid));
  low_used = c.self.invariant.low_used;
  high_used = c.self.invariant.high_used;
  low_ends = c.self.invariant.low_ends;
  high_ends = c.self.invariant.high_ends;
}

pub returns-clause-gives : goal.returns-clause-gives
returns-clause-gives c = rw (c.free.ensures.had, c.free.ensures.left, ← c.self.view_is) (cache_free_gives (state_of c.self.inside) c.args.user refl)

pub returns-clause-laid : goal.returns-clause-laid
returns-clause-laid c = (invariant_of-self c).laid
