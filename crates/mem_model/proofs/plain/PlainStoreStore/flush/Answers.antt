use Rattle.std.proofs.Common.{refl}
use Rattle.mem_model.specs.PlainState.{state_of}
use Rattle.mem_model.proofs.Calling.{flush_gives}
use Rattle.mem_model.proofs.plain.PlainStoreStore.flush.Goals as goal

pub returns-clause-gives : goal.returns-clause-gives
returns-clause-gives c = rw (c.flush.ensures, ← c.self.view_is) (flush_gives (state_of c.self.inside) refl)
