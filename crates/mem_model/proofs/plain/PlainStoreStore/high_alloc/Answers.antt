use Rattle.mem_model.proofs.Calling.{high_alloc_gives}
use Rattle.mem_model.proofs.HighLaying.{temp-without_temp}
use Rattle.mem_model.proofs.plain.PlainStoreStore.high_alloc.Goals as goal

pub take_high-requires-clause-no_temp : goal.take_high-requires-clause-no_temp
take_high-requires-clause-no_temp c = rw c.free_temp.ensures.freed (temp-without_temp c.args.self.now)

pub returns-clause-gives : goal.returns-clause-gives
returns-clause-gives c =
    high_alloc_gives c.args.self.now c.take_high.new.self c.args.size c.args.name.now _ c.free_temp.ensures.quiet (rw c.free_temp.ensures.freed at c.take_high.ensures.gives)
