use Rattle.res_table.proofs.Moving.{alloc_of_room}
use Rattle.res_table.proofs.cached.take_block.Goals as goal

pub block_told-requires : goal.block_told-requires
block_told-requires g c = alloc_of_room _ _ _ c.args.user c.args.size c.args.name.now _ c.requires.free.absent c.requires.some c.cache_alloc.result c.cache_alloc.ensures.gives

pub returns-clause-gives : goal.returns-clause-gives
returns-clause-gives g c = rw c.block_told.ensures c.cache_alloc.ensures.gives
