use Rattle.res_table.proofs.Moving.{move_of_room}
use Rattle.res_table.proofs.cached.move_block.Goals as goal

pub block_told-requires : goal.block_told-requires
block_told-requires g c =
    move_of_room _ _ _ c.args.user c.args.size c.args.name.now _ c.requires.free.absent c.requires.some c.args.mark c.move_low_to_cache.result c.move_low_to_cache.ensures.gives

pub returns-clause-gives : goal.returns-clause-gives
returns-clause-gives g c = rw c.block_told.ensures c.move_low_to_cache.ensures.gives
