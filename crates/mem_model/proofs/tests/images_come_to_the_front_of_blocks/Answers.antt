use Rattle.std.proofs.Common.{rules}
use Rattle.mem_model.proofs.Laws.{store_laws}
use Rattle.mem_model.proofs.tests.images_come_to_the_front_of_blocks.Goals as goal

-- the temporary bytes are those that the first image was built of
pub builds_cache-requires : goal.builds_cache-requires
builds_cache-requires g c = rw c.builds_low.ensures.temp (search (rules, store_laws))

pub builds_cache-requires-2 : goal.builds_cache-requires-2
builds_cache-requires-2 g c = rw c.builds_cache.ensures.temp (search (rules, store_laws))

pub builds_cache-requires-3 : goal.builds_cache-requires-3
builds_cache-requires-3 g c = rw (c.builds_cache-2.ensures.temp, c.builds_cache.ensures.temp) (search (rules, store_laws))
