use Rattle.bsp29_tables.proofs.Cutting.{length-rows_in}
use Rattle.bsp29_tables.proofs.lumps.count.Goals as goal

pub returns : goal.returns
returns c = rw (length-rows_in, ← c.lump_bytes.ensures.bytes, ← c.row_size.ensures.size)
