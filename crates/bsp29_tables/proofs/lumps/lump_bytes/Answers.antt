use Rattle.bsp29_tables.specs.Lumps.{lump_of}
use Rattle.bsp29_tables.proofs.Cutting.{cut_is_field}
use Rattle.bsp29_tables.proofs.lumps.lump_bytes.Goals as goal

pub returns-clause-bytes : goal.returns-clause-bytes
unfolding lump_of
returns-clause-bytes c =
    rw (← c.offset_of.ensures, ← c.length_of.ensures)
    (cut_is_field c.args.src.now c.offset_of.result c.length_of.result _ _ c.min-start.ensures c.min-length.ensures)
