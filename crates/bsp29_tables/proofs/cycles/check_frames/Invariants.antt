use Rattle.bsp29_tables.specs.Textures.{texture_offsets}
use Rattle.bsp29_tables.specs.Cycles.{frame_check}
use Rattle.bsp29_tables.proofs.Checking.{IsPassed}
use Rattle.bsp29_tables.proofs.cycles.check_frames.Given as goal

abbrev pub invariant-loop-texture : goal.invariant-loop-texture
invariant-loop-texture l = IsPassed (frame_check l.lump) (texture_offsets l.lump) l.texture
