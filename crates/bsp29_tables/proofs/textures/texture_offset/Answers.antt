use Rattle.std.proofs.Common.{sym, ◌∙◌, arith}
use Rattle.bsp29_tables.proofs.Cutting.{get_or-texture_offsets}
use Rattle.bsp29_tables.proofs.TextureLaws.{has_offset}
use Rattle.bsp29_tables.proofs.textures.texture_offset.Goals as goal

pub u32_at-requires : goal.u32_at-requires
u32_at-requires c = omega (arith, has_offset c.args.lump.now c.args.texture c.requires.table c.requires.below)

pub returns : goal.returns
returns c = c.u32_at.ensures ∙ sym (get_or-texture_offsets c.args.lump.now c.args.texture c.requires.below)
