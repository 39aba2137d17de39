use Rattle.std.proofs.Common.{sym, ◌∙◌}
use Rattle.bsp29_tables.proofs.TextureLaws.{has_table}
use Rattle.bsp29_tables.proofs.textures.texture_count.Goals as goal

pub u32_at-requires : goal.u32_at-requires
u32_at-requires c = (has_table c.args.lump.now c.requires (sym c.is_empty.ensures ∙ c.if-is_empty.false)).0

pub returns-else-is_empty-clause-few : goal.returns-else-is_empty-clause-few
returns-else-is_empty-clause-few c =
    rw c.u32_at.ensures (has_table c.args.lump.now c.requires (sym c.is_empty.ensures ∙ c.if-is_empty.false)).1
