use Rattle.std.proofs.Common.{◌≤◌, ◌<◌, sym, ◌∙◌, arith}
use Rattle.bsp29_tables.specs.Textures.{texture_count}
use Rattle.bsp29_tables.proofs.NameLaws.{name_there, name_beyond}
use Rattle.bsp29_tables.proofs.TextureLaws.{texture_inside}
use Rattle.bsp29_tables.proofs.names.name_of.Goals as goal

pub returns-then-texture-texture_count : goal.returns-then-texture-texture_count
returns-then-texture-texture_count c =
    let beyond : texture_count c.args.lump.now ≤ c.args.texture = omega (arith, c.texture_count.ensures.count) in
    sym (name_beyond c.args.lump.now c.args.texture beyond)

pub name_at-requires : goal.name_at-requires
name_at-requires c =
    let there : c.args.texture < texture_count c.args.lump.now = omega (arith, c.texture_count.ensures.count) in
    rw c.texture_offset.ensures (texture_inside c.args.lump.now c.args.texture c.requires.textures there)

pub returns : goal.returns
returns c =
    let there : c.args.texture < texture_count c.args.lump.now = omega (arith, c.texture_count.ensures.count) in
    rw c.texture_offset.ensures at c.name_at.ensures ∙ sym (name_there c.args.lump.now c.args.texture there)
