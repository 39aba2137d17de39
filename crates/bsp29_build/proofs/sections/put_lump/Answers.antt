use Rattle.std.proofs.Common.{length, sym, ap, ◌∙◌}
use Rattle.bsp29_build.proofs.FineLaws.{other_room}
use Rattle.bsp29_build.proofs.sections.put_lump.Goals as goal

pub copy_from_slice-requires : goal.copy_from_slice-requires
copy_from_slice-requires c =
    let d = c.in_default in
    c.requires.room
    ∙ other_room c.args.src.now c.args.lump c.requires.fine d.not-Planes d.not-Textures d.not-Nodes d.not-Faces d.not-Leafs
    ∙ ap length (sym c.lump_bytes-bytes.ensures.bytes)
