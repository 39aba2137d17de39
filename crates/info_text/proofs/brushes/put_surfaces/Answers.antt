use Rattle.info_text.proofs.brushes.put_surfaces.Goals as goal

pub returns : goal.returns
returns g c =
    rw (
      ← c.rows.ensures,
      ← c.rows-2.ensures,
      ← c.rows-3.ensures,
      ← c.rows-4.ensures,
      ← c.rows-5.ensures,
      ← c.seen_leafs.ensures,
    ) c.put_all.ensures
