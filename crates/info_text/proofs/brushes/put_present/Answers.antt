use Rattle.info_text.proofs.brushes.put_present.Goals as goal

pub returns : goal.returns
returns g c =
    rw (
      ← c.from.ensures,
      ← c.from-2.ensures,
      ← c.from-3.ensures,
      ← c.from-4.ensures,
      ← c.from-5.ensures,
      ← c.from-6.ensures,
      ← c.number_or_none.ensures,
      ← c.number_or_none-2.ensures,
    ) c.put_all.ensures
