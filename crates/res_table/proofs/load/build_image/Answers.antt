use Rattle.std.proofs.Common.{inl, inr}
use Rattle.res_table.proofs.Kept.{kept_none}
use Rattle.res_table.proofs.load.build_image.Goals as goal

pub returns-in-Alias-clause-keeps : goal.returns-in-Alias-clause-keeps
returns-in-Alias-clause-keeps g c = rw c.in-Alias.is c.build_through_low.ensures.keeps

pub returns-in-Brush-clause-keeps : goal.returns-in-Brush-clause-keeps
returns-in-Brush-clause-keeps g c = elim c.in-Brush.is [
  | inl is ↦ rw is (kept_none c.build_lowered.result c.build_lowered.ensures.keeps)
  | inr other ↦ elim other [
    | inl is ↦ rw is (kept_none c.build_lowered.result c.build_lowered.ensures.keeps)
    | inr is ↦ rw is (kept_none c.build_lowered.result c.build_lowered.ensures.keeps)
  ]
]

pub returns-in-Sound-clause-keeps : goal.returns-in-Sound-clause-keeps
returns-in-Sound-clause-keeps g c = rw c.in-Sound.is c.build_cached.ensures.keeps
