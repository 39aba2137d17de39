use Rattle.std.proofs.Common.{List, ℕ, ◌++◌, ap, ◌∙◌}
use Rattle.alias_load.specs.Images.{skin_row}
use Rattle.alias_load.specs.Views.{head_of, series_of}
use Rattle.alias_load.proofs.PieceLaws.{row_is}
use Rattle.alias_load.proofs.section.put_piece.Goals as goal

pub returns-in-SkinRows : goal.returns-in-SkinRows
returns-in-SkinRows c =
    let v = c.args.series.now in
    rw c.in-SkinRows.is (c.put_row.ensures ∙ row_is c.args.kind (head_of v.head) v.head.number v.items.now v.head.single c.args.first c.requires.single)

pub returns-in-FrameRows : goal.returns-in-FrameRows
returns-in-FrameRows c =
    let v = c.args.series.now in
    let x = series_of c.args.kind v in
    let row = c.put_row-in-FrameRows.ensures ∙ row_is c.args.kind (head_of v.head) v.head.number v.items.now v.head.single c.args.first c.requires.single in
    rw c.in-FrameRows.is (ap (λ (t : List ℕ). t ++ c.copy_from_slice.new.self) row ∙ ap (λ (t : List ℕ). skin_row c.args.first x ++ t) (c.copy_from_slice.ensures.after ∙ c.bounds.ensures.value))
