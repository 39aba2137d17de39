use Rattle.std.proofs.Common.{sym, ◌∙◌, arith}
use Rattle.std.proofs.lemmas.List.{length-take}
use Rattle.alias_load.specs.Views.{head_of}
use Rattle.alias_load.proofs.PieceLaws.{single_long, single_bounds}
use Rattle.alias_load.proofs.section.bounds.Goals as goal

pub slice_bounds-result-end : goal.slice_bounds-result-end
slice_bounds-result-end c =
    let v = c.args.series.now in
    let long = single_long c.args.kind (head_of v.head) v.head.number v.items.now c.requires.is (sym c.requires.single ∙ c.if-series.true) c.requires.items in
    omega (arith, long, c.requires.poses.1, length-take 8 v.items.now)

pub returns-then-series-clause-value : goal.returns-then-series-clause-value
returns-then-series-clause-value c =
    let v = c.args.series.now in
    single_bounds c.args.kind (head_of v.head) v.head.number v.items.now (sym c.requires.single ∙ c.if-series.true) c.requires.items

pub returns-then-series-clause-len : goal.returns-then-series-clause-len
returns-then-series-clause-len c =
    let v = c.args.series.now in
    let long = single_long c.args.kind (head_of v.head) v.head.number v.items.now c.requires.is (sym c.requires.single ∙ c.if-series.true) c.requires.items in
    omega (arith, long, c.requires.poses.1, length-take 8 v.items.now)
