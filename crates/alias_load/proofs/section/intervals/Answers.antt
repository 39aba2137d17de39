use Rattle.std.proofs.Common.{sym, ◌∙◌, arith}
use Rattle.alias_load.specs.Views.{head_of}
use Rattle.alias_load.proofs.PieceLaws.{single_is, group_intervals}
use Rattle.alias_load.proofs.section.intervals.Goals as goal

pub returns-then-series-clause-len : goal.returns-then-series-clause-len
returns-then-series-clause-len c =
    let v = c.args.series.now in
    omega (arith, single_is c.args.kind (head_of v.head) v.head.number v.items.now c.requires.is (sym c.requires.single ∙ c.if-series.true))

pub returns-else-series-clause-len : goal.returns-else-series-clause-len
returns-else-series-clause-len c =
    let v = c.args.series.now in
    group_intervals c.args.kind (head_of v.head) v.head.number v.items.now c.requires.is (sym c.requires.single ∙ c.if-series.false)
