use Rattle.std.proofs.Common.{arith}
use Rattle.alias_load.specs.Models.{Head}
use Rattle.alias_load.proofs.SeriesLaws.{series_read, series_short}
use Rattle.alias_load.proofs.SpellingLaws.{series_is}
use Rattle.alias_load.proofs.reading.read_series.Goals as goal

pub returns-then-rest-length-clause-value : goal.returns-then-rest-length-clause-value
returns-then-rest-length-clause-value c =
    let v = c.in_ok-head.head in
    let h : Head = record { word = v.word.now; count = v.count.now; intervals = v.intervals.now } in
    series_short c.args.kind c.args.row c.args.source.now h c.in_ok-head.rest.now v.number c.in_ok-head.ensures.value c.in_ok-head.ensures.number (omega (arith, c.if-rest-length.true))

pub returns-clause-value : goal.returns-clause-value
returns-clause-value c =
    let v = c.in_ok-head.head in
    let h : Head = record { word = v.word.now; count = v.count.now; intervals = v.intervals.now } in
    rw (c.split_at.ensures.front, c.split_at.ensures.back)
    (series_read c.args.kind c.args.row c.args.source.now h c.in_ok-head.rest.now v.number c.in_ok-head.ensures.value c.in_ok-head.ensures.number (omega (arith, c.if-rest-length.false)))

pub returns-clause-is : goal.returns-clause-is
returns-clause-is c =
    let v = c.in_ok-head.head in
    let h : Head = record { word = v.word.now; count = v.count.now; intervals = v.intervals.now } in
    rw c.split_at.ensures.front
    (series_is c.args.kind c.args.row c.args.source.now _ _
    (series_read c.args.kind c.args.row c.args.source.now h c.in_ok-head.rest.now v.number c.in_ok-head.ensures.value c.in_ok-head.ensures.number (omega (arith, c.if-rest-length.false))))
