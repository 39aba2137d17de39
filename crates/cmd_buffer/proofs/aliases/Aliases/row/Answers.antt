use Rattle.std.proofs.Common.{◌≡◌, ◌-◌, ◌+◌, suc, sym, ◌∙◌, arith}
use Rattle.cmd_buffer.specs.AliasRecords.{alias_of}
use Rattle.cmd_buffer.proofs.AliasRows.{row_more, row_first, row_none}
use Rattle.cmd_buffer.proofs.aliases.Aliases.row.Goals as goal

pub returns-in-None : goal.returns-in-None
returns-in-None g c =
    record { row = sym c.loop-before.invariant.same ∙ row_none (g.M.Store.state c.args.store.now) c.loop-before.place (c.args.number - c.loop-before._before) c.in-None.is }

pub loop-before-preserved : goal.loop-before-preserved
loop-before-preserved g c =
    let n = c.args.number - c.loop-before._before in
    let k = c.args.number - (c.loop-before._before + 1) in
    let more : n ≡ suc k = omega arith in
    record {
      holds = c.record_at-place.ensures.holds;
      same = sym (row_more (g.M.Store.state c.args.store.now) c.loop-before.place _ c.in-Some.at (alias_of c.record_at-place.result) c.in-Some.is c.record_at-place.ensures.first n k more) ∙ c.loop-before.invariant.same;
    }

pub returns-in-Some-place : goal.returns-in-Some-place
returns-in-Some-place g c =
    let none : c.args.number - c.loop-before._before ≡ 0 = omega arith in
    record { row = sym c.loop-before.invariant.same ∙ row_first (g.M.Store.state c.args.store.now) c.loop-before.place _ c.in-Some-place.at (alias_of c.record_at-record.result) c.in-Some-place.is c.record_at-record.ensures.first _ c.value_at.result.now none c.value_at.ensures.value }

pub returns-in-None-place : goal.returns-in-None-place
returns-in-None-place g c =
    record { row = sym c.loop-before.invariant.same ∙ row_none (g.M.Store.state c.args.store.now) c.loop-before.place (c.args.number - c.loop-before._before) c.in-None-place.is }
