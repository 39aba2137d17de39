use Rattle.std.proofs.Common.{◌≡◌, ◌+◌, ◌-◌, sym, ◌∙◌, arith}
use Rattle.bsp29_tables.proofs.NameLaws.{name_some}
use Rattle.bsp29_tables.proofs.names.name_at.Goals as goal

pub returns : goal.returns
returns c =
    let width : c.args.at + 16 - c.args.at ≡ 16 = omega arith in
    rw width at c.before_zero.ensures.value ∙ sym (name_some c.args.lump.now c.args.at c.if-at-eq-MISSING.false)
