use Rattle.std.proofs.Common.{sym, ◌∙◌}
use Rattle.std.proofs.lemmas.Result.{err_from_is_err_and}
use Rattle.bsp29_tables.specs.declared.lumps.Lump.TheVariants.{Entities}
use Rattle.bsp29_tables.proofs.Checking.{passed_more, failed_here, passed_all}
use Rattle.bsp29_tables.proofs.lumps.check_lumps.Goals as goal

pub returns-in_err-check_lump : goal.returns-in_err-check_lump
returns-in_err-check_lump c =
    let p = err_from_is_err_and c.from_residual.result c.from_residual.ensures.1 in
    rw (p.1, p.2)
    (sym (failed_here Entities _ c.loop-lump.invariant c.loop-lump-test.true
    (sym c.check_lump.ensures ∙ c.in_err-check_lump.was)))

pub loop-lump-preserved : goal.loop-lump-preserved
loop-lump-preserved c =
    passed_more Entities c.loop-lump.invariant c.loop-lump-test.true (sym c.check_lump.ensures ∙ c.in_ok-check_lump.was)

pub returns : goal.returns
returns c = sym (passed_all c.loop-lump.invariant c.loop-lump-test.false)
