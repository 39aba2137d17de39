use Rattle.res_table.proofs.Beside.{beside_checked}
use Rattle.res_table.proofs.Kept.{kept_check}
use Rattle.res_table.proofs.used.used.Goals as goal

pub returns-in_ok-place-in-None-clause-keeps : goal.returns-in_ok-place-in-None-clause-keeps
returns-in_ok-place-in-None-clause-keeps g c = kept_check _ _ c.args.user _ c.peek_place.ensures.laid c.check.ensures.gives

pub returns-in_ok-place-in-None-clause-beside : goal.returns-in_ok-place-in-None-clause-beside
returns-in_ok-place-in-None-clause-beside g c = beside_checked _ _ c.args.user _ c.check.ensures.gives
