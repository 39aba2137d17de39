use Rattle.console_core.proofs.Completing.{completes}
use Rattle.console_core.proofs.top.quake_main.Goals as goal

pub returns-clause-complete : goal.returns-clause-complete
returns-clause-complete g c = λ request asks fits short script sink. completes _ _ _ _ _ _ _ _ request asks c.run.result c.run.ensures fits short script sink
