use Rattle.console_core.proofs.Flushing.{causes_then}
use Rattle.console_core.proofs.script.feed.Goals as goal

pub returns-clause-runs : goal.returns-clause-runs
returns-clause-runs g c =
    let runs = c.run_piece-end.ensures.runs in
    record {
      told = rw c.flush.ensures.same runs.told;
      path = runs.path;
      causes = causes_then _ _ _ _ _ _ _ c.flush.ensures.faults runs.causes;
      calls = runs.calls;
    }
