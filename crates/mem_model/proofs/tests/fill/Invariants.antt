use Rattle.std.proofs.Common.{◌≡◌}
use Rattle.mem_model.proofs.tests.fill.Given as goal

abbrev pub invariant-loop-user : goal.invariant-loop-user
invariant-loop-user g l = (g.M.Store.state l.store).users ≡ 8
