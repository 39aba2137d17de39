use Rattle.cmd_buffer.specs.Aliases.{HoldsAliases}
use Rattle.cmd_buffer.proofs.tests.are_texts.Given as goal

abbrev pub invariant-loop-name : goal.invariant-loop-name
invariant-loop-name g l = HoldsAliases (g.M.Store.state l.store) l.left
