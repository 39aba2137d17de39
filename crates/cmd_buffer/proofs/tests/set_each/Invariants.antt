use Rattle.cmd_buffer.specs.Aliases.{HoldsAliases}
use Rattle.cmd_buffer.proofs.tests.set_each.Given as goal

abbrev pub invariant-loop-letter : goal.invariant-loop-letter
invariant-loop-letter g l = HoldsAliases (g.M.Store.state l.store) l.aliases
