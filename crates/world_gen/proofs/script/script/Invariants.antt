use Rattle.std.proofs.Common.{◌≡◌, ◌-◌, ◌++◌}
use Rattle.world_gen.specs.Scripts.{commands}
use Rattle.world_gen.proofs.script.script.Given as goal

-- what is there and what is still to come are all lines
abbrev pub invariant-loop-line : goal.invariant-loop-line
invariant-loop-line l = l.text.items ++ commands (256 - l._line) l.draws.state ≡ commands 256 l.initial.draws.state
