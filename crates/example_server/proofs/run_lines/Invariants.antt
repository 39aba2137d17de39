use Rattle.std.proofs.Common.{◌≡◌, false}
use Rattle.example_server.proofs.run_lines.Given as goal

-- each line has left the session going
abbrev pub invariant-loop-line : goal.invariant-loop-line
invariant-loop-line g l = l.session.ended ≡ false
