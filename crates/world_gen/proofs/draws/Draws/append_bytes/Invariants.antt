use Rattle.std.proofs.Common.{◌≡◌, ◌-◌, ◌++◌}
use Rattle.world_gen.specs.Draws.{bytes_drawn, state_after}
use Rattle.world_gen.proofs.draws.Draws.append_bytes.Given as goal

-- what is there and what is still to come are all
abbrev pub invariant-loop-drawn : goal.invariant-loop-drawn
invariant-loop-drawn l = record {
  bytes : l.bytes.items ++ bytes_drawn (l.count - l._drawn) l.self.state
      ≡ l.initial.bytes.items ++ bytes_drawn l.count l.initial.self.state;
  state : state_after (l.count - l._drawn) l.self.state ≡ state_after l.count l.initial.self.state;
}
