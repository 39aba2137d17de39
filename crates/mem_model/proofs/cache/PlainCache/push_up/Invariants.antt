use Rattle.std.proofs.Common.{◌≡◌}
use Rattle.mem_model.specs.Cache.{pushed_up}
use Rattle.mem_model.specs.Turns.{height}
use Rattle.mem_model.specs.Laid.{AreBetween}
use Rattle.mem_model.proofs.cache.PlainCache.push_up.Given as goal

abbrev pub invariant-loop-self : goal.invariant-loop-self
invariant-loop-self l = record {
  pushed : pushed_up l.self l.bottom l.top ≡ pushed_up l.fn.self l.bottom l.top;
  between : AreBetween 0 l.top l.self.blocks;
}

abbrev pub decreases-loop-self : goal.decreases-loop-self
decreases-loop-self l = height l.top l.self.blocks
