use Rattle.std.proofs.Common.{◌≡◌, ◌≤◌, ℕ}
use Rattle.mem_model.specs.Cache.{pushed_down}
use Rattle.mem_model.specs.Turns.{depth}
use Rattle.mem_model.specs.Laid.{AreBetween}
use Rattle.mem_model.proofs.cache.PlainCache.push_down.Given as goal

abbrev pub invariant-loop-self : goal.invariant-loop-self
invariant-loop-self l = record {
  pushed : (size : ℕ) → AreBetween 0 size l.fn.self.blocks → l.top ≤ size → pushed_down l.self size l.top ≡ pushed_down l.fn.self size l.top;
  between : (size : ℕ) → AreBetween 0 size l.fn.self.blocks → l.top ≤ size → AreBetween 0 size l.self.blocks;
}

abbrev pub decreases-loop-self : goal.decreases-loop-self
decreases-loop-self l = depth l.self.blocks
