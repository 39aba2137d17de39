use Rattle.std.proofs.Common.{◌≡◌, ◌+◌, ◌<◌, ℕ, None, get_or, length}
use Rattle.bsp29_tables.specs.Cycles.{shown_of}
use Rattle.bsp29_tables.proofs.groups.frames_of.Given as goal

abbrev pub invariant-loop-place : goal.invariant-loop-place
invariant-loop-place l = record {
  long : length l.frame-items ≡ 10;
  shown : (k : ℕ) → k < l.place → get_or l.frame-items k None ≡ shown_of l.lump l.rest (l.first + k);
}
