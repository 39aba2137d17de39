use Rattle.std.proofs.Common.{◌≡◌, ◌≤◌, take}
use Rattle.bsp29_tables.specs.Cycles.{span}
use Rattle.bsp29_tables.proofs.groups.span.Given as goal

abbrev pub invariant-loop-place : goal.invariant-loop-place
invariant-loop-place l = record {
  so_far : l.span ≡ span (take l.place l.frames);
  within : l.span ≤ l.place;
}
