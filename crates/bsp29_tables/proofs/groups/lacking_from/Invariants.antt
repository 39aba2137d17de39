use Rattle.std.proofs.Common.{◌≡◌, ◌+◌, drop}
use Rattle.bsp29_tables.specs.Cycles.{lacking_from}
use Rattle.bsp29_tables.proofs.groups.lacking_from.Given as goal

abbrev pub invariant-loop-place : goal.invariant-loop-place
invariant-loop-place l = lacking_from (l.first + l.place) (drop l.place l.frames) ≡ lacking_from l.first l.frames
