use Rattle.std.proofs.Common.{◌-◌, ◌≤◌, length, take}
use Rattle.std.specs.Io.KnownBytes.{Consumes}
use Rattle.quake_cli.proofs.folder.fill.Given as goal

-- what was filled is what was read
abbrev pub invariant-fill : goal.invariant-fill
invariant-fill g l = (l.filled ≤ length l.into) × Consumes (g.R.Read.remaining l.initial.from) (g.R.Read.remaining l.from) (take l.filled l.into)

abbrev pub decreases-fill : goal.decreases-fill
decreases-fill g l = length l.initial.into - l.filled
