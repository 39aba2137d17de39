use Rattle.std.proofs.Common.{◌-◌, ◌≤◌, length, take}
use Rattle.std.specs.Io.KnownBytes.{Appends}
use Rattle.quake_cli.proofs.streams.put_whole.Given as goal

-- a front was written
abbrev pub invariant-put : goal.invariant-put
invariant-put g l = (l.written ≤ length l.piece) × Appends (g.W.Write.contents l.initial.to) (g.W.Write.contents l.to) (take l.written l.piece)

abbrev pub decreases-put : goal.decreases-put
decreases-put g l = length l.initial.piece - l.written
