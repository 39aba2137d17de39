use Rattle.std.proofs.Common.{◌<◌}
use Rattle.std.specs.Prelude.{◌^◌, All, vec_len}
use Rattle.map_change.proofs.tests.path.Given as goal

-- no file is long
abbrev pub invariant-loop-name : goal.invariant-loop-name
invariant-loop-name l = All (λ file. vec_len file.bytes < 2 ^ 62) l.held.items
