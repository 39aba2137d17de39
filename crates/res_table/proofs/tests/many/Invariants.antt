use Rattle.std.proofs.Common.{◌<◌}
use Rattle.std.specs.Prelude.{◌^◌, All, vec_len}
use Rattle.res_table.proofs.tests.many.Given as goal

-- no file is long
abbrev pub invariant-loop-number : goal.invariant-loop-number
invariant-loop-number l = All (λ file. vec_len file.bytes < 2 ^ 62) l.held.items
