use Rattle.std.proofs.Common.{◌<◌, ◌^◌, All, vec_len}
use Rattle.console_core.proofs.tests.maps.folder.Given as goal

abbrev pub invariant-loop-name : goal.invariant-loop-name
invariant-loop-name g l = All (λ file. vec_len file.bytes < 2 ^ 62) l.held.items
