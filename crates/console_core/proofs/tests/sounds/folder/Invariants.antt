use Rattle.std.proofs.Common.{◌<◌, ◌^◌, All, vec_len}
use Rattle.console_core.proofs.tests.sounds.folder.Given as goal

abbrev pub invariant-loop-wav : goal.invariant-loop-wav
invariant-loop-wav g l = All (λ file. vec_len file.bytes < 2 ^ 62) l.held.items
