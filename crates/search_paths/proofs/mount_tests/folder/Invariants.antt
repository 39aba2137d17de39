use Rattle.std.proofs.Common.{◌<◌, ◌^◌, All, vec_len}
use Rattle.search_paths.proofs.mount_tests.folder.Given as goal

abbrev pub invariant-loop-number : goal.invariant-loop-number
invariant-loop-number l = All (λ file. vec_len file.bytes < 2 ^ 62) l.files.items
