use Rattle.std.proofs.Common.{◌≡◌, ◌+◌, ◌-◌, ◌*◌, ◌≤◌, ◌++◌, length}
use Rattle.world_gen.specs.Packs.{behind_files, contents, files_from, rows_from}
use Rattle.world_gen.proofs.packing.pack.Given as goal

-- what is there and what is still to come are all, and neither part is long
abbrev pub invariant-loop-number : goal.invariant-loop-number
invariant-loop-number l = record {
  files : l.contents.items ++ contents (files_from (34 - l.number) l.number l.draws.state)
      ≡ contents (files_from 34 0 l.initial.draws.state);
  rows : l.directory.items ++ rows_from (12 + length l.contents.items) (files_from (34 - l.number) l.number l.draws.state)
      ≡ rows_from 12 (files_from 34 0 l.initial.draws.state);
  state : behind_files (34 - l.number) l.number l.draws.state ≡ behind_files 34 0 l.initial.draws.state;
  short : length l.contents.items ≤ 65536 * l.number;
  few : length l.directory.items ≡ 64 * l.number;
}
