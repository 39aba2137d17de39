use Rattle.std.proofs.Common.{◌≡◌, map, take}
use Rattle.pack_files.specs.Packs.{row_of, first_rows, table_of}
use Rattle.pack_files.proofs.directory.first_entries.Given as goal

abbrev pub invariant-loop-row : goal.invariant-loop-row
invariant-loop-row l = table_of l.entries.entries ≡ first_rows (map row_of (take l.row-index l.rows))
