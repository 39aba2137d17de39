use Rattle.std.proofs.Common.{rules}
use Rattle.pack_files.proofs.Tables.{row_put}
use Rattle.pack_files.proofs.directory.first_entries.Goals as goal

pub loop-row-preserved : goal.loop-row-preserved
loop-row-preserved c =
    row_put c.loop-row.entries _ c.args.rows.now c.loop-row.row-index c.name_in.result.now c.in_ok-name.name c.entry_in.result c.loop-row-test.true
    c.name_in.ensures c.in_ok-name.ensures c.entry_in.ensures c.loop-row.invariant (search rules)
