use Rattle.std.proofs.Common.{◌≡◌, ◌<◌, length, get_or, [], Err, refl, sym}
use Rattle.bsp29_tables.specs.declared.fault.BspFault.TheVariants.{BadRow}
use Rattle.bsp29_tables.specs.Checks.{fine}
use Rattle.bsp29_tables.specs.Lumps.{rows_in}
use Rattle.bsp29_tables.specs.Rows.{row_check}
use Rattle.bsp29_tables.proofs.Checking.{passed_more, failed_here, passed_all}
use Rattle.bsp29_tables.proofs.Cutting.{length-rows_in, get_or-rows_in}
use Rattle.bsp29_tables.proofs.rows.check_lump_rows.Goals as goal

pub returns-then-not-row_passes : goal.returns-then-not-row_passes
returns-then-not-row_passes c =
    let bytes = c.lump_bytes-bytes.result.now in
    let size = c.row_size-size.result in
    let row = c.loop-row.row in
    let below : row < length (rows_in size bytes) = rw length-rows_in c.loop-row-test.true in
    let bad : row_check c.args.counts.now c.args.lump row (get_or (rows_in size bytes) row [])
    ≡ Err (BadRow c.number.result row) =
    rw (
      get_or-rows_in size bytes row c.loop-row-test.true,
      ← c.row_passes.ensures,
      c.if-not-row_passes.true,
      c.number.ensures.number,
    ) refl in
    rw (← c.lump_bytes-bytes.ensures.bytes, ← c.row_size-size.ensures.size)
    (sym (failed_here [] _ c.loop-row.invariant below bad))

pub loop-row-preserved : goal.loop-row-preserved
loop-row-preserved c =
    let bytes = c.lump_bytes-bytes.result.now in
    let size = c.row_size-size.result in
    let row = c.loop-row.row in
    let below : row < length (rows_in size bytes) = rw length-rows_in c.loop-row-test.true in
    let passes : row_check c.args.counts.now c.args.lump row (get_or (rows_in size bytes) row []) ≡ fine =
    rw (get_or-rows_in size bytes row c.loop-row-test.true, ← c.row_passes.ensures, c.if-not-row_passes.false) refl in
    passed_more [] c.loop-row.invariant below passes

pub returns : goal.returns
returns c =
    rw (← c.lump_bytes-bytes.ensures.bytes, ← c.row_size-size.ensures.size)
    (sym (passed_all c.loop-row.invariant (rw length-rows_in c.loop-row-test.false)))
