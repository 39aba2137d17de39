use Rattle.std.proofs.Common.{◌≡◌, ◌<◌, Some, length, ap, sym, arith}
use Rattle.std.specs.Prelude.{slice_get}
use Rattle.std.proofs.lemmas.Option.{slice_get_read}
use Rattle.mem_model.specs.Plain.{ends_from}
use Rattle.mem_model.proofs.Ends.{length-ends, end_small, row_up, no_row_up}
use Rattle.mem_model.proofs.plain.PlainStoreStore.low_row.Goals as goal

pub returns-then-at-len-clause-row : goal.returns-then-at-len-clause-row
returns-then-at-len-clause-row c =
    rw (← c.self.view_is) (sym (no_row_up 0 c.self.inside.low.items c.args.number (omega (arith, c.if-at-len.true, c.len.ensures, c.self.inside.low.ok.0))))

pub index-requires : goal.index-requires
index-requires c =
    omega (arith, c.if-at-len.false, c.len.ensures, c.self.inside.low.ok.0, c.self.inside.low_ends.ok.0, ap length c.self.invariant.low_ends, length-ends 0 c.self.inside.low.items)

pub overflow_sub-index : goal.overflow_sub-index
overflow_sub-index c =
    let inside : c.args.number < c.self.inside.low.len = omega (arith, c.if-at-len.false, c.len.ensures, c.self.inside.low.ok.0) in
    let ended : c.args.number < c.self.inside.low_ends.len = omega (arith, inside, c.self.inside.low.ok.0, c.self.inside.low_ends.ok.0, ap length c.self.invariant.low_ends, length-ends 0 c.self.inside.low.items) in
    let cell = slice_get_read c.self.inside.low.items _ c.args.number c.index-cell.result.now c.self.inside.low.ok.0 inside c.index-cell.ensures in
    let end = slice_get_read c.self.inside.low_ends.items _ c.args.number c.index.result.now c.self.inside.low_ends.ok.0 ended c.index.ensures in
    let end_is : slice_get (ends_from 0 c.self.inside.low.items) c.args.number ≡ Some c.index.result.now = rw c.self.invariant.low_ends at end in
    omega (arith, c.size.ensures, (end_small 0 c.self.inside.low.items c.args.number c.index-cell.result.now c.index.result.now cell end_is).0)

pub returns-clause-row : goal.returns-clause-row
returns-clause-row c =
    let inside : c.args.number < c.self.inside.low.len = omega (arith, c.if-at-len.false, c.len.ensures, c.self.inside.low.ok.0) in
    let ended : c.args.number < c.self.inside.low_ends.len = omega (arith, inside, c.self.inside.low.ok.0, c.self.inside.low_ends.ok.0, ap length c.self.invariant.low_ends, length-ends 0 c.self.inside.low.items) in
    let cell = slice_get_read c.self.inside.low.items _ c.args.number c.index-cell.result.now c.self.inside.low.ok.0 inside c.index-cell.ensures in
    let end = slice_get_read c.self.inside.low_ends.items _ c.args.number c.index.result.now c.self.inside.low_ends.ok.0 ended c.index.ensures in
    let end_is : slice_get (ends_from 0 c.self.inside.low.items) c.args.number ≡ Some c.index.result.now = rw c.self.invariant.low_ends at end in
    rw (← c.self.view_is, c.row.ensures, c.size.ensures) (sym (row_up c.self.inside.low.items c.args.number c.index-cell.result.now c.index.result.now cell end_is))
