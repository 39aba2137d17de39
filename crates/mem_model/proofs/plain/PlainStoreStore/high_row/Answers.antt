use Rattle.std.proofs.Common.{◌≡◌, ◌-◌, ◌<◌, Some, length, ap, sym, arith}
use Rattle.std.specs.Prelude.{slice_get}
use Rattle.std.proofs.lemmas.Option.{slice_get_read}
use Rattle.mem_model.specs.Plain.{ends_from}
use Rattle.mem_model.proofs.Ends.{length-ends, end_small, row_down, no_row_down}
use Rattle.mem_model.proofs.plain.PlainStoreStore.high_row.Goals as goal

pub returns-then-number-count-clause-row : goal.returns-then-number-count-clause-row
returns-then-number-count-clause-row c =
    rw (← c.self.view_is) (sym (no_row_down c.self.inside.size c.self.inside.high.items c.args.number (omega (arith, c.if-number-count.true, c.len-count.ensures, c.self.inside.high.ok.0))))

pub index-requires-2 : goal.index-requires-2
index-requires-2 c =
    omega (arith, c.if-number-count.false, c.len-count.ensures, c.self.inside.high.ok.0, c.self.inside.high_ends.ok.0, ap length c.self.invariant.high_ends, length-ends 0 c.self.inside.high.items)

pub overflow_sub-self-inside : goal.overflow_sub-self-inside
overflow_sub-self-inside c =
    let inside : (c.len-count.result - 1) - c.args.number < c.self.inside.high.len = omega (arith, c.if-number-count.false, c.len-count.ensures, c.self.inside.high.ok.0) in
    let ended : (c.len-count.result - 1) - c.args.number < c.self.inside.high_ends.len = omega (arith, inside, c.self.inside.high.ok.0, c.self.inside.high_ends.ok.0, ap length c.self.invariant.high_ends, length-ends 0 c.self.inside.high.items) in
    let cell = slice_get_read c.self.inside.high.items _ ((c.len-count.result - 1) - c.args.number) c.index.result.now c.self.inside.high.ok.0 inside c.index.ensures in
    let end = slice_get_read c.self.inside.high_ends.items _ ((c.len-count.result - 1) - c.args.number) c.index-2.result.now c.self.inside.high_ends.ok.0 ended c.index-2.ensures in
    let end_is : slice_get (ends_from 0 c.self.inside.high.items) ((c.len-count.result - 1) - c.args.number) ≡ Some c.index-2.result.now = rw c.self.invariant.high_ends at end in
    omega (arith, (end_small 0 c.self.inside.high.items ((c.len-count.result - 1) - c.args.number) c.index.result.now c.index-2.result.now cell end_is).1, c.self.invariant.laid.inside)

pub returns-clause-row : goal.returns-clause-row
returns-clause-row c =
    let inside : (c.len-count.result - 1) - c.args.number < c.self.inside.high.len = omega (arith, c.if-number-count.false, c.len-count.ensures, c.self.inside.high.ok.0) in
    let ended : (c.len-count.result - 1) - c.args.number < c.self.inside.high_ends.len = omega (arith, inside, c.self.inside.high.ok.0, c.self.inside.high_ends.ok.0, ap length c.self.invariant.high_ends, length-ends 0 c.self.inside.high.items) in
    let cell = slice_get_read c.self.inside.high.items _ ((c.len-count.result - 1) - c.args.number) c.index.result.now c.self.inside.high.ok.0 inside c.index.ensures in
    let end = slice_get_read c.self.inside.high_ends.items _ ((c.len-count.result - 1) - c.args.number) c.index-2.result.now c.self.inside.high_ends.ok.0 ended c.index-2.ensures in
    let end_is : slice_get (ends_from 0 c.self.inside.high.items) ((c.len-count.result - 1) - c.args.number) ≡ Some c.index-2.result.now = rw c.self.invariant.high_ends at end in
    rw (← c.self.view_is, c.row.ensures)
    (sym (row_down c.self.inside.size c.self.inside.high.items ((c.len-count.result - 1) - c.args.number) c.args.number c.index.result.now c.index-2.result.now (omega (arith, c.self.invariant.laid.inside)) cell end_is (omega (arith, c.if-number-count.false, c.len-count.ensures, c.self.inside.high.ok.0))))
