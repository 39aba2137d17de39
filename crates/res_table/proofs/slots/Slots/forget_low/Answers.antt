use Rattle.std.proofs.Common.{◌≡◌, length, ap, ◌∙◌, arith}
use Rattle.res_table.specs.Tables.{SlotTable}
use Rattle.res_table.proofs.Forgetting.{below-all, below-step, below_to, length-below_to}
use Rattle.res_table.proofs.slots.Slots.forget_low.Goals as goal

pub forget_slot-requires : goal.forget_slot-requires
forget_slot-requires c =
    let start = c.args.self.now in
    let end : c.len-slot-end.result ≡ length start.rows = c.len-slot-end.ensures.len ∙ ap (λ (t : SlotTable). length t.rows) c.self.view_is in
    omega (arith, end, ap (λ (t : SlotTable). length t.rows) c.loop-slot.invariant, length-below_to c.args.level c.loop-slot.slot start.rows)

pub loop-slot-preserved : goal.loop-slot-preserved
loop-slot-preserved c =
    let start = c.args.self.now in
    let end : c.len-slot-end.result ≡ length start.rows = c.len-slot-end.ensures.len ∙ ap (λ (t : SlotTable). length t.rows) c.self.view_is in
    below-step c.args.level c.loop-slot.slot start _ _ (omega (arith, end)) c.loop-slot.invariant c.forget_slot.ensures

pub returns : goal.returns
returns c =
    let start = c.args.self.now in
    let end : c.len-slot-end.result ≡ length start.rows = c.len-slot-end.ensures.len ∙ ap (λ (t : SlotTable). length t.rows) c.self.view_is in
    let whole : c.loop-slot.slot ≡ length start.rows = omega (arith, end) in
    c.loop-slot.invariant ∙ ap (λ rows. record start { rows = rows }) (ap (λ n. below_to c.args.level n start.rows) whole ∙ below-all c.args.level start.rows)
