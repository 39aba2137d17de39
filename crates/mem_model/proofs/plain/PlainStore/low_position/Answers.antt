use Rattle.std.proofs.Common.{◌-◌, Ok, Err, arith}
use Rattle.mem_model.proofs.EndSearch.{payload_least, low_found}
use Rattle.mem_model.proofs.plain.PlainStore.low_position.Goals as goal

pub overflow_sub-place : goal.overflow_sub-place
overflow_sub-place c = payload_least c.args.self.now.low c.args.place c.requires

pub returns : goal.returns
returns c =
    let least = payload_least c.args.self.now.low c.args.place c.requires in
    rw (← c.self.view_is)
    (low_found c.self.inside.low.items (c.args.place - 16) c.args.place (Ok c.in-Ok.before) c.self.invariant.laid.low (omega (arith, least)) (rw (← c.self.view_is) at c.requires) (rw (c.deref.ensures.value, c.self.invariant.low_ends) at c.in-Ok.ensures.position))

pub unreachable-requires : goal.unreachable-requires
unreachable-requires c =
    let least = payload_least c.args.self.now.low c.args.place c.requires in
    low_found c.self.inside.low.items (c.args.place - 16) c.args.place (Err c.in-Err.field-0) c.self.invariant.laid.low (omega (arith, least)) (rw (← c.self.view_is) at c.requires) (rw (c.deref.ensures.value, c.self.invariant.low_ends) at c.in-Err.ensures.position)
