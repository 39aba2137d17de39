use Rattle.std.proofs.Common.{◌≡◌, ◌∙◌, ◌+◌, ◌<◌, Some, length, take, sym, arith}
use Rattle.std.specs.Prelude.{IsSome}
use Rattle.mem_model.specs.Hunk.{bytes_above, low_bytes}
use Rattle.mem_model.specs.Plain.{IsCut}
use Rattle.mem_model.specs.PlainState.{state_of}
use Rattle.mem_model.proofs.Ends.{ends-fewer}
use Rattle.mem_model.proofs.Laying.{Laid-with_fewer}
use Rattle.mem_model.proofs.Moving.{mark_cuts, mark_inside, mark_taken}
use Rattle.mem_model.proofs.plain.PlainStore.take_low.Goals as goal
use Rattle.mem_model.proofs.plain.PlainStore.take_low.Goals.{After-into_bytes}

pub unreachable-requires : goal.unreachable-requires
unfolding low_bytes
unreachable-requires c = mark_cuts c.args.self.now.low c.args.mark c.requires c.in_default.ensures

pub overflow_add-kept : goal.overflow_add-kept
unfolding low_bytes
overflow_add-kept c =
    let inside : c.in-Some.kept < length c.args.self.now.low = mark_inside c.args.self.now.low c.args.mark c.in-Some.kept c.requires c.in-Some.ensures in
    let here : c.in-Some.kept < length c.self.inside.low.items = rw (← c.self.view_is) at inside in
    omega (arith, c.self.inside.low.ok.0, c.self.inside.low.small)

cut : (c : After-into_bytes) → IsCut c.self.inside.low.items c.args.mark c.in-Some.kept
cut c = rw (← c.self.view_is) at c.in-Some.ensures

-- the block that was taken
taken : (c : After-into_bytes) → (c.pop.new.self.items ≡ take c.in-Some.kept c.self.inside.low.items) × (bytes_above c.self.inside.low.items (c.args.mark + 16) ≡ Some c.in-Some-pop.cell.bytes)
unfolding low_bytes
taken c =
    let there : IsSome (bytes_above c.self.inside.low.items (c.args.mark + 16)) = rw (← c.self.view_is) at c.requires in
    mark_taken c.self.inside.low.items c.pop.new.self.items c.args.mark c.in-Some.kept c.in-Some-pop.cell there (cut c) (sym c.truncate.ensures.items ∙ c.in-Some-pop.ensures.items)

pub invariant_of-self : goal.invariant_of-self
invariant_of-self c =
    let d = (goal.at.invariant_of-self c).After-into_bytes in
    let left = (taken d).0 in
    record {
      laid = rw left (Laid-with_fewer (state_of c.self.inside) c.in-Some.kept (cut d).some c.self.invariant.laid);
      low_used = rw left (sym (cut d).ends);
      high_used = c.self.invariant.high_used;
      low_ends = rw (left, c.truncate-2.ensures.items, c.self.invariant.low_ends) (ends-fewer c.in-Some.kept c.self.inside.low.items);
      high_ends = c.self.invariant.high_ends;
    }

pub returns-clause-bytes : goal.returns-clause-bytes
unfolding low_bytes
returns-clause-bytes c =
    let d = (goal.at.returns-clause-bytes c).After-into_bytes in
    rw (← c.self.view_is, c.into_bytes.ensures) (taken d).1

pub returns-clause-cut : goal.returns-clause-cut
returns-clause-cut c =
    let d = (goal.at.returns-clause-cut c).After-into_bytes in
    rw (← c.self.view_is, (taken d).0) (cut d).kept
