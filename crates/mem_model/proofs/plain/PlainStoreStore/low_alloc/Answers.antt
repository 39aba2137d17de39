use Rattle.std.proofs.Common.{◌≡◌, ◌∙◌, ◌+◌, ◌-◌, ◌≤◌, ◌∷◌, [], ap, sym, arith, refl}
use Rattle.mem_model.specs.Memory.{Memory, room}
use Rattle.mem_model.specs.Places.{hunk_need}
use Rattle.mem_model.specs.PlainState.{state_of}
use Rattle.mem_model.specs.Hunk.{hunk_block}
use Rattle.mem_model.proofs.Calling.{low_alloc_refused, low_alloc_grown}
use Rattle.mem_model.proofs.CacheLaws.{Laid-low_grown}
use Rattle.mem_model.proofs.CacheBlocks.{between_from}
use Rattle.mem_model.proofs.Ends.{ends-more}
use Rattle.mem_model.proofs.Laying.{IsHunkBlock-hunk_block, size_of-append}
use Rattle.mem_model.proofs.plain.PlainStoreStore.low_alloc.Goals as goal

pub returns-then-room-need-clause-gives : goal.returns-then-room-need-clause-gives
returns-then-room-need-clause-gives c =
    let quiet = ap (λ (m : Memory). m.event_room) (sym c.self.view_is) in
    rw (c.from-room.ensures, c.room.ensures.room, c.hunk_need-need.ensures)
    (low_alloc_refused c.args.self.now c.args.size c.args.name.now quiet (omega (arith, c.from-room.ensures, c.room.ensures.room, c.hunk_need-need.ensures)))

-- the block fits in the room of the memory that the fields stand for
fits : (c : goal.After-push_up) → hunk_need c.args.size ≤ room (state_of c.self.inside)
fits c =
    let left : c.from-room.result ≡ room (state_of c.self.inside) = c.from-room.ensures ∙ c.room.ensures.room ∙ ap room (sym c.self.view_is) in
    omega (arith, left, c.hunk_need-need.ensures)

pub invariant_of-self-2 : goal.invariant_of-self-2
invariant_of-self-2 c = record {
  laid = rw (c.push_up.ensures, c.in_ok-add.ensures.ok, c.in_ok-cell.ensures, c.hunk_need-need.ensures)
      (Laid-low_grown (state_of c.self.inside) (hunk_block (hunk_need c.args.size) c.args.name.now) (c.self.inside.low_used + hunk_need c.args.size) (c.self.inside.size - c.self.inside.high_used) c.self.invariant.laid
      (IsHunkBlock-hunk_block c.args.size c.args.name.now c.requires.name) (fits c) (ap (λ n. n + hunk_need c.args.size) c.self.invariant.low_used) (ap (λ n. c.self.inside.size - n) c.self.invariant.high_used));
  low_used = rw (c.in_ok-add.ensures.ok, c.in_ok-cell.ensures, c.hunk_need-need.ensures)
      (omega (arith, size_of-append c.self.inside.low.items (hunk_block (hunk_need c.args.size) c.args.name.now ∷ []), c.self.invariant.low_used));
  high_used = c.self.invariant.high_used;
  low_ends = rw (c.push_reserved.ensures.items, c.reserve.ensures.items, c.in_ok-add.ensures.ok, c.in_ok-cell.ensures, c.hunk_need-need.ensures, c.self.invariant.low_ends)
      (ends-more c.self.inside.low.items (hunk_block (hunk_need c.args.size) c.args.name.now) _ (omega (arith, c.self.invariant.low_used)));
  high_ends = c.self.invariant.high_ends;
}

pub returns-clause-gives : goal.returns-clause-gives
returns-clause-gives c =
    let given = low_alloc_grown (state_of c.self.inside) c.args.size (c.self.inside.low_used + hunk_need c.args.size) (c.self.inside.size - c.self.inside.high_used) c.args.name.now refl (fits c)
    (ap (λ n. n + hunk_need c.args.size) c.self.invariant.low_used) (ap (λ n. c.self.inside.size - n) c.self.invariant.high_used) in
    rw (c.push_up.ensures, c.in_ok-add.ensures.ok, c.in_ok-cell.ensures, c.hunk_need-need.ensures, ← c.self.view_is) (rw (← c.self.invariant.low_used) at given)

pub push_up-requires-clause-between : goal.push_up-requires-clause-between
push_up-requires-clause-between c = rw c.self.invariant.high_used (between_from c.self.inside.cache.blocks 0 _ _ (omega arith) c.self.invariant.laid.cache.between)

pub returns-clause-laid : goal.returns-clause-laid
returns-clause-laid c = (invariant_of-self-2 c).laid
