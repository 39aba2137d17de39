use Rattle.std.proofs.Common.{◌≡◌, ◌∙◌, ◌+◌, ◌-◌, ◌≤◌, ◌∷◌, [], None, ap, sym, arith}
use Rattle.mem_model.specs.Memory.{Memory, room, size_of}
use Rattle.mem_model.specs.Places.{hunk_need}
use Rattle.mem_model.specs.PlainState.{state_of}
use Rattle.mem_model.specs.Hunk.{hunk_block}
use Rattle.mem_model.specs.Cache.{pushed_down}
use Rattle.mem_model.proofs.Calling.{high_taken_refused, high_taken_grown}
use Rattle.mem_model.proofs.Laying.{IsHunkBlock-hunk_block, size_of-append}
use Rattle.mem_model.proofs.Ends.{ends-more}
use Rattle.mem_model.proofs.CacheLaws.{Laid-high_grown}
use Rattle.mem_model.proofs.CacheBlocks.{between_from, between_to}
use Rattle.mem_model.proofs.plain.PlainStore.take_high.Goals as goal

pub returns-then-asked-room-clause-gives : goal.returns-then-asked-room-clause-gives
returns-then-asked-room-clause-gives c =
    rw (c.from-room.ensures, c.room.ensures.room, c.hunk_need-asked.ensures)
    (high_taken_refused c.args.self.now c.args.size c.args.name.now (omega (arith, c.from-room.ensures, c.room.ensures.room, c.hunk_need-asked.ensures)))

-- the block fits in the room of the memory that the fields stand for
fits : (c : goal.After-push_down) → hunk_need c.args.size ≤ room (state_of c.self.inside)
fits c =
    let left : c.from-room.result ≡ room (state_of c.self.inside) = c.from-room.ensures ∙ c.room.ensures.room ∙ ap room (sym c.self.view_is) in
    omega (arith, left, c.hunk_need-asked.ensures)

-- where the high hunk now begins
starts : (c : goal.After-push_down) → c.self.inside.size - (c.self.inside.high_used + hunk_need c.args.size) ≡ (c.self.inside.size - size_of c.self.inside.high.items) - hunk_need c.args.size
starts c = omega (arith, c.self.invariant.high_used)

pushed : (c : goal.After-push_down) → c.push_down.new.self ≡ pushed_down c.self.inside.cache c.self.inside.size (c.self.inside.size - (c.self.inside.high_used + hunk_need c.args.size))
pushed c =
    let now : c.push_down.new.self ≡ pushed_down c.self.inside.cache c.self.inside.size (c.self.inside.size - (c.self.inside.high_used + c.hunk_need-asked.result)) =
    c.push_down.ensures c.self.inside.size (between_from c.self.inside.cache.blocks 0 _ _ (omega arith) (between_to c.self.inside.cache.blocks _ _ c.self.inside.size (omega arith) c.self.invariant.laid.cache.between)) (omega arith) in
    now ∙ ap (λ need. pushed_down c.self.inside.cache c.self.inside.size (c.self.inside.size - (c.self.inside.high_used + need))) c.hunk_need-asked.ensures

pub invariant_of-self-2 : goal.invariant_of-self-2
invariant_of-self-2 c =
    let none : c.self.inside.temp ≡ None = ap (λ (m : Memory). m.temp) c.self.view_is ∙ c.requires.no_temp in
    record {
      laid = rw (pushed c, c.in_ok-add.ensures.ok, c.in_ok-cell.ensures, c.hunk_need-asked.ensures)
          (Laid-high_grown (state_of c.self.inside) (hunk_block (hunk_need c.args.size) c.args.name.now) (c.self.inside.size - (c.self.inside.high_used + hunk_need c.args.size)) c.self.invariant.laid
          (IsHunkBlock-hunk_block c.args.size c.args.name.now c.requires.name) (fits c) none (starts c));
      low_used = c.self.invariant.low_used;
      high_used = rw (c.in_ok-add.ensures.ok, c.in_ok-cell.ensures, c.hunk_need-asked.ensures)
          (omega (arith, size_of-append c.self.inside.high.items (hunk_block (hunk_need c.args.size) c.args.name.now ∷ []), c.self.invariant.high_used));
      low_ends = c.self.invariant.low_ends;
      high_ends = rw (c.push_reserved.ensures.items, c.reserve.ensures.items, c.in_ok-add.ensures.ok, c.in_ok-cell.ensures, c.hunk_need-asked.ensures, c.self.invariant.high_ends)
          (ends-more c.self.inside.high.items (hunk_block (hunk_need c.args.size) c.args.name.now) _ (omega (arith, c.self.invariant.high_used)));
    }

pub returns-clause-gives : goal.returns-clause-gives
returns-clause-gives c =
    let given = high_taken_grown (state_of c.self.inside) c.args.size (c.self.inside.size - (c.self.inside.high_used + hunk_need c.args.size)) c.args.name.now (fits c) (starts c) in
    rw (pushed c, c.in_ok-add.ensures.ok, c.in_ok-cell.ensures, c.hunk_need-asked.ensures, ← c.self.view_is) (rw (← starts c) at given)

pub returns-clause-laid : goal.returns-clause-laid
returns-clause-laid c = (invariant_of-self-2 c).laid
