use Rattle.std.proofs.Common.{◌≡◌, ◌∙◌, ◌++◌, Some, length, take, drop, set, ap, sym, refl, subst, arith}
use Rattle.std.specs.Prelude.{◌^◌}
use Rattle.std.specs.List.{insert}
use Rattle.mem_model.specs.Blocks.{CacheBlock}
use Rattle.mem_model.specs.Memory.{cache_of}
use Rattle.mem_model.specs.Turns.{IsRoom}
use Rattle.mem_model.specs.Laid.{count_in, users_of}
use Rattle.mem_model.proofs.CacheBlocks.{find-none}
use Rattle.mem_model.proofs.Gaps.{filled}
use Rattle.mem_model.proofs.Adding.{IsAdded, added}
use Rattle.mem_model.specs.Tables.{IsTable}
use Rattle.mem_model.proofs.CacheEdits.{written_whole}
use Rattle.mem_model.proofs.Tables.{table-put_in}
use Rattle.mem_model.proofs.cache.PlainCache.add.Goals as goal
use Rattle.mem_model.proofs.cache.PlainCache.add.Goals.{After-insert_reserved-2}

-- the cache before the evictions is the old one
was : (c : After-insert_reserved-2) → cache_of c.reserve.new.self.items c.reserve-2.new.self.items ≡ c.args.self.now
was c = rw (c.reserve.ensures.items, c.reserve-2.ensures.items) c.self.view_is

room : (c : After-insert_reserved-2) → IsRoom c.args.bottom c.args.top c.args.cell.size c.args.self.now (cache_of c.make_room-gap.new.cells.items c.make_room-gap.new.recency.items)
room c =
    rw (← c.size-size.ensures)
    (subst (λ m. IsRoom c.args.bottom c.args.top c.size-size.result m (cache_of c.make_room-gap.new.cells.items c.make_room-gap.new.recency.items)) (was c) c.make_room-gap.ensures.room)

none : (c : After-insert_reserved-2) → count_in c.args.cell.user (users_of c.make_room-gap.new.cells.items) ≡ 0
none c = (room c).absent c.args.cell.user (find-none c.args.cell.user c.args.self.now.blocks c.requires.free)

-- the block at its place
abbrev new : After-insert_reserved-2 → CacheBlock
new c = record c.args.cell { place = c.make_room-gap.result.place }

listed : (c : After-insert_reserved-2) → c.insert_reserved.new.list.items ≡ insert c.make_room-gap.new.cells.items c.make_room-gap.result.at (new c)
listed c = rw (c.insert_reserved.ensures, c.set_place.ensures) refl

grown : (c : After-insert_reserved-2) → IsAdded (cache_of c.make_room-gap.new.cells.items c.make_room-gap.new.recency.items) (cache_of c.insert_reserved.new.list.items c.insert_reserved-2.new.list.items) c.args.bottom c.args.top c.args.cell
grown c =
    let gap = rw c.size-size.ensures at c.make_room-gap.ensures.gap in
    rw (listed c, c.insert_reserved-2.ensures, c.user-user.ensures)
    (added (cache_of c.make_room-gap.new.cells.items c.make_room-gap.new.recency.items) c.args.cell c.args.bottom c.args.top c.make_room-gap.result.at c.make_room-gap.result.place (room c).order c.requires.small gap c.requires.block (none c))

-- the table with the new block's place
table : (c : After-insert_reserved-2) → IsTable (set (take c.reach.new.places.len (c.make_room-gap.new.places ++ drop (length c.make_room-gap.new.places) c.reach.new.places.items)) c.user-user.result (Some c.make_room-gap.result.place)) c.insert_reserved.new.list.items
table c =
    let long : length c.make_room-gap.new.places ≡ length c.reach.new.places.items = c.make_room-gap.auto.places ∙ ap length c.deref_mut.ensures.value in
    rw (written_whole c.make_room-gap.new.places c.reach.new.places.items c.reach.new.places.len long c.reach.new.places.ok.0, listed c, ← c.make_room-gap.ensures.gap.puts (new c) refl, c.user-user.ensures)
    (table-put_in (new c) c.make_room-gap.ensures.places (omega (arith, long, c.in_ok-reach.ensures.reached, c.user-user.ensures)) (none c))

pub overflow_add-self : goal.overflow_add-self
overflow_add-self c =
    let g = grown (goal.at.overflow_add-self c).After-insert_reserved-2 in
    omega (arith, c.make_room-gap.ensures.used, c.size-size.ensures, g.sizes, filled c.insert_reserved.new.list.items 0 (2 ^ 26) g.order.between)

pub invariant_of-self-2 : goal.invariant_of-self-2
invariant_of-self-2 c =
    let d = (goal.at.invariant_of-self-2 c).After-insert_reserved-2 in
    let g = grown d in
    record { order = g.order; places = table d; used = omega (arith, c.make_room-gap.ensures.used, c.size-size.ensures, g.sizes) }

pub returns-clause-ok : goal.returns-clause-ok
returns-clause-ok c =
    let d = (goal.at.returns-clause-ok c).After-insert_reserved-2 in
    sym (grown d).is ∙ (room d).same c.args.cell refl
