use Rattle.std.proofs.Common.{◌≡◌, ◌+◌, ◌∙◌, length, ap, sym, arith, set}
use Rattle.std.specs.List.{remove}
use Rattle.mem_model.specs.Memory.{Zone}
use Rattle.mem_model.specs.Zone.{free_block}
use Rattle.mem_model.specs.ZoneState.{zone_of}
use Rattle.mem_model.proofs.ZonePlaces.{length-places, both_inside}
use Rattle.mem_model.proofs.ZoneEdits.{neighbours_read, joined_at-last, joined_at-used, joined_at-next_used, IsMerged, merged, joined_rover_behind, joined_rover_before}
use Rattle.mem_model.proofs.zone.PlainZone.join.Goals as goal
use Rattle.mem_model.proofs.zone.PlainZone.join.Goals.{After-remove-2, then-is_used-via-then-is_used, then-is_used-via-else-is_used+then-is_used-2}

pub returns-then-len-at : goal.returns-then-len-at
returns-then-len-at c = rw (← c.self.view_is) (sym (joined_at-last (zone_of c.self.inside) c.args.at (omega (arith, c.if-len-at.true, c.len.ensures, c.self.inside.cells.ok.0))))

pub returns-then-is_used : goal.returns-then-is_used
returns-then-is_used c =
    let read = neighbours_read (zone_of c.self.inside) c.args.self.now _ c.args.at c.index-first.result.now c.index-second.result.now c.self.view_is c.self.inside.cells.ok.0 c.requires (λ e. c.if-len-at.false (c.len.ensures ∙ e)) c.index-first.ensures c.index-second.ensures in
    rw (← c.self.view_is) (elim c.then-is_used.branch [
      | then-is_used-via-then-is_used w ↦ sym (joined_at-used (zone_of c.self.inside) c.args.at _ _ read.first read.second (sym c.is_used.ensures ∙ w.if-is_used.true))
      | then-is_used-via-else-is_used+then-is_used-2 w ↦ sym (joined_at-next_used (zone_of c.self.inside) c.args.at _ _ read.first read.second (sym c.is_used.ensures ∙ w.if-is_used.false) (sym w.is_used-else-is_used.ensures ∙ w.if-is_used-2.true))
    ])

pub overflow_add-size : goal.overflow_add-size
overflow_add-size c =
    let read = neighbours_read (zone_of c.self.inside) c.args.self.now _ c.args.at c.index-first.result.now c.index-second.result.now c.self.view_is c.self.inside.cells.ok.0 c.requires (λ e. c.if-len-at.false (c.len.ensures ∙ e)) c.index-first.ensures c.index-second.ensures in
    omega (arith, both_inside c.self.inside.cells.items c.args.at _ _ read.first read.second, c.self.invariant.small, c.size.ensures, c.size-2.ensures)

pub remove-requires-2 : goal.remove-requires-2
remove-requires-2 c =
    omega (arith, c.self.inside.cells.ok.0, c.self.inside.places.ok.0, c.if-len-at.false, c.len.ensures, c.requires, ap (λ (z : Zone). length z.blocks) c.self.view_is, ap length c.self.invariant.places, length-places 48 c.self.inside.cells.items)

lists : (c : After-remove-2) → IsMerged (zone_of c.self.inside) c.args.at c.remove-2.new.self.items c.remove.new.self.items
lists c =
    let read = neighbours_read (zone_of c.self.inside) c.args.self.now _ c.args.at c.index-first.result.now c.index-second.result.now c.self.view_is c.self.inside.cells.ok.0 c.requires (λ e. c.if-len-at.false (c.len.ensures ∙ e)) c.index-first.ensures c.index-second.ensures in
    let cells : c.remove.new.self.items ≡ remove (set c.self.inside.cells.items c.args.at c.free.result) (c.args.at + 1) = c.remove.ensures.items in
    let places : c.remove-2.new.self.items ≡ remove c.self.inside.places.items (c.args.at + 1) = c.remove-2.ensures.items in
    let size : c.free.result ≡ free_block (c.index-first.result.now.size + c.index-second.result.now.size) = rw (c.size.ensures, c.size-2.ensures) at c.free.ensures in
    merged (zone_of c.self.inside) c.args.at _ _ c.free.result _ _ _ read (sym c.is_used.ensures ∙ c.if-is_used.false) (sym c.is_used-else-is_used.ensures ∙ c.if-is_used-2.false) size c.self.invariant.places c.self.invariant.small cells places

pub invariant_of-self : goal.invariant_of-self
invariant_of-self c =
    let l = lists (goal.at.invariant_of-self c).After-remove-2 in
    record { places = l.places_are; small = l.small; rover = omega (arith, l.fewer, c.self.invariant.rover) }

pub invariant_of-self-else-at-self : goal.invariant_of-self-else-at-self
invariant_of-self-else-at-self c =
    let l = lists (goal.at.invariant_of-self-else-at-self c).After-remove-2 in
    record { places = l.places_are; small = l.small; rover = omega (arith, l.inside, c.if-at-self.false) }

pub returns-then-at-self : goal.returns-then-at-self
returns-then-at-self c = rw (← c.self.view_is) (sym (joined_rover_behind (lists (goal.at.returns-then-at-self c).After-remove-2) c.if-at-self.true))

pub returns-else-at-self : goal.returns-else-at-self
returns-else-at-self c = rw (← c.self.view_is) (sym (joined_rover_before (lists (goal.at.returns-else-at-self c).After-remove-2) c.if-at-self.false))
