use Rattle.std.proofs.Common.{◌≡◌, ◌+◌, ◌-◌, ◌<◌, ◌≤◌, ◌∙◌, set, length, ap, sym, refl, arith, length-set}
use Rattle.std.specs.List.{insert}
use Rattle.mem_model.specs.Memory.{Zone}
use Rattle.mem_model.specs.Zone.{used_block, free_block}
use Rattle.mem_model.specs.ZoneState.{zone_of}
use Rattle.mem_model.proofs.ZonePlaces.{length-places, places-set, size_of_zone-set}
use Rattle.mem_model.proofs.ZoneEdits.{IsTaking, taking_read, with_taken-whole, IsCutOff, cut_off}
use Rattle.mem_model.proofs.zone.PlainZone.take.Goals as goal
use Rattle.mem_model.proofs.zone.PlainZone.take.Goals.{After-size-size, After-insert_reserved-2}

pub index-place-requires : goal.index-place-requires
index-place-requires c =
    omega (arith, c.requires.inside, c.self.inside.places.ok.0, ap (λ (z : Zone). length z.blocks) c.self.view_is, ap length c.self.invariant.places, length-places 48 c.self.inside.cells.items)

-- the block as it is read, and its place
taking : (c : After-size-size) → IsTaking (zone_of c.self.inside) c.args.at c.args.need c.index.result.now c.index-place.result.now
taking c =
    let s = c.self.inside in
    taking_read (zone_of s) c.args.self.now s.places.items c.args.at c.args.need c.index-place.result.now _ _ c.index.result.now c.self.view_is c.requires.inside c.requires.fits s.cells.ok.0 s.places.ok.0 c.self.invariant.places c.self.invariant.small c.index-place.ensures c.index.ensures

pub overflow_add-payload : goal.overflow_add-payload
overflow_add-payload c = omega (arith, (taking (goal.at.overflow_add-payload c).After-size-size).ends)

pub overflow_sub-rest : goal.overflow_sub-rest
overflow_sub-rest c = omega (arith, (taking (goal.at.overflow_sub-rest c).After-size-size).large, c.size-size.ensures)

pub used-requires : goal.used-requires
used-requires c = omega (arith, (taking (goal.at.used-requires c).After-size-size).large, c.size-size.ensures, c.requires.header)

pub invariant_of-self : goal.invariant_of-self
invariant_of-self c =
    let t = taking (goal.at.invariant_of-self c).After-size-size in
    let cells = c.self.inside.cells.items in
    let same : c.in_ok-self-inside.field-0.size ≡ c.index.result.now.size = rw (c.in_ok-self-inside.ensures, c.size-size.ensures) refl in
    record {
      places = rw (places-set 48 cells c.args.at c.index.result.now c.in_ok-self-inside.field-0 t.there same) c.self.invariant.places;
      small = rw (size_of_zone-set cells c.args.at c.index.result.now c.in_ok-self-inside.field-0 t.there same) c.self.invariant.small;
      rover = rw (length-set cells c.args.at c.in_ok-self-inside.field-0) (omega (arith, t.inside));
    }

pub returns-then-rest-le-KEPT_REST-clause-taken : goal.returns-then-rest-le-KEPT_REST-clause-taken
returns-then-rest-le-KEPT_REST-clause-taken c =
    let t = taking (goal.at.returns-then-rest-le-KEPT_REST-clause-taken c).After-size-size in
    let rest : c.index.result.now.size - c.args.need ≤ 64 = omega (arith, c.if-rest-le-KEPT_REST.true, c.size-size.ensures) in
    rw (← c.self.view_is) (sym (with_taken-whole (zone_of c.self.inside) c.args.at c.args.need c.index.result.now c.in_ok-self-inside.field-0 t.there rest (c.in_ok-self-inside.ensures ∙ ap used_block c.size-size.ensures)))

pub returns-then-rest-le-KEPT_REST-clause-place : goal.returns-then-rest-le-KEPT_REST-clause-place
returns-then-rest-le-KEPT_REST-clause-place c =
    rw (← c.self.view_is) (ap (λ n. n + 24) (taking (goal.at.returns-then-rest-le-KEPT_REST-clause-place c).After-size-size).place_is)

pub overflow_add-place : goal.overflow_add-place
overflow_add-place c = let t = taking (goal.at.overflow_add-place c).After-size-size in omega (arith, t.ends, t.large)

pub insert_reserved-requires-2-clause-inside : goal.insert_reserved-requires-2-clause-inside
insert_reserved-requires-2-clause-inside c =
    omega (arith, c.in_ok-reserve-2.ensures.len, c.self.inside.places.ok.0, ap length c.self.invariant.places, length-places 48 c.self.inside.cells.items, (taking (goal.at.insert_reserved-requires-2-clause-inside c).After-size-size).inside)

cut : (c : After-insert_reserved-2) → IsTaking (zone_of c.self.inside) c.args.at c.args.need c.index.result.now c.index-place.result.now → IsCutOff (zone_of c.self.inside) c.args.at c.args.need c.insert_reserved-2.new.list.items c.insert_reserved.new.list.items
cut c t =
    let cells : c.insert_reserved.new.list.items ≡ insert (set c.reserve.new.self.items c.args.at c.in_ok-used.used) (c.args.at + 1) c.free.result = c.insert_reserved.ensures in
    let places : c.insert_reserved-2.new.list.items ≡ insert c.reserve-2.new.self.items (c.args.at + 1) (c.index-place.result.now + c.args.need) = c.insert_reserved-2.ensures in
    let rest : 64 < c.index.result.now.size - c.args.need = omega (arith, c.if-rest-le-KEPT_REST.false, c.size-size.ensures) in
    cut_off (zone_of c.self.inside) c.args.at c.args.need c.index-place.result.now c.index.result.now c.in_ok-used.used c.free.result c.self.inside.places.items _ _
    t rest c.in_ok-used.ensures (c.free.ensures ∙ ap (λ n. free_block (n - c.args.need)) c.size-size.ensures) c.self.invariant.places c.self.invariant.small (rw c.in_ok-reserve.ensures.items at cells) (rw c.in_ok-reserve-2.ensures.items at places)

pub invariant_of-self-2 : goal.invariant_of-self-2
invariant_of-self-2 c =
    let d = goal.at.invariant_of-self-2 c in
    let t = taking d.After-size-size in
    let k = cut d.After-insert_reserved-2 t in
    record { places = k.places_are; small = k.small; rover = omega (arith, k.more, t.inside) }

pub returns-clause-taken : goal.returns-clause-taken
returns-clause-taken c =
    let d = goal.at.returns-clause-taken c in
    rw (← c.self.view_is) (sym (cut d.After-insert_reserved-2 (taking d.After-size-size)).taken_is)

pub returns-clause-place : goal.returns-clause-place
returns-clause-place c = rw (← c.self.view_is) (ap (λ n. n + 24) (taking (goal.at.returns-clause-place c).After-size-size).place_is)
