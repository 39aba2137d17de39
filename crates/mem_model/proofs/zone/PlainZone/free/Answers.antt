use Rattle.std.proofs.Common.{◌≡◌, ◌∙◌, ◌<◌, Some, length, refl, ap, sym, arith, length-set}
use Rattle.std.specs.Prelude.{slice_get}
use Rattle.std.proofs.lemmas.Option.{slice_get_read}
use Rattle.mem_model.specs.Memory.{Zone}
use Rattle.mem_model.specs.Zone.{free_block}
use Rattle.mem_model.specs.ZoneState.{zone_of}
use Rattle.mem_model.proofs.ZonePlaces.{places-set, size_of_zone-set}
use Rattle.mem_model.proofs.ZoneEdits.{with_block_at, joined_inside, with_free-first, with_free-later}
use Rattle.mem_model.proofs.zone.PlainZone.free.Goals as goal
use Rattle.mem_model.proofs.zone.PlainZone.free.Goals.{After-free}

-- the block as it was
read : (c : After-free) → slice_get c.self.inside.cells.items c.args.at ≡ Some c.index.result.now
read c =
    slice_get_read c.self.inside.cells.items _ c.args.at c.index.result.now c.self.inside.cells.ok.0 (omega (arith, c.requires, c.self.inside.cells.ok.0, ap (λ (z : Zone). length z.blocks) c.self.view_is)) c.index.ensures

freed : (c : After-free) → c.free.result ≡ free_block c.index.result.now.size
freed c = c.free.ensures ∙ ap free_block c.size-size.ensures

pub invariant_of-self : goal.invariant_of-self
invariant_of-self c =
    let d = (goal.at.invariant_of-self c).After-free in
    let cells = c.self.inside.cells.items in
    let same : c.free.result.size ≡ c.index.result.now.size = rw (freed d) refl in
    record {
      places = rw (places-set 48 cells c.args.at c.index.result.now c.free.result (read d) same) c.self.invariant.places;
      small = rw (size_of_zone-set cells c.args.at c.index.result.now c.free.result (read d) same) c.self.invariant.small;
      rover = rw (length-set cells c.args.at c.free.result) c.self.invariant.rover;
    }

pub join-requires-then-at-gt0 : goal.join-requires-then-at-gt0
join-requires-then-at-gt0 c =
    let z = with_block_at (zone_of c.self.inside) c.args.at c.free.result in
    let inside : c.args.at < length z.blocks = omega (arith, c.requires, length-set c.self.inside.cells.items c.args.at c.free.result, ap (λ (y : Zone). length y.blocks) c.self.view_is) in
    rw c.join.ensures (omega (arith, joined_inside z c.args.at inside))

pub returns-then-at-gt0 : goal.returns-then-at-gt0
returns-then-at-gt0 c =
    let d = (goal.at.returns-then-at-gt0 c).After-free in
    rw (c.join-then-at-gt0.ensures, c.join.ensures, ← c.self.view_is) (sym (with_free-later (zone_of c.self.inside) c.args.at c.index.result.now c.free.result c.if-at-gt0.true (read d) (freed d)))

pub returns-else-at-gt0 : goal.returns-else-at-gt0
returns-else-at-gt0 c =
    let d = (goal.at.returns-else-at-gt0 c).After-free in
    rw (c.join.ensures, ← c.self.view_is) (sym (with_free-first (zone_of c.self.inside) c.args.at c.index.result.now c.free.result (omega (arith, c.if-at-gt0.false)) (read d) (freed d)))
