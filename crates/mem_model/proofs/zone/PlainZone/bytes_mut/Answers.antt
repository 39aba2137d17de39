use Rattle.std.proofs.Common.{◌≡◌, Some, List, ap, sym, refl, length-set, arith}
use Rattle.std.specs.Prelude.{slice_get}
use Rattle.std.proofs.lemmas.Option.{slice_get_read}
use Rattle.mem_model.specs.Blocks.{ZoneBlock}
use Rattle.mem_model.specs.Zone.{with_payload}
use Rattle.mem_model.specs.ZoneState.{zone_of}
use Rattle.mem_model.proofs.ZonePlaces.{places-set, size_of_zone-set}
use Rattle.mem_model.proofs.zone.PlainZone.bytes_mut.Goals as goal
use Rattle.mem_model.proofs.zone.PlainZone.bytes_mut.Goals.{After-bytes_mut}

read_lent : (c : After-bytes_mut) → slice_get c.self.inside.cells.items c.used_position-at.result ≡ Some c.index_mut.result.now
read_lent c =
    slice_get_read c.self.inside.cells.items _ c.used_position-at.result c.index_mut.result.now c.self.inside.cells.ok.0 (omega (arith, c.used_position-at.ensures.inside, c.self.inside.cells.ok.0)) c.index_mut.ensures.value

pub invariant_of-self-lent : goal.invariant_of-self-lent
invariant_of-self-lent c = λ w.
    let cells = c.self.inside.cells.items in
    let b = c.index_mut.result.now in
    record {
      places = rw (places-set 48 cells c.used_position-at.result b (with_payload b w) (read_lent c) refl) c.self.invariant.places;
      small = rw (size_of_zone-set cells c.used_position-at.result b (with_payload b w) (read_lent c) refl) c.self.invariant.small;
      rover = rw (length-set cells c.used_position-at.result (with_payload b w)) c.self.invariant.rover;
    }

pub returns : goal.returns
returns c =
    let d = (goal.at.returns c).After-bytes_mut in
    let b = c.index_mut.result.now in (
      (refl, λ w. rw (← c.self.view_is) (ap (λ (blocks : List ZoneBlock). record (zone_of c.self.inside) { blocks = blocks }) (sym (c.used_position-at.ensures.writes b w (read_lent d))))),
      record { writes_back = tt; shows = rw (← c.self.view_is, c.bytes_mut.ensures.shows) (c.used_position-at.ensures.reads b (read_lent d)) },
    )
