use Rattle.std.proofs.Common.{◌<◌, ap, length, arith}
use Rattle.std.proofs.lemmas.Option.{slice_get_read}
use Rattle.mem_model.proofs.ZonePlaces.{length-places, rover_at, rover_on_cap}
use Rattle.mem_model.proofs.zone.PlainZone.rover_place.Goals as goal

pub returns-then-self-len : goal.returns-then-self-len
returns-then-self-len c =
    let s = c.self.inside in
    let inside : s.rover < s.places.len = omega (arith, c.if-self-len.true, c.len.ensures) in
    let read = slice_get_read s.places.items _ s.rover c.index.result.now s.places.ok.0 inside c.index.ensures in
    let within : s.rover < length s.cells.items = omega (arith, inside, s.places.ok.0, ap length c.self.invariant.places, length-places 48 s.cells.items) in
    rw (← c.self.view_is) (rover_at s.cells.items s.rover c.index.result.now within (rw c.self.invariant.places at read))

pub returns-else-self-len : goal.returns-else-self-len
returns-else-self-len c =
    let s = c.self.inside in
    rw (← c.self.view_is) (rover_on_cap s.cells.items s.rover (omega (arith, c.if-self-len.false, c.len.ensures, s.places.ok.0, ap length c.self.invariant.places, length-places 48 s.cells.items)))
