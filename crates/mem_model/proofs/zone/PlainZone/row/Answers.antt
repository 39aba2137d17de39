use Rattle.std.proofs.Common.{◌<◌, ap, sym, length, arith}
use Rattle.std.proofs.lemmas.Option.{slice_get_read}
use Rattle.mem_model.proofs.ZonePlaces.{length-places, zone_row_at, no_zone_row}
use Rattle.mem_model.proofs.zone.PlainZone.row.Goals as goal

pub returns-then-at-len : goal.returns-then-at-len
returns-then-at-len c = rw (← c.self.view_is) (sym (no_zone_row 48 c.self.inside.cells.items c.args.at (omega (arith, c.if-at-len.true, c.len.ensures, c.self.inside.cells.ok.0))))

pub index-requires-2 : goal.index-requires-2
index-requires-2 c =
    omega (arith, c.if-at-len.false, c.len.ensures, c.self.inside.cells.ok.0, c.self.inside.places.ok.0, ap length c.self.invariant.places, length-places 48 c.self.inside.cells.items)

pub returns : goal.returns
returns c =
    let s = c.self.inside in
    let inside : c.args.at < s.cells.len = omega (arith, c.if-at-len.false, c.len.ensures) in
    let placed : c.args.at < s.places.len = omega (arith, inside, s.cells.ok.0, s.places.ok.0, ap length c.self.invariant.places, length-places 48 s.cells.items) in
    let cell = slice_get_read s.cells.items _ c.args.at c.index.result.now s.cells.ok.0 inside c.index.ensures in
    let place = slice_get_read s.places.items _ c.args.at c.index-2.result.now s.places.ok.0 placed c.index-2.ensures in
    rw (← c.self.view_is, c.row.ensures) (sym (zone_row_at 48 s.cells.items c.args.at c.index-2.result.now c.index.result.now cell (rw c.self.invariant.places at place)))
