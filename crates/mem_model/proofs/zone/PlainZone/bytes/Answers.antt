use Rattle.std.proofs.Common.{arith}
use Rattle.std.proofs.lemmas.Option.{slice_get_read}
use Rattle.mem_model.specs.Plain.{IsUsedAt}
use Rattle.mem_model.proofs.zone.PlainZone.bytes.Goals as goal

pub returns : goal.returns
returns c =
    let s = c.self.inside in
    let at : IsUsedAt s.cells.items c.args.place c.used_position.result = rw (← c.self.view_is) at c.used_position.ensures in
    let read = slice_get_read s.cells.items _ c.used_position.result c.index.result.now s.cells.ok.0 (omega (arith, at.inside, s.cells.ok.0)) c.index.ensures in
    rw (← c.self.view_is, c.bytes.ensures) (at.reads c.index.result.now read)
