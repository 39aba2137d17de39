use Rattle.std.proofs.Common.{◌<◌, arith}
use Rattle.std.specs.Prelude.{IsSome}
use Rattle.std.proofs.lemmas.Option.{slice_get_read}
use Rattle.mem_model.specs.Hunk.{high_bytes}
use Rattle.mem_model.specs.Plain.{IsHighAt}
use Rattle.mem_model.proofs.plain.PlainStoreStore.high_bytes.Goals as goal

pub high_position-requires : goal.high_position-requires
unfolding high_bytes
high_position-requires c =
    let here : IsSome (high_bytes c.args.self.now c.args.place.0) = c.requires in
    here

pub returns-clause-shows : goal.returns-clause-shows
unfolding high_bytes
returns-clause-shows c =
    let here : IsHighAt c.self.inside.size c.self.inside.high.items c.args.place.0 c.high_position.result = rw (← c.self.view_is) at c.high_position.ensures in
    let inside : c.high_position.result < c.self.inside.high.len = omega (arith, here.inside, c.self.inside.high.ok.0) in
    let read = slice_get_read c.self.inside.high.items _ c.high_position.result c.index.result.now c.self.inside.high.ok.0 inside c.index.ensures in
    rw (← c.self.view_is, c.bytes.ensures) (here.reads c.index.result.now read)
