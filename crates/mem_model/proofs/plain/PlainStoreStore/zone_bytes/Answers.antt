use Rattle.std.specs.Prelude.{IsSome}
use Rattle.mem_model.specs.Zone.{zone_bytes}
use Rattle.mem_model.proofs.plain.PlainStoreStore.zone_bytes.Goals as goal

pub bytes-requires-clause-there : goal.bytes-requires-clause-there
unfolding zone_bytes
bytes-requires-clause-there c =
    let here : IsSome (zone_bytes c.args.self.now c.args.place.0) = c.requires in
    rw (← c.self.view_is) at here

pub returns-clause-shows : goal.returns-clause-shows
unfolding zone_bytes
returns-clause-shows c = rw (← c.self.view_is) c.bytes.ensures
