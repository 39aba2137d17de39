use Rattle.std.proofs.Common.{refl}
use Rattle.std.specs.Prelude.{IsSome}
use Rattle.mem_model.specs.PlainState.{state_of}
use Rattle.mem_model.specs.Zone.{zone_bytes, with_zone_bytes}
use Rattle.mem_model.proofs.ZoneLaying.{Laid-with_zone_bytes}
use Rattle.mem_model.proofs.plain.PlainStoreStore.zone_bytes_mut.Goals as goal

pub bytes_mut-requires-clause-there : goal.bytes_mut-requires-clause-there
unfolding zone_bytes
bytes_mut-requires-clause-there c =
    let here : IsSome (zone_bytes c.args.self.now c.args.place.0) = c.requires in
    rw (← c.self.view_is) at here

pub invariant_of-self-lent : goal.invariant_of-self-lent
unfolding with_zone_bytes
invariant_of-self-lent c = λ w. record {
  laid = Laid-with_zone_bytes (state_of c.self.inside) c.args.place.0 w c.self.invariant.laid;
  low_used = c.self.invariant.low_used;
  high_used = c.self.invariant.high_used;
  low_ends = c.self.invariant.low_ends;
  high_ends = c.self.invariant.high_ends;
}

pub returns : goal.returns
unfolding zone_bytes with_zone_bytes
returns c =
    ((refl, λ w. rw (← c.self.view_is) refl), record { writes_back = tt; shows = rw (← c.self.view_is) c.bytes_mut.ensures.shows; laid = rw (← c.self.view_is) c.self.invariant.laid })
