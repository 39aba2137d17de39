use Rattle.std.proofs.Common.{◌≡◌, Some, ap, sym, arith, List, refl}
use Rattle.std.specs.Prelude.{IsSome, slice_get}
use Rattle.std.proofs.lemmas.Option.{slice_get_read}
use Rattle.mem_model.specs.Blocks.{HunkBlock}
use Rattle.mem_model.specs.Plain.{IsHighAt}
use Rattle.mem_model.specs.PlainState.{state_of}
use Rattle.mem_model.specs.Hunk.{high_bytes, with_high_bytes}
use Rattle.mem_model.proofs.HighBytes.{Laid-with_high_bytes, ends-with_bytes_down, size_of-with_bytes_down}
use Rattle.mem_model.proofs.plain.PlainStoreStore.high_bytes_mut.Goals as goal
use Rattle.mem_model.proofs.plain.PlainStoreStore.high_bytes_mut.Goals.{After-bytes_mut}

pub high_position-at-requires : goal.high_position-at-requires
unfolding high_bytes
high_position-at-requires c =
    let here : IsSome (high_bytes c.args.self.now c.args.place.0) = c.requires in
    rw (← c.self.view_is) at here

-- the position found is that of the block that is lent
at_lent : (c : After-bytes_mut) → IsHighAt c.self.inside.size c.self.inside.high.items c.args.place.0 c.high_position-at.result
at_lent c = c.high_position-at.ensures

read_lent : (c : After-bytes_mut) → slice_get c.self.inside.high.items c.high_position-at.result ≡ Some c.index_mut.result.now
read_lent c =
    slice_get_read c.self.inside.high.items _ c.high_position-at.result c.index_mut.result.now c.self.inside.high.ok.0 (omega (arith, (at_lent c).inside, c.self.inside.high.ok.0)) c.index_mut.ensures.value

pub invariant_of-self-lent : goal.invariant_of-self-lent
unfolding with_high_bytes
invariant_of-self-lent c = λ w.
    let written = (at_lent c).writes c.index_mut.result.now w (read_lent c) in
    record {
      laid = rw (← written) (Laid-with_high_bytes (state_of c.self.inside) c.args.place.0 w c.self.invariant.laid);
      low_used = c.self.invariant.low_used;
      high_used = rw (← written, size_of-with_bytes_down c.self.inside.size c.self.inside.high.items c.args.place.0 w) c.self.invariant.high_used;
      low_ends = c.self.invariant.low_ends;
      high_ends = rw (← written, ends-with_bytes_down 0 c.self.inside.size c.self.inside.high.items c.args.place.0 w) c.self.invariant.high_ends;
    }

pub returns : goal.returns
unfolding high_bytes with_high_bytes
returns c =
    let d = (goal.at.returns c).After-bytes_mut in (
      (refl, λ w. rw (← c.self.view_is) (ap (λ (high : List HunkBlock). record (state_of c.self.inside) { high = high }) (sym ((at_lent d).writes c.index_mut.result.now w (read_lent d))))),
      record { writes_back = tt; shows = rw (← c.self.view_is, c.bytes_mut.ensures.shows) ((at_lent d).reads c.index_mut.result.now (read_lent d)); laid = rw (← c.self.view_is) c.self.invariant.laid },
    )
