use Rattle.std.proofs.Common.{◌≡◌, ℕ, Some, ap, sym, arith, refl, List}
use Rattle.std.specs.Prelude.{IsSome, slice_get}
use Rattle.std.proofs.lemmas.Option.{slice_get_read}
use Rattle.mem_model.specs.Blocks.{HunkBlock}
use Rattle.mem_model.specs.Hunk.{temp_bytes}
use Rattle.mem_model.specs.Plain.{IsLast}
use Rattle.mem_model.specs.PlainState.{state_of}
use Rattle.mem_model.proofs.Ends.{ends-with_last}
use Rattle.mem_model.proofs.Newest.{mark_of, some-marked, temp_bytes-some, with_temp_bytes-some, Laid-with_last, size_of-with_last}
use Rattle.mem_model.proofs.plain.PlainStoreStore.temp_bytes_mut.Goals as goal
use Rattle.mem_model.proofs.plain.PlainStoreStore.temp_bytes_mut.Goals.{After-deref, After-bytes_mut}

mark : (c : After-deref) → (n : ℕ) × (c.self.inside.temp ≡ Some n)
mark c = mark_of (state_of c.self.inside) (let there : IsSome (temp_bytes c.args.self.now) = c.requires in rw (← c.self.view_is) at there)

pub last_of-last-requires : goal.last_of-last-requires
last_of-last-requires c = rw c.deref.ensures.value (some-marked c.self.inside.high.items (mark c).0 (rw (mark c).1 at c.self.invariant.laid.temp))

at_lent : (c : After-bytes_mut) → IsLast c.self.inside.high.items c.last_of-last.result
at_lent c = rw c.deref.ensures.value at c.last_of-last.ensures

read_lent : (c : After-bytes_mut) → slice_get c.self.inside.high.items c.last_of-last.result ≡ Some c.index_mut.result.now
read_lent c =
    slice_get_read c.self.inside.high.items _ c.last_of-last.result c.index_mut.result.now c.self.inside.high.ok.0 (omega (arith, (at_lent c).inside, c.self.inside.high.ok.0)) c.index_mut.ensures.value

pub invariant_of-self-lent : goal.invariant_of-self-lent
invariant_of-self-lent c = λ w.
    let written = (at_lent c).writes c.index_mut.result.now w (read_lent c) in
    record {
      laid = rw (← written) (Laid-with_last (state_of c.self.inside) w c.self.invariant.laid);
      low_used = c.self.invariant.low_used;
      high_used = rw (← written, size_of-with_last c.self.inside.high.items w) c.self.invariant.high_used;
      low_ends = c.self.invariant.low_ends;
      high_ends = rw (← written, ends-with_last 0 c.self.inside.high.items w) c.self.invariant.high_ends;
    }

pub returns : goal.returns
returns c =
    let d = (goal.at.returns c).After-bytes_mut in
    let on = mark (goal.at.returns c).After-deref in (
      (refl, λ w. rw (← c.self.view_is, with_temp_bytes-some (state_of c.self.inside) on.0 w on.1) (ap (λ (high : List HunkBlock). record (state_of c.self.inside) { high = high }) (sym ((at_lent d).writes c.index_mut.result.now w (read_lent d))))),
      record {
        writes_back = tt;
        shows = rw (← c.self.view_is, temp_bytes-some (state_of c.self.inside) on.0 on.1, c.bytes_mut.ensures.shows) ((at_lent d).reads c.index_mut.result.now (read_lent d));
        laid = rw (← c.self.view_is) c.self.invariant.laid;
      },
    )
