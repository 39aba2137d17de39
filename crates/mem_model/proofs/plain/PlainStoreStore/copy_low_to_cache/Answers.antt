use Rattle.std.proofs.Common.{◌≡◌, ◌∙◌, Some, take, ap, sym, subst, arith}
use Rattle.std.specs.Prelude.{IsSome}
use Rattle.std.proofs.lemmas.List.{length-take, length-take-le}
use Rattle.std.proofs.lemmas.Option.{slice_get_read}
use Rattle.mem_model.specs.Memory.{Memory}
use Rattle.mem_model.specs.Cache.{peek_bytes}
use Rattle.mem_model.specs.Hunk.{low_bytes}
use Rattle.mem_model.specs.Images.{with_cache_bytes, with_user_bytes}
use Rattle.mem_model.specs.Laid.{Laid}
use Rattle.mem_model.specs.Plain.{IsAt}
use Rattle.mem_model.specs.PlainState.{state_of}
use Rattle.mem_model.proofs.Building.{cache_written, copy_gives, low_found, some_peeked}
use Rattle.mem_model.proofs.Laws.{has_fits, some_has}
use Rattle.mem_model.proofs.CacheBytes.{Laid-with_cache_bytes}
use Rattle.mem_model.proofs.plain.PlainStoreStore.copy_low_to_cache.Goals as goal
use Rattle.mem_model.proofs.plain.PlainStoreStore.copy_low_to_cache.Goals.{After-bytes, After-copy_front}

pub low_position-at-requires : goal.low_position-at-requires
unfolding low_bytes
low_position-at-requires c = some_has _ c.args.size c.requires.low

pub bytes_mut-requires : goal.bytes_mut-requires
bytes_mut-requires c =
    let some : IsSome (peek_bytes c.args.self.now.cache c.args.user) = some_has _ c.args.size c.requires.user in
    some_peeked c.self.inside.cache c.args.user (subst (λ (m : Memory). IsSome (peek_bytes m.cache c.args.user)) (sym c.self.view_is) some)

-- the bytes that are read
source : (c : After-bytes) → low_bytes c.args.self.now c.args.place.0 ≡ Some c.bytes.result.now
source c =
    let s = c.self.inside in
    let is : IsAt s.low.items c.args.place.0 c.low_position-at.result = rw (← c.self.view_is) at c.low_position-at.ensures in
    let read = slice_get_read s.low.items _ c.low_position-at.result c.index.result.now s.low.ok.0 (omega (arith, is.inside, s.low.ok.0)) c.index.ensures in
    rw (← c.self.view_is, c.bytes.ensures) (low_found (state_of s) c.args.place.0 c.low_position-at.result c.index.result.now is read)

-- the bytes that are written
target : (c : After-bytes) → peek_bytes c.args.self.now.cache c.args.user ≡ Some c.bytes_mut.result.now
target c = ap (λ (m : Memory). peek_bytes m.cache c.args.user) (sym c.self.view_is) ∙ c.bytes_mut.ensures.shows

pub slice_bounds-copy_front-end : goal.slice_bounds-copy_front-end
slice_bounds-copy_front-end c =
    sym (length-take-le c.args.size c.bytes.result.now (has_fits (low_bytes c.args.self.now c.args.place.0) c.args.size c.bytes.result.now c.requires.low (source c)))

pub copy_front-requires : goal.copy_front-requires
copy_front-requires c =
    omega (arith, length-take c.args.size c.bytes.result.now, has_fits (peek_bytes c.args.self.now.cache c.args.user) c.args.size c.bytes_mut.result.now c.requires.user (target c))

written : (c : After-copy_front) → with_cache_bytes (state_of c.self.inside) c.args.user (take c.args.size c.bytes.result.now) ≡ record (state_of c.self.inside) { cache = with_user_bytes c.self.inside.cache c.args.user c.copy_front.new.bytes }
written c = cache_written (state_of c.self.inside) c.args.user c.bytes_mut.result.now (take c.args.size c.bytes.result.now) c.copy_front.new.bytes c.bytes_mut.ensures.shows c.copy_front.ensures

pub invariant_of-self : goal.invariant_of-self
invariant_of-self c = record {
  laid = subst Laid (written (goal.at.invariant_of-self c).After-copy_front) (Laid-with_cache_bytes (state_of c.self.inside) c.args.user (take c.args.size c.bytes.result.now) c.self.invariant.laid);
  low_used = c.self.invariant.low_used;
  high_used = c.self.invariant.high_used;
  low_ends = c.self.invariant.low_ends;
  high_ends = c.self.invariant.high_ends;
}

pub returns-clause-gives : goal.returns-clause-gives
returns-clause-gives c =
    copy_gives c.args.self.now _ c.args.place.0 c.args.user c.args.size c.bytes.result.now (source (goal.at.returns-clause-gives c).After-bytes)
    (ap (λ m. with_cache_bytes m c.args.user (take c.args.size c.bytes.result.now)) (sym c.self.view_is) ∙ written (goal.at.returns-clause-gives c).After-copy_front)

pub returns-clause-laid : goal.returns-clause-laid
returns-clause-laid c = (invariant_of-self c).laid
