use Rattle.std.proofs.Common.{refl, ◌≡◌, ◌∙◌, ℕ, List, Ok, Some, ap, sym, subst}
use Rattle.std.specs.Prelude.{IsSome}
use Rattle.mem_model.specs.Memory.{Memory}
use Rattle.mem_model.specs.Cache.{peek_bytes}
use Rattle.mem_model.specs.Hunk.{over, temp_bytes}
use Rattle.mem_model.specs.Images.{front_of, with_cache_bytes, with_user_bytes}
use Rattle.mem_model.specs.Laid.{Laid}
use Rattle.mem_model.specs.PlainState.{state_of}
use Rattle.mem_model.proofs.Building.{build_cache_gives, cache_written, front_small, newest_read, some_image, some_peeked, there_is}
use Rattle.mem_model.proofs.CacheBytes.{Laid-with_cache_bytes}
use Rattle.mem_model.proofs.plain.PlainStoreStore.build_cache.Given.{Over}
use Rattle.mem_model.proofs.plain.PlainStoreStore.build_cache.Goals as goal
use Rattle.mem_model.proofs.plain.PlainStoreStore.build_cache.Goals.{After-bytes_mut}

pub newest_front-source-requires : goal.newest_front-source-requires
newest_front-source-requires g c = rw c.deref.ensures.value (newest_read (state_of c.self.inside) _ c.args.len c.self.view_is c.requires.source).0

pub bytes_mut-requires : goal.bytes_mut-requires
bytes_mut-requires g c =
    let some : IsSome (peek_bytes c.args.self.now.cache c.args.user) = some_image _ _ c.requires.image in
    some_peeked c.self.inside.cache c.args.user (subst (λ (m : Memory). IsSome (peek_bytes m.cache c.args.user)) (sym c.self.view_is) some)

-- the bytes that are read
source : (g : Over) (c : After-bytes_mut g) → front_of (temp_bytes c.args.self.now) c.args.len ≡ c.newest_front-source.result.now
source g c = (newest_read (state_of c.self.inside) _ c.args.len c.self.view_is c.requires.source).1 ∙ rw (c.newest_front-source.ensures, c.deref.ensures.value) refl

-- the bytes that are written
target : (g : Over) (c : After-bytes_mut g) → peek_bytes c.args.self.now.cache c.args.user ≡ Some c.bytes_mut.result.now
target g c = ap (λ (m : Memory). peek_bytes m.cache c.args.user) (sym c.self.view_is) ∙ c.bytes_mut.ensures.shows

pub build_front-requires-clause-small : goal.build_front-requires-clause-small
build_front-requires-clause-small g c = rw (← source g c) (front_small c.args.self.now c.args.len (subst Laid c.self.view_is c.self.invariant.laid))

pub build_front-requires-clause-image : goal.build_front-requires-clause-image
build_front-requires-clause-image g c = rw (source g c, target g c) at c.requires.image

image : (g : Over) (c : After-bytes_mut g) → (w : List ℕ) × (g.B.Builder.image_of c.args.builder.now c.newest_front-source.result.now ≡ Ok w)
image g c = there_is _ _ (build_front-requires-clause-image g c)

written : (g : Over) (c : After-bytes_mut g) (w new : List ℕ) → new ≡ over c.bytes_mut.result.now w →
    with_cache_bytes (state_of c.self.inside) c.args.user w ≡ record (state_of c.self.inside) { cache = with_user_bytes c.self.inside.cache c.args.user new }
written g c w new e = cache_written (state_of c.self.inside) c.args.user c.bytes_mut.result.now w new c.bytes_mut.ensures.shows e

pub invariant_of-self : goal.invariant_of-self
invariant_of-self g c =
    let d = (goal.at.invariant_of-self g c).After-bytes_mut in
    let w = image g d in
    record {
      laid = subst Laid (written g d w.0 c.build_front.new.bytes (rw w.1 at c.build_front.ensures)) (Laid-with_cache_bytes (state_of c.self.inside) c.args.user w.0 c.self.invariant.laid);
      low_used = c.self.invariant.low_used;
      high_used = c.self.invariant.high_used;
      low_ends = c.self.invariant.low_ends;
      high_ends = c.self.invariant.high_ends;
    }

pub returns-clause-gives : goal.returns-clause-gives
returns-clause-gives g c =
    let d = (goal.at.returns-clause-gives g c).After-bytes_mut in
    let w = image g d in
    build_cache_gives c.args.self.now _ c.args.user c.args.len (g.B.Builder.image_of c.args.builder.now) c.newest_front-source.result.now w.0 (source g d) w.1
    (ap (λ m. with_cache_bytes m c.args.user w.0) (sym c.self.view_is) ∙ written g d w.0 c.build_front.new.bytes (rw w.1 at c.build_front.ensures))

pub returns-clause-laid : goal.returns-clause-laid
returns-clause-laid g c = (invariant_of-self g c).laid
