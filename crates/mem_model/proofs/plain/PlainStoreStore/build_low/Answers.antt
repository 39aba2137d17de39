use Rattle.std.proofs.Common.{refl, ◌≡◌, ◌∙◌, ℕ, List, Ok, Some, ap, sym, subst, arith}
use Rattle.std.specs.Prelude.{slice_get, slice_set}
use Rattle.std.proofs.lemmas.Option.{slice_get_read}
use Rattle.mem_model.specs.Memory.{Memory}
use Rattle.mem_model.specs.Hunk.{low_bytes, over, temp_bytes, with_bytes, with_bytes_above, with_low_bytes}
use Rattle.mem_model.specs.Images.{front_of}
use Rattle.mem_model.specs.Laid.{Laid}
use Rattle.mem_model.specs.Plain.{IsAt}
use Rattle.mem_model.specs.PlainState.{state_of}
use Rattle.mem_model.proofs.Building.{build_low_gives, front_small, low_found, low_written, newest_read, some_image, there_is}
use Rattle.mem_model.proofs.Ends.{ends-with_bytes_above}
use Rattle.mem_model.proofs.Laying.{Laid-with_low_bytes, size_of-with_bytes_above}
use Rattle.mem_model.proofs.plain.PlainStoreStore.build_low.Given.{Over}
use Rattle.mem_model.proofs.plain.PlainStoreStore.build_low.Goals as goal
use Rattle.mem_model.proofs.plain.PlainStoreStore.build_low.Goals.{After-bytes_mut}

pub low_position-at-requires : goal.low_position-at-requires
unfolding low_bytes
low_position-at-requires g c = some_image _ _ c.requires.image

pub newest_front-source-requires : goal.newest_front-source-requires
newest_front-source-requires g c = rw c.deref.ensures.value (newest_read (state_of c.self.inside) _ c.args.len c.self.view_is c.requires.source).0

-- the bytes that are read
source : (g : Over) (c : After-bytes_mut g) → front_of (temp_bytes c.args.self.now) c.args.len ≡ c.newest_front-source.result.now
source g c = (newest_read (state_of c.self.inside) _ c.args.len c.self.view_is c.requires.source).1 ∙ rw (c.newest_front-source.ensures, c.deref.ensures.value) refl

-- the block that is written
at_cell : (g : Over) (c : After-bytes_mut g) → IsAt c.self.inside.low.items c.args.place.0 c.low_position-at.result
at_cell g c = rw (← c.self.view_is) at c.low_position-at.ensures

read_cell : (g : Over) (c : After-bytes_mut g) → slice_get c.self.inside.low.items c.low_position-at.result ≡ Some c.index_mut.result.now
read_cell g c =
    slice_get_read c.self.inside.low.items _ c.low_position-at.result c.index_mut.result.now c.self.inside.low.ok.0 (omega (arith, (at_cell g c).inside, c.self.inside.low.ok.0)) c.index_mut.ensures.value

target : (g : Over) (c : After-bytes_mut g) → low_bytes c.args.self.now c.args.place.0 ≡ Some c.bytes_mut.result.now
target g c =
    rw (← c.self.view_is, c.bytes_mut.ensures.shows) (low_found (state_of c.self.inside) c.args.place.0 c.low_position-at.result c.index_mut.result.now (at_cell g c) (read_cell g c))

pub build_front-requires-clause-small : goal.build_front-requires-clause-small
build_front-requires-clause-small g c = rw (← source g c) (front_small c.args.self.now c.args.len (subst Laid c.self.view_is c.self.invariant.laid))

pub build_front-requires-clause-image : goal.build_front-requires-clause-image
build_front-requires-clause-image g c = rw (source g c, target g c) at c.requires.image

image : (g : Over) (c : After-bytes_mut g) → (w : List ℕ) × (g.B.Builder.image_of c.args.builder.now c.newest_front-source.result.now ≡ Ok w)
image g c = there_is _ _ (build_front-requires-clause-image g c)

written : (g : Over) (c : After-bytes_mut g) (w new : List ℕ) → new ≡ over c.bytes_mut.result.now w →
    with_low_bytes (state_of c.self.inside) c.args.place.0 w ≡ record (state_of c.self.inside) { low = slice_set c.self.inside.low.items c.low_position-at.result (with_bytes c.index_mut.result.now new) }
written g c w new e = low_written (state_of c.self.inside) c.args.place.0 c.low_position-at.result c.index_mut.result.now w new (at_cell g c) (read_cell g c) (rw c.bytes_mut.ensures.shows at e)

pub invariant_of-self : goal.invariant_of-self
unfolding with_low_bytes
invariant_of-self g c =
    let d = (goal.at.invariant_of-self g c).After-bytes_mut in
    let w = image g d in
    let new : c.build_front.new.bytes ≡ over c.bytes_mut.result.now w.0 = rw w.1 at c.build_front.ensures in
    let is = written g d w.0 c.build_front.new.bytes new in
    let low : with_bytes_above c.self.inside.low.items c.args.place.0 w.0 ≡ slice_set c.self.inside.low.items c.low_position-at.result (with_bytes c.index_mut.result.now c.build_front.new.bytes) = ap (λ (m : Memory). m.low) is in
    record {
      laid = subst Laid is (Laid-with_low_bytes (state_of c.self.inside) c.args.place.0 w.0 c.self.invariant.laid);
      low_used = rw (← low, size_of-with_bytes_above c.self.inside.low.items c.args.place.0 w.0) c.self.invariant.low_used;
      high_used = c.self.invariant.high_used;
      low_ends = rw (← low, ends-with_bytes_above c.self.inside.low.items c.args.place.0 w.0) c.self.invariant.low_ends;
      high_ends = c.self.invariant.high_ends;
    }

pub returns-clause-gives : goal.returns-clause-gives
returns-clause-gives g c =
    let d = (goal.at.returns-clause-gives g c).After-bytes_mut in
    let w = image g d in
    let new : c.build_front.new.bytes ≡ over c.bytes_mut.result.now w.0 = rw w.1 at c.build_front.ensures in
    build_low_gives c.args.self.now _ c.args.place.0 c.args.len (g.B.Builder.image_of c.args.builder.now) c.newest_front-source.result.now w.0 (source g d) w.1
    (ap (λ m. with_low_bytes m c.args.place.0 w.0) (sym c.self.view_is) ∙ written g d w.0 c.build_front.new.bytes new)

pub returns-clause-laid : goal.returns-clause-laid
returns-clause-laid g c = (invariant_of-self g c).laid
