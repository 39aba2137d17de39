use Rattle.std.proofs.Common.{◌+◌, ◌<◌, ℕ, None, length, ◌∙◌, refl, arith}
use Rattle.std.proofs.lemmas.List.{length-set}
use Rattle.std.proofs.lemmas.List.Edits.{fill_by_more}
use Rattle.std.proofs.lemmas.List.FromFn.{fill_by_all}
use Rattle.bsp29_tables.specs.Cycles.{shown_of, frames_of}
use Rattle.bsp29_tables.proofs.groups.frames_of.Goals as goal

pub loop-place-init : goal.loop-place-init
loop-place-init c = record { long = refl; shown = λ k lt. absurd (omega (arith, lt)) }

pub loop-place-preserved : goal.loop-place-preserved
loop-place-preserved c =
    let shows = λ (place : ℕ). shown_of c.args.lump.now c.args.rest.now (c.args.first + place) in
    let items = c.loop-place.frame-items in
    let place = c.loop-place.place in
    let below : place < length items = omega (arith, c.loop-place.invariant.long, c.loop-place-test.true) in
    record {
      long = length-set items place _ ∙ c.loop-place.invariant.long;
      shown = rw c.shown_of.ensures (fill_by_more shows items place None below c.loop-place.invariant.shown);
    }

pub returns : goal.returns
unfolding frames_of
returns c =
    let shows = λ (place : ℕ). shown_of c.args.lump.now c.args.rest.now (c.args.first + place) in
    fill_by_all shows c.loop-place.frame-items 10 None c.loop-place.invariant.long
    (λ k lt. c.loop-place.invariant.shown k (omega (arith, lt)))
