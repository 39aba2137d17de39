use Rattle.std.proofs.Common.{◌≡◌, true, false, length, sym, subst, ◌∙◌}
use Rattle.wav_load.specs.Chunks.{is_chunk, AreInside}
use Rattle.wav_load.proofs.Walking.{goes_on, ends, are_inside}
use Rattle.wav_load.proofs.chunks.find_chunks.Goals as goal

pub loop-places-preserved : goal.loop-places-preserved
loop-places-preserved c =
    let is : is_chunk c.args.source.now c.loop-places.at ≡ true = sym c.begins.ensures.value ∙ c.loop-places-test.true in
    record {
      near = c.next-at.ensures.near;
      same = rw (c.note-places.ensures, c.next-at.ensures.value)
          (goes_on _ c.loop-places.places _ _ is c.loop-places.invariant.same);
    }

pub returns-clause-value : goal.returns-clause-value
returns-clause-value c =
    let none : is_chunk c.args.source.now c.loop-places.at ≡ false = sym c.begins.ensures.value ∙ c.loop-places-test.false in
    ends _ _ _ _ none c.loop-places.invariant.same

pub returns-clause-inside : goal.returns-clause-inside
returns-clause-inside c =
    let none : is_chunk c.args.source.now c.loop-places.at ≡ false = sym c.begins.ensures.value ∙ c.loop-places-test.false in
    subst (AreInside (length c.args.source.now)) (sym (ends _ _ _ _ none c.loop-places.invariant.same))
    (are_inside c.args.source.now)
