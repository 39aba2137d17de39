use Rattle.std.proofs.Common.{◌≡◌, ◌∙◌, Some, sym, subst}
use Rattle.mem_model.specs.Turns.{IsFall, IsMove}
use Rattle.mem_model.proofs.Falls.{pushed_down-done, none_above, some_highest, at_last}
use Rattle.mem_model.proofs.cache.PlainCache.push_down.Goals as goal

pub hop-requires-clause-moves : goal.hop-requires-clause-moves
hop-requires-clause-moves c = λ b here.
    let high = some_highest c.args.top c.loop-self.self.blocks (sym c.ends_above.ensures ∙ c.loop-self-test.true) in
    let same : b ≡ high.0 = (let e : Some b ≡ Some high.0 = sym here ∙ at_last c.args.top c.last-last.result c.loop-self.self.blocks high.0 c.last-last.ensures high.1 in cc) in
    subst (λ x. IsMove c.loop-self.self.blocks x c.in-Some.gap.at c.in-Some.gap.place) (sym same) (c.in-Some.ensures high.0 high.1).0

fallen : (c : goal.After-hop) → IsFall c.args.top c.loop-self.self c.hop.new.self
fallen c =
    let high = some_highest c.args.top c.loop-self.self.blocks (sym c.ends_above.ensures ∙ c.loop-self-test.true) in
    rw (c.hop.ensures high.0 (at_last c.args.top c.last-last.result c.loop-self.self.blocks high.0 c.last-last.ensures high.1)) (c.in-Some.ensures high.0 high.1).1

fewer : (c : goal.After-leave) → IsFall c.args.top c.loop-self.self c.leave.new.self
fewer c =
    let high = some_highest c.args.top c.loop-self.self.blocks (sym c.ends_above.ensures ∙ c.loop-self-test.true) in
    rw (c.leave.ensures high.0 (at_last c.args.top c.last-last.result c.loop-self.self.blocks high.0 c.last-last.ensures high.1)) (c.in-None.ensures high.0 high.1)

pub loop-self-smaller-in-Some : goal.loop-self-smaller-in-Some
loop-self-smaller-in-Some c = (fallen c).lower

pub loop-self-preserved-in-Some : goal.loop-self-preserved-in-Some
loop-self-preserved-in-Some c = record {
  pushed = λ size a h. (fallen c).pushed size (c.loop-self.invariant.between size a h) h ∙ c.loop-self.invariant.pushed size a h;
  between = λ size a h. (fallen c).between size (c.loop-self.invariant.between size a h) h;
}

pub loop-self-smaller : goal.loop-self-smaller
loop-self-smaller c = (fewer c).lower

pub loop-self-preserved : goal.loop-self-preserved
loop-self-preserved c = record {
  pushed = λ size a h. (fewer c).pushed size (c.loop-self.invariant.between size a h) h ∙ c.loop-self.invariant.pushed size a h;
  between = λ size a h. (fewer c).between size (c.loop-self.invariant.between size a h) h;
}

pub returns : goal.returns
returns c = λ size a h. sym (pushed_down-done size c.args.top c.loop-self.self (none_above c.args.top c.loop-self.self.blocks (sym c.ends_above.ensures ∙ c.loop-self-test.false))) ∙ c.loop-self.invariant.pushed size a h
