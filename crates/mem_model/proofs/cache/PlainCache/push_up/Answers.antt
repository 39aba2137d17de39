use Rattle.std.proofs.Common.{◌∙◌, ap, sym}
use Rattle.std.specs.Prelude.{slice_get}
use Rattle.mem_model.specs.Turns.{IsRise}
use Rattle.mem_model.proofs.Jumps.{pushed_up-done}
use Rattle.mem_model.proofs.Rises.{at_front, first_below, none_below}
use Rattle.mem_model.proofs.cache.PlainCache.push_up.Goals as goal

pub hop-requires-clause-moves : goal.hop-requires-clause-moves
hop-requires-clause-moves c = λ b here. (let front = at_front c.loop-self.self.blocks b here in (c.in-Some.ensures b front.0 front.1).0)

raised : (c : goal.After-hop) → IsRise c.args.bottom c.args.top c.loop-self.self c.hop.new.self
raised c =
    let first = first_below c.args.bottom c.loop-self.self.blocks (sym c.starts_below.ensures ∙ c.loop-self-test.true) in
    rw (c.hop.ensures first.0 (ap (λ blocks. slice_get blocks 0) first.2)) (c.in-Some.ensures first.0 first.1 first.2).1

fewer : (c : goal.After-leave) → IsRise c.args.bottom c.args.top c.loop-self.self c.leave.new.self
fewer c =
    let first = first_below c.args.bottom c.loop-self.self.blocks (sym c.starts_below.ensures ∙ c.loop-self-test.true) in
    rw (c.leave.ensures first.0 (ap (λ blocks. slice_get blocks 0) first.2)) (c.in-None.ensures first.0 first.1 first.2)

pub loop-self-smaller-in-Some : goal.loop-self-smaller-in-Some
loop-self-smaller-in-Some c = (raised c).lower

pub loop-self-preserved-in-Some : goal.loop-self-preserved-in-Some
loop-self-preserved-in-Some c = record { pushed = (raised c).pushed ∙ c.loop-self.invariant.pushed; between = (raised c).between }

pub loop-self-smaller : goal.loop-self-smaller
loop-self-smaller c = (fewer c).lower

pub loop-self-preserved : goal.loop-self-preserved
loop-self-preserved c = record { pushed = (fewer c).pushed ∙ c.loop-self.invariant.pushed; between = (fewer c).between }

pub returns : goal.returns
returns c = sym (pushed_up-done c.args.bottom c.args.top c.loop-self.self (none_below c.args.bottom c.loop-self.self.blocks (sym c.starts_below.ensures ∙ c.loop-self-test.false))) ∙ c.loop-self.invariant.pushed
