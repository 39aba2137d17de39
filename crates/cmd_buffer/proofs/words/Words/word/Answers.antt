use Rattle.std.proofs.Common.{◌≡◌, ◌+◌, ◌-◌, suc, length, arith, sym, ap, ◌∙◌}
use Rattle.cmd_buffer.specs.Words.{found_of}
use Rattle.cmd_buffer.proofs.Counting.{past, few_words, get_more}
use Rattle.cmd_buffer.proofs.words.Words.word.Goals as goal

pub returns-then-more-number : goal.returns-then-more-number
returns-then-more-number c =
    let all = rw c.in-Some.is at c.self.view_is in
    sym (past c.args.self.now c.args.number (omega (arith, ap length all, few_words c.self.inside.more c.in-Some.found.rest.now)))

pub loop-before-preserved : goal.loop-before-preserved
loop-before-preserved c =
    let before = c.loop-before._before in
    let number = c.args.number in
    let kept = c.self.inside.more in
    let more : kept + 1 - before ≡ suc (kept + 1 - (before + 1)) = omega arith in
    let less : number - before ≡ suc (number - (before + 1)) = omega arith in
    record {
      few = omega arith;
      same = sym (get_more (kept + 1 - before) (kept + 1 - (before + 1)) (number - before) (number - (before + 1)) c.loop-before.rest.now more (found_of c.in-Some-next_word.found) (sym c.in-Some-next_word.ensures) less) ∙ c.loop-before.invariant.same;
    }
