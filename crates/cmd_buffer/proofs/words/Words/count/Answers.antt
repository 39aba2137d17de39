use Rattle.std.proofs.Common.{◌≡◌, ◌+◌, ◌-◌, suc, length, arith, sym, ap}
use Rattle.cmd_buffer.specs.Words.{found_of}
use Rattle.cmd_buffer.proofs.Counting.{few_words, no_word, one_word}
use Rattle.cmd_buffer.proofs.words.Words.count.Goals as goal

pub loop-count-init : goal.loop-count-init
loop-count-init c =
    let all = rw c.in-Some.is at c.self.view_is in
    let none : c.self.inside.more - 0 ≡ c.self.inside.more = omega arith in
    rw none (omega (arith, ap length all))

pub loop-count-preserved : goal.loop-count-preserved
loop-count-preserved c =
    let left = c.self.inside.more - c.loop-count.count in
    let later = c.self.inside.more - (c.loop-count.count + 1) in
    let more : left ≡ suc later = omega arith in
    omega (arith, c.loop-count.invariant, ap length (one_word left later c.loop-count.rest.now (found_of c.in-Some-next_word.found) more (sym c.in-Some-next_word.ensures)))

pub returns-in-None-clause-value : goal.returns-in-None-clause-value
returns-in-None-clause-value c =
    let left = c.self.inside.more - c.loop-count.count in
    let later = c.self.inside.more - (c.loop-count.count + 1) in
    let more : left ≡ suc later = omega arith in
    omega (arith, c.loop-count.invariant, ap length (no_word left later c.loop-count.rest.now more (sym c.in-None.ensures)))

pub returns-clause-value : goal.returns-clause-value
returns-clause-value c = omega (arith, c.loop-count.invariant, few_words (c.self.inside.more - c.loop-count.count) c.loop-count.rest.now)
