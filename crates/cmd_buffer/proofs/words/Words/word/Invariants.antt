use Rattle.std.proofs.Common.{◌≡◌, ◌+◌, ◌-◌, ◌≤◌, [], get_or}
use Rattle.cmd_buffer.specs.Words.{first_words}
use Rattle.cmd_buffer.proofs.words.Words.word.Given as goal

abbrev pub invariant-loop-before : goal.invariant-loop-before
invariant-loop-before l = record {
  few : l.number ≤ l.more;
  same : get_or (first_words (l.more + 1 - l._before) l.rest) (l.number - l._before) [] ≡ get_or l.self l.number [];
}
