use Rattle.std.proofs.Common.{◌≡◌, ◌+◌, ◌-◌, length}
use Rattle.cmd_buffer.specs.Words.{first_words}
use Rattle.cmd_buffer.proofs.words.Words.count.Given as goal

abbrev pub invariant-loop-count : goal.invariant-loop-count
invariant-loop-count l = l.count + 1 + length (first_words (l.more - l.count) l.rest) ≡ length l.self
