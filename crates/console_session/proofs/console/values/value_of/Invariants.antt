use Rattle.std.proofs.Common.{◌≡◌, ◌≤◌, ◌+◌, ◌++◌, length, drop}
use Rattle.cmd_buffer.specs.Words.{letters_in}
use Rattle.console_session.specs.Commands.{spaced}
use Rattle.console_session.proofs.console.values.value_of.Given as goal

abbrev pub invariant-words : goal.invariant-words
invariant-words l = record {
  text : l.value.items ++ spaced l.left ≡ spaced (drop 2 l.words);
  small : length l.value.items + letters_in l.left + length l.left ≤ 1103;
}

abbrev pub decreases-words : goal.decreases-words
decreases-words l = length l.left
