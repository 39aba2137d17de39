use Rattle.std.proofs.Common.{◌≡◌, ◌++◌, take}
use Rattle.world_gen.specs.Numbers.{words}
use Rattle.world_gen.proofs.numbers.append_words.Given as goal

abbrev pub invariant-loop-value : goal.invariant-loop-value
invariant-loop-value l = l.bytes.items ≡ l.initial.bytes.items ++ words (take l.value-index l.values)
