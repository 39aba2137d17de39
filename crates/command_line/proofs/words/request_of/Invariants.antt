use Rattle.std.proofs.Common.{map, take, string_bytes}
use Rattle.command_line.specs.Reading.{Reads}
use Rattle.command_line.proofs.words.request_of.Given as goal

abbrev pub invariant-loop-number : goal.invariant-loop-number
invariant-loop-number l = Reads (take l.number (map string_bytes l.words)) l.most l.reading
