use Rattle.std.proofs.Common.{◌≡◌, ◌%◌, [], take, drop, nat_eq}
use Rattle.cmd_buffer.specs.Buffer.{cut_after, quotes_in}
use Rattle.cmd_buffer.proofs.buffer.command_length.Given as goal

abbrev pub invariant-loop-i : goal.invariant-loop-i
invariant-loop-i l = record {
  cut : cut_after (take l.i l.text) (drop l.i l.text) ≡ cut_after [] l.text;
  quotes : l.even_quotes ≡ nat_eq (quotes_in (take l.i l.text) % 2) 0;
}
