use Rattle.std.proofs.Common.{◌≡◌, map, take}
use Rattle.info_text.specs.LumpNames.{shown_byte}
use Rattle.info_text.proofs.lump_names.shown.Given as goal

abbrev pub invariant-loop-byte : goal.invariant-loop-byte
invariant-loop-byte l = l.shown.items ≡ map shown_byte (take l.byte-index l.byte-items)
