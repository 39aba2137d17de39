use Rattle.std.proofs.Common.{◌≡◌, ◌<◌, drop}
use Rattle.pack_files.specs.Hashes.{hash_from}
use Rattle.pack_files.proofs.hashing.name_hash.Given as goal

abbrev pub invariant-loop-byte : goal.invariant-loop-byte
invariant-loop-byte l = record {
  small : l.hash < 4294967296;
  same : hash_from l.hash (drop l.byte-index l.name) ≡ hash_from 0 l.name;
}
