use Rattle.std.proofs.Common.{◌≡◌, ◌≤◌, ◌^◌, ◌-◌, length}
use Rattle.wav_load.specs.Chunks.{places_in}
use Rattle.wav_load.proofs.Walking.{ahead}
use Rattle.wav_load.proofs.chunks.find_chunks.Given as goal

abbrev pub invariant-loop-places : goal.invariant-loop-places
invariant-loop-places l = record {
  near : l.at ≤ 2 ^ 33;
  same : ahead l.source l.places l.at ≡ places_in l.source;
}

abbrev pub decreases-loop-places : goal.decreases-loop-places
decreases-loop-places l = length l.source - l.at
