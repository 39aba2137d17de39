use Rattle.std.proofs.Common.{◌≡◌, ◌<◌, None, length}
use Rattle.std.specs.Prelude.{MatchOption, vec_len, vec_capacity}
use Rattle.mem_model.specs.Memory.{cache_of}
use Rattle.mem_model.specs.Gaps.{gap_from, size_of_cache, IsGap}
use Rattle.mem_model.specs.Turns.{IsRoom}
use Rattle.mem_model.specs.Tables.{IsTable}
use Rattle.mem_model.proofs.cache.make_room.Given as goal

abbrev pub invariant-loop-gap : goal.invariant-loop-gap
invariant-loop-gap l = record {
  gap : MatchOption l.gap (gap_from l.bottom l.size l.top l.cells.items ≡ None) (λ gap. IsGap l.cells.items l.bottom l.size l.top gap.at gap.place);
  room : IsRoom l.bottom l.top l.size (cache_of l.fn.cells.items l.fn.recency.items) (cache_of l.cells.items l.recency.items);
  places : IsTable l.places l.cells.items;
  used : l.used ≡ size_of_cache l.cells.items;
  cells : vec_len l.cells < vec_capacity l.cells;
  recency : vec_len l.recency < vec_capacity l.recency;
}

abbrev pub decreases-loop-gap : goal.decreases-loop-gap
decreases-loop-gap l = length l.recency.items
