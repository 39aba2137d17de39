use Rattle.mem_model.proofs.Searches.{IsSearched}
use Rattle.mem_model.proofs.cache.first_gap.Given as goal

abbrev pub invariant-loop-at : goal.invariant-loop-at
invariant-loop-at l = IsSearched l.cells l.start l.size l.top l.at l.place
