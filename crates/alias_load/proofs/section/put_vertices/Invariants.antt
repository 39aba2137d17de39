use Rattle.std.proofs.Common.{◌≡◌, ◌+◌, ◌-◌, ◌*◌, ◌++◌, length, take}
use Rattle.alias_load.specs.Images.{vertices_in}
use Rattle.alias_load.specs.Views.{cut}
use Rattle.alias_load.proofs.section.put_vertices.Given as goal

abbrev pub invariant-loop : goal.invariant-loop
invariant-loop l = record {
  text : take l.at l.block ++ vertices_in (cut l.item (l.number - l.counter) l.rest) ≡ vertices_in (cut l.item l.number l.items);
  room : l.at + (l.item - 24) * (l.number - l.counter) ≡ (l.item - 24) * l.number;
  left : length l.rest ≡ l.item * (l.number - l.counter);
}
