use Rattle.mem_model.specs.Laid.{Laid}
use Rattle.search_paths.specs.Path.{told_mounts}
use Rattle.res_table.specs.Held.{AreHeld}
use Rattle.map_change.specs.Marks.{IsLowMark}
use Rattle.map_change.proofs.tests.first_wrong.Given as goal

-- what is held stays so, and the level stays one
abbrev pub invariant-loop-number : goal.invariant-loop-number
invariant-loop-number g l = record {
  laid : Laid (g.M.Store.state l.store);
  held : AreHeld (told_mounts g.F.Folder.files l.paths) l.table (g.M.Store.state l.store);
  level : IsLowMark (g.M.Store.state l.store).low l.level;
}
