use Rattle.search_paths.specs.Path.{told_mounts}
use Rattle.res_table.specs.Held.{AreHeld}
use Rattle.res_table.proofs.tests.first_refused.Given as goal

-- what is held stays so
abbrev pub invariant-loop-number : goal.invariant-loop-number
invariant-loop-number g l = AreHeld (told_mounts g.F.Folder.files l.paths) l.table (g.M.Store.state l.store)
