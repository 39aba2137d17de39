use Rattle.std.proofs.Common.{◌≡◌, ◌++◌}
use Rattle.console_core.specs.Ends.{IsPathOf}
use Rattle.console_core.proofs.opening.mount_all.Given as goal

abbrev pub invariant-loop-folder : goal.invariant-loop-folder
invariant-loop-folder g l = record {
  opened : IsPathOf g.F.Folder.files g.F.Folder.folder_faults l.yielded l.paths;
  all : l.yielded ++ l.folder-iterator.rest.items ≡ l.fn.folders.items;
  next : (goal.iterator-loop-folder g).can_next l.folder-iterator;
  finite : (goal.iterator-loop-folder g).is_finite l.folder-iterator;
}
