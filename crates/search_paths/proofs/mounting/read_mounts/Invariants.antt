use Rattle.std.proofs.Common.{◌≡◌, ◌*◌, ◌-◌, ◌≤◌, All, IfSome}
use Rattle.outside_io.specs.Causes.{many_more}
use Rattle.search_paths.specs.Calls.{AreTaken}
use Rattle.search_paths.specs.Own.{IsOwn, IsIn}
use Rattle.search_paths.proofs.OwnMounts.{AreMade, AreListed}
use Rattle.search_paths.proofs.mounting.read_mounts.Given as goal

abbrev pub invariant-loop-pack : goal.invariant-loop-pack
invariant-loop-pack g l = record {
  made : IfSome (g.F.Folder.files l.initial.folder) (λ files. AreMade l.number files l.pack (32 - l.pack) l.mounts.items);
  listed : AreListed l.number l.pack l.mounts.items;
  own : All (IsOwn l.number (g.F.Folder.files l.initial.folder)) l.mounts.items;
  filtered : All (IsIn l.filter) l.mounts.items;
  same : g.F.Folder.files l.folder ≡ g.F.Folder.files l.initial.folder;
  faults : g.F.Folder.folder_faults l.initial.folder ≤ g.F.Folder.folder_faults l.folder;
  calls : g.F.Folder.folder_calls l.folder ≡ many_more (3 * l.pack) (g.F.Folder.folder_calls l.initial.folder);
  taken : IfSome (g.F.Folder.files l.initial.folder) (AreTaken l.pack);
}
