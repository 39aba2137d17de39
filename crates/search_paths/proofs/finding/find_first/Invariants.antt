use Rattle.std.proofs.Common.{◌≡◌, map, take}
use Rattle.search_paths.specs.Answers.{folders_among}
use Rattle.search_paths.specs.Counts.{NoneFalls, CallsOnce}
use Rattle.search_paths.specs.Kept.{mount_of, row_of}
use Rattle.search_paths.proofs.First.{NoneBefore}
use Rattle.search_paths.proofs.finding.find_first.Given as goal

-- the folders tell what they told, no count fell, each folder among the mounts so far was called once, and none of them has the name
abbrev pub invariant-loop-number : goal.invariant-loop-number
invariant-loop-number g l = record {
  told : map g.F.Folder.files l.folders ≡ map g.F.Folder.files l.initial.folders;
  faults : NoneFalls (map g.F.Folder.folder_faults l.initial.folders) (map g.F.Folder.folder_faults l.folders);
  calls : NoneFalls (map g.F.Folder.folder_calls l.initial.folders) (map g.F.Folder.folder_calls l.folders);
  asked : CallsOnce g.F.Folder.folder_calls (folders_among (take l.number (map row_of l.mounts))) l.initial.folders l.folders;
  before : NoneBefore l.name (map (mount_of (map g.F.Folder.files l.initial.folders)) l.mounts) l.number;
}
