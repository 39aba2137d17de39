use Rattle.std.proofs.Common.{map}
use Rattle.search_paths.proofs.Rows.{row_is_listed, row_read, no_row}
use Rattle.search_paths.proofs.path.Paths.row.Goals as goal

pub returns-in-Some-clause-row : goal.returns-in-Some-clause-row
returns-in-Some-clause-row g c =
    let lookup = c.in-Some.ensures.lookup in
    rw (← c.self.view_is) (row_read c.deref.result.now c.self.inside.mounts.items c.args.number c.in-Some.mounted.now c.row.result c.deref.ensures.value lookup.0 lookup.1 c.row.ensures)

pub returns-in-Some-clause-mount : goal.returns-in-Some-clause-mount
returns-in-Some-clause-mount g c = row_is_listed (map g.F.Folder.files c.args.self.now.folders) c.args.self.now.mounts c.args.number _ (returns-in-Some-clause-row g c)

pub returns-in-None-clause-row : goal.returns-in-None-clause-row
returns-in-None-clause-row g c = rw (← c.self.view_is) (no_row c.deref.result.now c.self.inside.mounts.items c.args.number c.deref.ensures.value c.in-None.ensures.lookup.0)

pub returns-in-None-clause-mount : goal.returns-in-None-clause-mount
returns-in-None-clause-mount g c = row_is_listed (map g.F.Folder.files c.args.self.now.folders) c.args.self.now.mounts c.args.number _ (returns-in-None-clause-row g c)
