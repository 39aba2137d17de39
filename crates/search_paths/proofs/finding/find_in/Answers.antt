use Rattle.std.proofs.Common.{map, Some, None, subst}
use Rattle.search_paths.specs.Kept.{IsDirectory, IsFiltered}
use Rattle.search_paths.proofs.Looking.{found_in_folder, found_in_pack, pack_ref}
use Rattle.search_paths.proofs.Filters.{filter_of}
use Rattle.pack_files.specs.declared.filter.Filter.{Filter}
use Rattle.pack_files.specs.Filters.{HasRows}
use Rattle.pack_files.proofs.Filtering.{unfiltered}
use Rattle.search_paths.proofs.finding.find_in.Goals as goal

pub returns-in-Ok-Some-clause-found : goal.returns-in-Ok-Some-clause-found
returns-in-Ok-Some-clause-found g c =
    let size = rw c.in-Ok-Some.field-0-is at c.in-Ok-Some.ensures.length in
    rw c.in-Folder.is (found_in_folder (map g.F.Folder.files c.args.folders.now) c.args.number c.in-Folder.folder c.args.name.now (Some c.in-Ok-Some.length) size)

pub returns-in-Ok-None-clause-found : goal.returns-in-Ok-None-clause-found
returns-in-Ok-None-clause-found g c =
    let size = rw c.in-Ok-None.field-0-is at c.in-Ok-None.ensures.length in
    rw c.in-Folder.is (found_in_folder (map g.F.Folder.files c.args.folders.now) c.args.number c.in-Folder.folder c.args.name.now None size)

pub returns-then-may_have-clause-found : goal.returns-then-may_have-clause-found
returns-then-may_have-clause-found g c =
    let read = subst (λ m. IsDirectory (map g.F.Folder.files c.args.folders.now) m) c.in-Pack.is c.requires.read in
    rw c.in-Pack.is (found_in_pack (map g.F.Folder.files c.args.folders.now) c.args.number c.in-Pack.folder c.in-Pack.pack c.in-Pack.directory c.args.name.now c.find_packed.result read c.find_packed.ensures.found)

pub returns-else-may_have-clause-found : goal.returns-else-may_have-clause-found
returns-else-may_have-clause-found g c =
    let read = subst (λ m. IsDirectory (map g.F.Folder.files c.args.folders.now) m) c.in-Pack.is c.requires.read in
    let filtered = subst (λ m. IsFiltered c.args.filters.now m) c.in-Pack.is c.requires.filtered in
    let has = filter_of c.args.filters.now c.in-Pack.folder c.index-filters-folder.result (λ (filter : Filter). HasRows filter.masks.items c.in-Pack.pack c.in-Pack.directory.rows) c.index-filters-folder.is filtered.1 in
    let none = unfiltered c.index-filters-folder.result.masks.items c.in-Pack.pack c.args.hash c.args.name.now c.in-Pack.directory.rows has c.requires.hash c.if-may_have.ensures in
    rw c.in-Pack.is (found_in_pack (map g.F.Folder.files c.args.folders.now) c.args.number c.in-Pack.folder c.in-Pack.pack c.in-Pack.directory c.args.name.now None read
    (λ bytes sized. pack_ref c.args.name.now bytes c.in-Pack.directory.rows c.args.number c.in-Pack.directory.whole None none sized))
