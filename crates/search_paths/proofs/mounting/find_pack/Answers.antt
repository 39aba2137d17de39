use Rattle.std.proofs.Common.{◌≡◌}
use Rattle.search_paths.specs.Mounts.{pack_name}
use Rattle.search_paths.proofs.PackCalls.{asks_bad, asks_unread, asks_short}
use Rattle.search_paths.proofs.mounting.find_pack.Goals as goal

pub returns-in-Err-Bad-clause-asks : goal.returns-in-Err-Bad-clause-asks
returns-in-Err-Bad-clause-asks g c =
    let name : c.as_bytes-name.result.now ≡ pack_name c.args.pack = cc in
    asks_bad g.F.Folder.files g.F.Folder.folder_calls c.args.pack c.args.number c.in-Ok-Some.length c.requires c.args.folder.now _ _ c.len_of.ensures.counted c.len_of.ensures.same
    (rw (c.in-Ok-Some.field-0-is, name) at c.in-Ok-Some.ensures.length) c.in-Err-Bad.fault (rw (c.in-Err-Bad.field-0-is, name) at c.in-Err-Bad.ensures.reads) (rw (c.in-Err-Bad.field-0-is, name, c.len_of.ensures.same) at c.in-Err-Bad.ensures.told)

pub returns-in-Err-FolderFault-clause-asks : goal.returns-in-Err-FolderFault-clause-asks
returns-in-Err-FolderFault-clause-asks g c =
    let name : c.as_bytes-name.result.now ≡ pack_name c.args.pack = cc in
    asks_unread g.F.Folder.files g.F.Folder.folder_calls c.args.pack c.args.number c.in-Ok-Some.length c.requires c.args.folder.now _ _ c.len_of.ensures.counted c.len_of.ensures.same
    (rw (c.in-Ok-Some.field-0-is, name) at c.in-Ok-Some.ensures.length) (rw (c.in-Err-FolderFault.field-0-is, name) at c.in-Err-FolderFault.ensures.reads)

pub returns-in-Err-OutOfMemory-clause-asks : goal.returns-in-Err-OutOfMemory-clause-asks
returns-in-Err-OutOfMemory-clause-asks g c =
    let name : c.as_bytes-name.result.now ≡ pack_name c.args.pack = cc in
    asks_short g.F.Folder.files g.F.Folder.folder_calls c.args.pack c.args.number c.in-Ok-Some.length c.requires c.args.folder.now _ _ c.len_of.ensures.counted c.len_of.ensures.same
    (rw (c.in-Ok-Some.field-0-is, name) at c.in-Ok-Some.ensures.length) (rw (c.in-Err-OutOfMemory.field-0-is, name) at c.in-Err-OutOfMemory.ensures.reads)
