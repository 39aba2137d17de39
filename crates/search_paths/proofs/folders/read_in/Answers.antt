use Rattle.std.proofs.Common.{arith}
use Rattle.search_paths.proofs.Asked.{kept, risen, number_of, caused_ok, caused_err}
use Rattle.search_paths.proofs.Calls.{called_at}
use Rattle.search_paths.proofs.folders.read_in.Goals as goal

pub returns-in-Ok-clause-told : goal.returns-in-Ok-clause-told
returns-in-Ok-clause-told g c = kept _ _ c.index-folders-folder.result _ c.requires.inside g.F.Folder.files c.read_at.ensures.same

pub returns-in-Ok-clause-cause : goal.returns-in-Ok-clause-cause
returns-in-Ok-clause-cause g c = caused_ok _ _ c.index-folders-folder.result _ c.requires.inside g.F.Folder.folder_faults tt c.read_at.ensures.cause.never_falls

pub returns-in-Ok-clause-calls : goal.returns-in-Ok-clause-calls
returns-in-Ok-clause-calls g c = risen _ _ c.index-folders-folder.result _ c.requires.inside g.F.Folder.folder_calls (omega (arith, c.read_at.ensures.counted))

pub returns-in-Err-clause-told : goal.returns-in-Err-clause-told
returns-in-Err-clause-told g c = kept _ _ c.index-folders-folder.result _ c.requires.inside g.F.Folder.files c.read_at.ensures.same

pub returns-in-Err-clause-cause : goal.returns-in-Err-clause-cause
returns-in-Err-clause-cause g c = caused_err _ _ c.index-folders-folder.result _ c.requires.inside g.F.Folder.folder_faults c.read_at.ensures.cause.never_falls c.in-Err.ensures.cause.failed

pub returns-in-Err-clause-calls : goal.returns-in-Err-clause-calls
returns-in-Err-clause-calls g c = risen _ _ c.index-folders-folder.result _ c.requires.inside g.F.Folder.folder_calls (omega (arith, c.read_at.ensures.counted))

pub returns-in-Ok-clause-asked : goal.returns-in-Ok-clause-asked
returns-in-Ok-clause-asked g c = called_at g.F.Folder.folder_calls c.args.folders.now c.args.folder _ c.read_at.new.self (number_of _ _ c.index-folders-folder.result c.read_at.new.self c.requires.inside g.F.Folder.folder_calls) c.read_at.ensures.counted

pub returns-in-Err-clause-asked : goal.returns-in-Err-clause-asked
returns-in-Err-clause-asked g c = called_at g.F.Folder.folder_calls c.args.folders.now c.args.folder _ c.read_at.new.self (number_of _ _ c.index-folders-folder.result c.read_at.new.self c.requires.inside g.F.Folder.folder_calls) c.read_at.ensures.counted
