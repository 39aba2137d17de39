use Rattle.std.proofs.Common.{refl}
use Rattle.file_load.proofs.Finding.{past, within}
use Rattle.file_load.proofs.files.find_whole.Goals as goal

pub returns-then-end-file-clause-told : goal.returns-then-end-file-clause-told
returns-then-end-file-clause-told g c =
    past g.F.Folder.files c.args.paths.now c.args.name.now c.in-Ok-Some.file _ refl c.if-end-file.true (rw c.in-Ok-Some.field-0-is at c.in-Ok-Some.ensures.first)

pub returns-else-end-file-clause-told : goal.returns-else-end-file-clause-told
returns-else-end-file-clause-told g c = within g.F.Folder.files c.args.paths.now c.args.name.now c.in-Ok-Some.file c.if-end-file.false (rw c.in-Ok-Some.field-0-is at c.in-Ok-Some.ensures.first)
