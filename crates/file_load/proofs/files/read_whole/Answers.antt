use Rattle.std.proofs.Common.{arith}
use Rattle.std.proofs.lemmas.Grind.{common_steps}
use Rattle.file_load.proofs.Finding.{read_of}
use Rattle.file_load.proofs.files.read_whole.Goals as goal

pub returns-in-Ok-clause-filled : goal.returns-in-Ok-clause-filled
returns-in-Ok-clause-filled g c =
    read_of g.F.Folder.files c.args.paths.now c.args.name.now c.args.file.now c.read.new.into _ c.requires.inside (grind (arith, common_steps, c.read.auto.into, c.requires.fits)) c.in-Ok.ensures.filled
