use Rattle.std.proofs.Common.{◌∙◌, sym}
use Rattle.pack_files.proofs.Headers.{from_header}
use Rattle.pack_files.proofs.reading.read_header.Goals as goal

pub returns-in-Some-clause-told : goal.returns-in-Some-clause-told
returns-in-Some-clause-told g c =
    from_header (g.F.Folder.files c.args.folder.now) c.args.name.now c.read_at.new.into c.args.length _ _ c.requires c.read_at.auto.into (sym c.first_fault.ensures ∙ c.in-Some.is) c.in_default.ensures.filled
    (λ bytes front is. is)

pub returns-in-None-clause-told : goal.returns-in-None-clause-told
returns-in-None-clause-told g c =
    from_header (g.F.Folder.files c.args.folder.now) c.args.name.now c.read_at.new.into c.args.length _ _ c.requires c.read_at.auto.into (sym c.first_fault.ensures ∙ c.in-None.is) c.in_default.ensures.filled
    (λ bytes front is. (front, is))
