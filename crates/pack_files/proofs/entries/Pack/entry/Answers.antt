use Rattle.std.proofs.Common.{ap, ◌∙◌}
use Rattle.pack_files.specs.Packs.{PackTable, entry_of}
use Rattle.pack_files.proofs.Tables.{lookup_is_entry}
use Rattle.pack_files.proofs.entries.Pack.entry.Goals as goal

pub returns : goal.returns
returns c =
    c.copied.ensures
    ∙ c.get.ensures.value
    ∙ lookup_is_entry c.args.name.now c.self.inside.entries.entries
    ∙ ap (λ (t : PackTable). entry_of c.args.name.now t.rows) c.self.view_is
