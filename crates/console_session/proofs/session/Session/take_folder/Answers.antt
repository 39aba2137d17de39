use Rattle.std.proofs.Common.{ap, ◌∙◌}
use Rattle.std.specs.Prelude.{option_map}
use Rattle.std.proofs.lemmas.Option.{slice_get-map}
use Rattle.console_session.proofs.session.Session.take_folder.Goals as goal

pub returns-clause-told : goal.returns-clause-told
returns-clause-told g c = rw (← c.self.view_is) (slice_get-map g.F.Folder.files c.self.inside.console.paths.folders c.args.folder ∙ ap (option_map g.F.Folder.files) c.take_folder.ensures)

pub returns-clause-faults : goal.returns-clause-faults
returns-clause-faults g c = rw (← c.self.view_is) (slice_get-map g.F.Folder.folder_faults c.self.inside.console.paths.folders c.args.folder ∙ ap (option_map g.F.Folder.folder_faults) c.take_folder.ensures)
