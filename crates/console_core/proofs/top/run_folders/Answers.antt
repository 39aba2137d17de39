use Rattle.std.proofs.Common.{◌≡◌, ◌∙◌, List, Option, inr, length, map, ap, sym, subst, arith}
use Rattle.std.proofs.lemmas.List.{length-map}
use Rattle.outside_io.specs.Files.{File}
use Rattle.search_paths.specs.Counts.{NoneFalls}
use Rattle.search_paths.specs.Path.{all_some}
use Rattle.console_core.specs.Ends.{HandsOver, told_state, no_events}
use Rattle.console_core.proofs.Faulting.{ends_on_path, hands_earlier, starts_on_path}
use Rattle.console_core.proofs.top.run_folders.Goals as goal

pub returns-in-Err-clause-too_small : goal.returns-in-Err-clause-too_small
returns-in-Err-clause-too_small g c = (λ is. absurd (c.in-Err.ensures.not_small is), λ much. absurd (let same = c.in-Ok.ensures.too_small.1 much in cc))

pub returns-in-Ok-start-clause-ends : goal.returns-in-Ok-start-clause-ends
returns-in-Ok-start-clause-ends g c =
    let opened = c.in-Ok-mount_all.ensures.opened in
    let session = c.in-Ok-start.session in
    let starts = starts_on_path g.F.Folder c.args.folders.items c.in-Ok-mount_all.paths c.args.request no_events opened session.state (rw (c.in-Ok.ensures.ok, c.in-Ok-create.ensures) at c.in-Ok-start.ensures.state) in
    inr (opened.good, ends_on_path c.args.request no_events _ _ (all_some (map g.F.Folder.files c.args.folders.items)) (told_state session.state) c.run_session.result starts c.run_session.ensures.ends)

pub run_session-requires-clause-small : goal.run_session-requires-clause-small
run_session-requires-clause-small g c =
    let folders = c.args.folders.items in
    let held = c.in-Ok-mount_all.paths.folders in
    let told : length (map g.F.Folder.files held) ≡ length (map g.F.Folder.files folders) = ap length c.in-Ok-mount_all.ensures.opened.told in
    let counts : length c.in-Ok-start.session.faults ≡ length (map g.F.Folder.folder_faults held) = ap length c.in-Ok-start.ensures.faults in
    omega (arith, c.requires.small, told, counts, length-map held g.F.Folder.files, length-map folders g.F.Folder.files, length-map held g.F.Folder.folder_faults)

pub returns-in-Ok-start-clause-handed_over : goal.returns-in-Ok-start-clause-handed_over
returns-in-Ok-start-clause-handed_over g c =
    let files = g.F.Folder.files in
    let faults = g.F.Folder.folder_faults in
    let folders = c.args.folders.items in
    let opened = c.in-Ok-mount_all.ensures.opened in
    let session = c.in-Ok-start.session in
    let first = c.args.request.first in
    let told : session.state.path.told ≡ map files folders = ap (λ s. s.path.told) c.in-Ok-start.ensures.state ∙ opened.told in
    let none_falls : NoneFalls (map faults folders) session.faults = subst (λ l. NoneFalls (map faults folders) l) (sym c.in-Ok-start.ensures.faults) opened.none_falls in
    hands_earlier c.run_session.result first files faults (map files folders) (map faults folders) session.faults none_falls
    (subst (λ (l : List (Option (List File))). HandsOver first files faults l session.faults c.run_session.result) told c.run_session.ensures.handed_over)
