use Rattle.std.proofs.Common.{◌≡◌, ◌∷◌, ◌++◌, [], List, Err, ap, sym, ◌∙◌, subst, append_assoc}
use Rattle.console_core.specs.Ends.{IsOpened}
use Rattle.console_core.proofs.PathOf.{opens_more, opens_no_more, is_kept, not_small}
use Rattle.console_core.proofs.opening.mount_all.Goals as goal

pub loop-folder-preserved : goal.loop-folder-preserved
loop-folder-preserved g c =
    let files = g.F.Folder.files in
    let faults = g.F.Folder.folder_faults in
    let calls = g.F.Folder.folder_calls in
    let before = c.loop-folder.paths in
    let after = c.mount.new.self in
    record {
      opened = opens_more files faults calls c.loop-folder.yielded c.in-Some.folder before after c.loop-folder.invariant.opened c.in_default-mount.ensures.mounted
          (is_kept files faults calls c.loop-folder.yielded c.in-Some.folder before after c.loop-folder.invariant.opened c.in_default-mount.ensures.kept);
      all = append_assoc c.loop-folder.yielded (c.in-Some.folder ∷ []) c.next.new.self.rest.items ∙ ap (λ l. c.loop-folder.yielded ++ l) (sym c.in-Some.ensures.steps.0) ∙ c.loop-folder.invariant.all;
      next = tt;
      finite = tt;
    }

pub returns-in-Err-clause-opened : goal.returns-in-Err-clause-opened
returns-in-Err-clause-opened g c =
    let files = g.F.Folder.files in
    let faults = g.F.Folder.folder_faults in
    let calls = g.F.Folder.folder_calls in
    let all : c.loop-folder.yielded ++ c.in-Some.folder ∷ c.next.new.self.rest.items ≡ c.args.folders.items = ap (λ l. c.loop-folder.yielded ++ l) (sym c.in-Some.ensures.steps.0) ∙ c.loop-folder.invariant.all in
    subst (λ (folders : List g.row.F.Denot). IsOpened c.args.first files faults calls folders (Err c.unopened.result)) all
    (opens_no_more files faults calls c.loop-folder.yielded c.in-Some.folder c.loop-folder.paths c.mount.new.self c.loop-folder.invariant.opened c.next.new.self.rest.items c.in-Err.error c.args.first c.unopened.result
    c.in-Err.ensures.mounted c.in-Err.ensures.error c.in-Err.ensures.kept c.unopened.ensures)

pub returns-in-Err-clause-not_small : goal.returns-in-Err-clause-not_small
returns-in-Err-clause-not_small g c = not_small c.in-Err.error c.args.first c.mount.new.self c.unopened.result c.unopened.ensures
