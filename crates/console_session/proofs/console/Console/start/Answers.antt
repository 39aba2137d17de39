use Rattle.std.proofs.Common.{ap, ◌∙◌, sym, subst, arith}
use Rattle.mem_model.specs.Memory.{Memory}
use Rattle.res_table.specs.Held.{AreHeld}
use Rattle.res_table.specs.Resources.{Resources}
use Rattle.res_table.proofs.Holding.{AreHeld-new}
use Rattle.map_change.specs.Marks.{IsLowMark}
use Rattle.map_change.proofs.Marking.{mark_at_end}
use Rattle.console_session.specs.Serving.{path_of}
use Rattle.console_session.proofs.Holding.{holds_first, new_has_room}
use Rattle.console_session.proofs.console.Console.start.Goals as goal

pub unreachable-requires : goal.unreachable-requires
unreachable-requires g c = new_has_room (g.M.Store.state c.args.store) c.requires.new c.low_mark-level.ensures.laid c.in-Err-Full.field-0-0 (rw c.in-Err-Full.field-0-is at c.in-Err-Full.ensures.gives.1).answer

pub returns-in-Ok-clause-holds : goal.returns-in-Ok-clause-holds
returns-in-Ok-clause-holds g c =
    let m = g.M.Store.state c.args.store in
    let low = ap (λ (x : Memory). x.low) c.create.ensures.beside in
    let blocks = ap (λ (x : Memory). x.cache.blocks) c.create.ensures.beside ∙ ap (λ (x : Memory). x.cache.blocks) c.requires.new.is in
    let users = ap (λ (x : Memory). x.users) c.create.ensures.beside ∙ ap (λ (x : Memory). x.users) c.requires.new.is in
    let path = path_of g.F.Folder c.args.paths in
    let resources = subst (λ (t : Resources). AreHeld path.mounts t (g.M.Store.state c.create.new.store)) (sym c.requires.empty) (AreHeld-new path.mounts c.args.table.speed (g.M.Store.state c.create.new.store) blocks (omega (arith, users))) in
    let here : IsLowMark m.low c.low_mark-level.result = subst (λ k. IsLowMark m.low k) (sym c.low_mark-level.ensures.mark) (mark_at_end m.low c.low_mark-level.ensures.laid.low) in
    let mark = subst (λ l. IsLowMark l c.low_mark-level.result) (sym low) here in
    rw (c.create-in-Ok.ensures, c.create-in-Ok-2.ensures)
    (holds_first (g.M.Store.state c.create.new.store) path c.args.table c.low_mark-level.result c.in-Ok.cvars c.in-Ok.ensures.laid resources mark c.in-Ok.ensures.holds)
