use Rattle.std.proofs.Common.{Some, refl, sym, ◌∙◌}
use Rattle.mem_model.proofs.Untouched.{zone-low_free}
use Rattle.res_table.specs.Forgotten.{forgotten}
use Rattle.res_table.specs.declared.kinds.Table.TheVariants.{Models}
use Rattle.map_change.specs.Changes.{freed_to}
use Rattle.console_session.specs.Commands.{answer_map, map_text, takes_map}
use Rattle.console_session.specs.Serving.{seen}
use Rattle.console_session.proofs.Acquiring.{cleared_holds, does_from}
use Rattle.console_session.proofs.Holding.{holds_names}
use Rattle.console_session.proofs.console.Console.change_map.Goals as goal

pub returns : goal.returns
returns g c =
    let e = c.change_map-answer.ensures in
    let file = c.in-Some.file in
    let old = c.args.self.now in
    let m = g.M.Store.state old.store in
    let does = does_from g.M.Store g.F.Folder g.O.Sink Models file old _ c.args.out.now _ c.change_map-answer.result _
    (freed_to old.level m) (forgotten old.level old.table) (answer_map (Some file)) (map_text file) (takes_map file) refl
    e.told e.unasked (rw c.map_after-self.ensures refl) (λ t holds. holds_names t t.wad _ holds) (cleared_holds (seen g.M.Store g.F.Folder old) c.requires.holds) e.laid e.held e.low (e.zone ∙ sym (zone-low_free m old.level)) e.same e.faults e.fault e.memory c.put_map.ensures in
    rw c.in-Some.is does
