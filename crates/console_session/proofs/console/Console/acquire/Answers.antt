use Rattle.std.proofs.Common.{refl, rules}
use Rattle.std.specs.Prelude.{IsTrue}
use Rattle.base_fields.specs.Names.{is_game_name}
use Rattle.info_text.specs.Lines.{resource_text}
use Rattle.res_table.specs.Images.{file_of}
use Rattle.console_session.specs.Commands.{same_names}
use Rattle.console_session.proofs.Acquiring.{does_acquired, does_resource}
use Rattle.console_session.proofs.console.Console.acquire.Goals as goal

pub returns : goal.returns
returns g c =
    let e = c.acquire-answer.ensures in
    let name = c.in-Some.name in
    let lawful : IsTrue (is_game_name (file_of c.args.table name)) = search rules in
    let does = does_resource g.M.Store g.F.Folder g.O.Sink c.args.table name c.args.self.now _ c.args.out.now _ c.acquire-answer.result _ (resource_text name) same_names
    e.told e.unasked refl (λ t holds. holds) c.requires.holds e.laid e.held e.low e.zone e.same e.faults e.fault e.memory c.put_acquired.ensures in
    rw c.in-Some.is (does_acquired g.M.Store g.F.Folder g.O.Sink c.args.table name c.args.self.now _ c.args.out.now _ c.acquire-answer.result _ lawful does)
