use Rattle.std.proofs.Common.{◌≡◌, true, false, refl, rules}
use Rattle.res_table.specs.declared.kinds.Table.TheVariants.{Models}
use Rattle.console_session.specs.Commands.{is_wad, takes_wad, wad_text}
use Rattle.console_session.proofs.Acquiring.{does_resource, does_wad}
use Rattle.console_session.proofs.Holding.{holds_names}
use Rattle.console_session.proofs.console.Console.take_wad.Goals as goal

pub returns-in_default-kind : goal.returns-in_default-kind
returns-in_default-kind g c =
    let e = c.acquire-answer.ensures in
    let name = c.in-Some.name in
    let other : is_wad c.in-Ok.res.kind ≡ false = search rules in
    let does = does_resource g.M.Store g.F.Folder g.O.Sink Models name c.args.self.now _ c.args.out.now _ c.acquire-answer.result _ (wad_text name) (takes_wad name)
    e.told e.unasked (rw (c.in-Ok.is, other) refl) (λ t holds. holds_names t _ t.map holds) c.requires.holds e.laid e.held e.low e.zone e.same e.faults e.fault e.memory (rw (c.in-Ok.is, other) c.put_not_wad.ensures) in
    rw c.in-Some.is (does_wad g.M.Store g.F.Folder g.O.Sink Models name c.args.self.now _ c.args.out.now _ c.acquire-answer.result _ does)

pub returns-in-Wad : goal.returns-in-Wad
returns-in-Wad g c =
    let e = c.acquire-answer.ensures in
    let name = c.in-Some.name in
    let wad : is_wad c.in-Ok.res.kind ≡ true = rw c.in-Wad.is refl in
    let does = does_resource g.M.Store g.F.Folder g.O.Sink Models name c.args.self.now _ c.args.out.now _ c.acquire-answer.result _ (wad_text name) (takes_wad name)
    e.told e.unasked (rw (c.in-Ok.is, wad, c.copied.ensures) refl) (λ t holds. holds_names t _ t.map holds) c.requires.holds e.laid e.held e.low e.zone e.same e.faults e.fault e.memory (rw (c.in-Ok.is, wad) c.put_res.ensures) in
    rw c.in-Some.is (does_wad g.M.Store g.F.Folder g.O.Sink Models name c.args.self.now _ c.args.out.now _ c.acquire-answer.result _ does)

pub returns-in-Err : goal.returns-in-Err
returns-in-Err g c =
    let e = c.acquire-answer.ensures in
    let name = c.in-Some.name in
    let does = does_resource g.M.Store g.F.Folder g.O.Sink Models name c.args.self.now _ c.args.out.now _ c.acquire-answer.result _ (wad_text name) (takes_wad name)
    e.told e.unasked (rw c.in-Err.is refl) (λ t holds. holds_names t _ t.map holds) c.requires.holds e.laid e.held e.low e.zone e.same e.faults e.fault e.memory (rw c.in-Err.is c.put_refused.ensures) in
    rw c.in-Some.is (does_wad g.M.Store g.F.Folder g.O.Sink Models name c.args.self.now _ c.args.out.now _ c.acquire-answer.result _ does)
