use Rattle.std.proofs.Common.{◌≡◌, codes, refl, ap, arith}
use Rattle.mem_model.proofs.Keeping.{low-below_end}
use Rattle.res_table.specs.Held.{lows_of}
use Rattle.res_table.proofs.Holding.{AreHeld-lows}
use Rattle.console_session.specs.Commands.{inserted_file, exec_text}
use Rattle.console_session.specs.declared.console.Console.{Console}
use Rattle.console_session.specs.States.{State}
use Rattle.console_session.specs.Serving.{seen}
use Rattle.map_change.proofs.Marking.{mark_within}
use Rattle.console_session.proofs.Loading.{does_refused, does_loaded, exec_shape}
use Rattle.console_session.proofs.console.Console.exec.Goals as goal

pub returns-in-Err : goal.returns-in-Err
returns-in-Err g c = rw c.in-Some.is (does_refused g.M.Store g.F.Folder g.O.Sink (codes "couldn't exec ") _ inserted_file (λ s m place bytes. (refl, refl)) c.args.self.now c.load.new.self c.args.out.now _ _ c.in-Err.error
    c.in-Err.ensures.told c.in-Err.ensures.rest c.put_load_error.ensures)

pub returns-in-Ok : goal.returns-in-Ok
returns-in-Ok g c =
    let i = c.insert_loaded-inserted in
    rw c.in-Some.is (does_loaded g.M.Store g.F.Folder g.O.Sink (codes "couldn't exec ") _ inserted_file (λ s m place bytes. (refl, refl)) c.args.self.now i.new.self c.args.out.now _ _ c.load.new.self (c.in-Ok.place, c.in-Ok.size) (exec_text c.in-Some.name i.result)
    c.in-Ok.ensures.told c.in-Ok.ensures.rest
    (exec_shape g.M.Store g.F.Folder c.args.self.now c.load.new.self i.new.self c.in-Some.name (c.in-Ok.place, c.in-Ok.size) c.low_mark-mark.result i.result c.in-Ok.ensures.rest c.low_mark-mark.ensures.mark i.ensures.buffer i.ensures.fits i.ensures.memory i.ensures.rest)
    (ap (λ (x : Console g.row.M.Denot g.row.F.Denot). x.paths) i.ensures.rest) i.ensures.holds c.put_executed.ensures)

pub insert_loaded-inserted-requires-clause-below : goal.insert_loaded-inserted-requires-clause-below
insert_loaded-inserted-requires-clause-below g c =
    let s = seen g.M.Store g.F.Folder c.args.self.now in
    let same_level : c.load.new.self.level ≡ s.level = ap (λ (x : State). x.level) c.in-Ok.ensures.rest.state in
    omega (arith, same_level, mark_within s.memory.low s.level c.requires.holds.level, c.low_mark-mark.ensures.mark)

pub insert_loaded-inserted-requires-clause-lows : goal.insert_loaded-inserted-requires-clause-lows
insert_loaded-inserted-requires-clause-lows g c =
    let s = seen g.M.Store g.F.Folder c.args.self.now in
    let same_table : c.load.new.self.table ≡ s.table = ap (λ (x : State). x.table) c.in-Ok.ensures.rest.state in
    rw (same_table, c.low_mark-mark.ensures.mark) (low-below_end s.memory (lows_of s.table) c.requires.holds.laid (AreHeld-lows s.path.mounts s.table s.memory c.requires.holds.resources))
