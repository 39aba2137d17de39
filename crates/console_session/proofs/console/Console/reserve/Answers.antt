use Rattle.std.proofs.Common.{[], codes, refl}
use Rattle.mem_model.specs.Operations.{low_alloc}
use Rattle.mem_model.specs.Told.{room_answer}
use Rattle.mem_model.proofs.Keeping.{Keeps-all, Keeps-gives, Keeps-low_alloc}
use Rattle.res_table.specs.Held.{lows_of}
use Rattle.console_session.specs.Serving.{seen}
use Rattle.map_change.proofs.Marking.{mark_given}
use Rattle.console_session.proofs.Holding.{holds_memory, zone_after_low}
use Rattle.console_session.proofs.Serving.{does_block}
use Rattle.console_session.proofs.console.Console.reserve.Goals as goal

pub returns : goal.returns
returns g c =
    let s = seen g.M.Store g.F.Folder c.args.self.now in
    let m = g.M.Store.state c.low_alloc-given.new.self in
    let holds = holds_memory s m c.requires.holds c.low_alloc-given.ensures.laid
    (mark_given s.memory m c.from.result s.level c.base.result.now g.M.Store.frugal (room_answer c.low_alloc-given.result) c.low_alloc-given.ensures.gives c.requires.holds.level)
    (zone_after_low s.memory m c.from.result c.base.result.now g.M.Store.frugal (room_answer c.low_alloc-given.result) c.low_alloc-given.ensures.gives)
    (Keeps-gives (low_alloc s.memory c.from.result c.base.result.now) g.M.Store.frugal (room_answer c.low_alloc-given.result) c.low_alloc-given.ensures.gives
    (Keeps-low_alloc (lows_of s.table) [] s.memory c.from.result c.base.result.now c.requires.holds.laid c.base.ensures.text) (Keeps-all (lows_of s.table) [] s.memory)) in
    rw (c.in-Some.is, c.in-Some-name.is) (does_block g.M.Store g.F.Folder g.O.Sink c.args.self.now _ c.args.out.now _ _ _ (codes "reserve ") c.in-Some-name.name c.in-Some.size _ s.memory c.low_alloc-given.result refl
    (rw (c.from.ensures, c.base.ensures.value) at c.low_alloc-given.ensures.gives) refl refl holds c.put_block.ensures)
