use Rattle.std.proofs.Common.{[], ap, subst, sym, ◌∙◌}
use Rattle.mem_model.specs.Memory.{Memory}
use Rattle.mem_model.proofs.Keeping.{Keeps-answer, Keeps-low_free}
use Rattle.mem_model.proofs.Untouched.{zone-low_free}
use Rattle.res_table.specs.Held.{lows_of}
use Rattle.console_session.specs.Serving.{seen}
use Rattle.map_change.specs.Marks.{IsLowMark}
use Rattle.map_change.proofs.Marking.{mark_freed}
use Rattle.console_session.proofs.Holding.{holds_memory, holds_buffer}
use Rattle.console_session.proofs.console.Console.insert_loaded.Goals as goal

pub returns-clause-holds : goal.returns-clause-holds
returns-clause-holds g c =
    let s = seen g.M.Store g.F.Folder c.args.self.now in
    let m : Memory = g.M.Store.state c.low_free.new.self in
    holds_buffer (record s { memory = m }) c.insert-inserted.new.buffer
    (holds_memory s m c.requires.holds c.low_free.ensures.laid
    (subst (λ (x : Memory). IsLowMark x.low s.level) (sym c.low_free.ensures.gives.after) (mark_freed s.memory c.args.mark s.level c.requires.holds.laid.low c.requires.holds.level c.requires.below))
    (ap (λ (x : Memory). x.zone) c.low_free.ensures.gives.after ∙ zone-low_free s.memory c.args.mark)
    (Keeps-answer c.low_free.ensures.gives (Keeps-low_free (lows_of s.table) [] s.memory c.args.mark c.requires.holds.laid c.requires.lows)))
    c.insert-inserted.ensures.text
