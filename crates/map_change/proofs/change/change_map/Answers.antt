use Rattle.std.proofs.Common.{ap, ◌∙◌, arith}
use Rattle.mem_model.specs.Memory.{Memory}
use Rattle.mem_model.proofs.Untouched.{zone-low_free}
use Rattle.res_table.proofs.Forgetting.{AreHeld-forgotten}
use Rattle.map_change.proofs.Marking.{mark_below, mark_freed}
use Rattle.map_change.proofs.change.change_map.Goals as goal

pub acquire-requires-clause-held : goal.acquire-requires-clause-held
acquire-requires-clause-held g c =
    rw (c.forget_low.ensures, c.low_free.ensures.gives.after) (AreHeld-forgotten _ _ _ c.args.level c.requires.held c.requires.laid)

pub returns-clause-keeps : goal.returns-clause-keeps
returns-clause-keeps g c = rw (c.forget_low.ensures, c.low_free.ensures.gives.after) at c.acquire.ensures.keeps

pub returns-clause-refused : goal.returns-clause-refused
returns-clause-refused g c = rw c.low_free.ensures.gives.after at c.acquire.ensures.refused

pub returns-clause-zone : goal.returns-clause-zone
returns-clause-zone g c =
    c.acquire.ensures.zone ∙ ap (λ (m : Memory). m.zone) c.low_free.ensures.gives.after ∙ zone-low_free (g.M.Store.state c.args.store.now) c.args.level

pub returns-clause-level : goal.returns-clause-level
returns-clause-level g c =
    let low = rw c.low_free.ensures.gives.after at c.acquire.ensures.low in
    rw low.1 (mark_below _ low.0 c.args.level (mark_freed _ c.args.level c.args.level c.requires.laid.low c.requires.level (omega arith)))
