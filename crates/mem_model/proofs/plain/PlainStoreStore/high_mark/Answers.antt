use Rattle.std.proofs.Common.{◌≡◌, ◌∙◌, ap}
use Rattle.mem_model.specs.Memory.{high_used}
use Rattle.mem_model.specs.Hunk.{without_temp}
use Rattle.mem_model.proofs.Calling.{high_mark_gives}
use Rattle.mem_model.proofs.plain.PlainStoreStore.high_mark.Goals as goal

pub returns-clause-gives : goal.returns-clause-gives
returns-clause-gives c =
    let used : c.self.inside.high_used ≡ high_used (without_temp c.args.self.now) = c.self.invariant.high_used ∙ ap high_used (c.self.view_is ∙ c.free_temp.ensures.freed) in
    rw (used, c.free_temp.ensures.freed) (high_mark_gives c.args.self.now c.free_temp.ensures.quiet)
