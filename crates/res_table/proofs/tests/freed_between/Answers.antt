use Rattle.res_table.proofs.Forgetting.{AreHeld-forgotten}
use Rattle.res_table.proofs.tests.freed_between.Goals as goal

pub ask-requires : goal.ask-requires
ask-requires g c = rw (c.forget_low.ensures, c.low_free.ensures.gives.after) (AreHeld-forgotten _ _ _ c.low_mark-level.result c.ask-wad.ensures c.size.ensures.laid)
