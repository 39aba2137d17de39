use Rattle.std.proofs.Common.{arith, get_or}
use Rattle.std.proofs.lemmas.List.{get_or_default}
use Rattle.mem_model.proofs.Shifts.{shifting_first, shifting_more, shifting_here, shifting_end}
use Rattle.mem_model.proofs.cache.touch.Goals as goal

pub loop-i-init : goal.loop-i-init
loop-i-init c = shifting_first c.args.recency.now c.args.user

pub returns-then-here-user : goal.returns-then-here-user
returns-then-here-user c = shifting_here c.loop-i.recency c.loop-i.carried c.args.user (get_or c.loop-i.recency c.loop-i.i 0) c.loop-i.i c.args.recency.now (omega arith) (get_or_default c.loop-i.recency c.loop-i.i 0 _ (omega arith)) c.if-here-user.true c.loop-i.invariant

pub loop-i-preserved : goal.loop-i-preserved
loop-i-preserved c = shifting_more c.loop-i.recency c.loop-i.carried c.args.user (get_or c.loop-i.recency c.loop-i.i 0) c.loop-i.i c.args.recency.now (omega arith) (get_or_default c.loop-i.recency c.loop-i.i 0 _ (omega arith)) c.if-here-user.false c.loop-i.invariant

pub returns : goal.returns
returns c = shifting_end c.loop-i.recency c.loop-i.carried c.args.user c.loop-i.i c.args.recency.now (omega arith) c.loop-i.invariant
