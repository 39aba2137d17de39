use Rattle.std.proofs.Common.{sym}
use Rattle.mem_model.proofs.Laying.{over_front}
use Rattle.mem_model.proofs.plain.copy_front.Goals as goal

pub returns : goal.returns
returns c = rw c.copy_from_slice.ensures.after (sym (over_front c.args.bytes.now c.args.source.now c.requires))
