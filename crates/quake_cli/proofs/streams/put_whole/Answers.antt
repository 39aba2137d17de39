use Rattle.std.proofs.Common.{rules, subst}
use Rattle.std.specs.Io.KnownBytes.{Appends}
use Rattle.std.proofs.KnownBytes.{Appends-trans}
use Rattle.quake_cli.proofs.Fronts.{take_more}
use Rattle.quake_cli.proofs.streams.put_whole.Goals as goal

pub put-preserved : goal.put-preserved
put-preserved g c =
    (search rules, subst (Appends _ _) (take_more c.put.written c.in_ok-n.n c.args.piece.now) (Appends-trans _ _ _ _ _ c.put.invariant.1 c.in_ok-n.ensures.bytes))
