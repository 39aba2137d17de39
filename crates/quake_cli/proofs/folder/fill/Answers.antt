use Rattle.std.proofs.Common.{rules, sym, subst}
use Rattle.std.specs.Io.KnownBytes.{Consumes}
use Rattle.std.proofs.KnownBytes.{Consumes-trans}
use Rattle.quake_cli.proofs.Fronts.{take_past}
use Rattle.quake_cli.proofs.folder.fill.Goals as goal

pub fill-preserved : goal.fill-preserved
fill-preserved g c =
    (search rules, subst (Consumes _ _) (sym (take_past c.fill.filled c.in_ok-n.n _ c.fill.into c.read.new.buf c.fill.invariant.0 c.in_ok-n.ensures.bound.0)) (Consumes-trans _ _ _ _ _ c.fill.invariant.1 c.in_ok-n.ensures.bytes.0))
