use Rattle.std.proofs.Common.{refl, ap, rules}
use Rattle.mem_model.specs.Blocks.{CacheBlock}
use Rattle.mem_model.specs.Hunk.{over}
use Rattle.mem_model.specs.Images.{with_contents}
use Rattle.mem_model.proofs.cells.CacheCell.bytes_mut.Goals as goal

pub returns : goal.returns
unfolding over
returns c =
    ((refl, λ w. rw c.self.inside.bytes.ok.0 (ap (λ (b : CacheBlock). with_contents b w) c.self.view_is)), record { writes_back = tt; shows = search rules })
