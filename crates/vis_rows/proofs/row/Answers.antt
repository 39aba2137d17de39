use Rattle.bsp29_build.proofs.ReaderLaws.{has_pairs}
use Rattle.vis_rows.proofs.row.Goals as goal

pub count-requires-clause-header : goal.count-requires-clause-header
count-requires-clause-header c = has_pairs c.args.image.now c.requires.image
