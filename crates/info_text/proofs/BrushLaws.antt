-- What is known of the image of a brush model.
use Rattle.bsp29_build.proofs.ReaderLaws.{has_pairs}

pub ruleset brush_laws = (has_pairs)
