use Rattle.std.proofs.Common.{◌∙◌, Ok, ap, sym}
use Rattle.wad2_lumps.proofs.ImageLaws.{image_there}
use Rattle.wad2_lumps.proofs.builder.put_image.Goals as goal

pub returns : goal.returns
returns c = image_there c.args.source.now _ c.requires ∙ ap Ok (sym c.copy_from_slice.ensures.after)
