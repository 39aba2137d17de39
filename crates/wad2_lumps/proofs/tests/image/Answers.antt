use Rattle.std.proofs.Common.{◌≡◌, Ok, arith}
use Rattle.std.proofs.lemmas.Grind.{common_steps}
use Rattle.wad2_lumps.specs.Images.{image_of}
use Rattle.wad2_lumps.proofs.ImageLaws.{is_wad}
use Rattle.wad2_lumps.proofs.tests.image.Goals as goal

pub lump-lump-requires : goal.lump-lump-requires
lump-lump-requires c =
    let made : image_of c.args.file.now ≡ Ok c.deref.result.now = grind (arith, common_steps) in
    is_wad c.args.file.now c.deref.result.now made
