-- What the image of a wad has, so that its lumps and its pictures may be looked up.
use Rattle.std.proofs.Common.{◌≡◌, ℕ, ◌≤◌, ◌^◌, List, length, Result, Ok, Err, arith}
use Rattle.res_table.specs.declared.answers.Fault.{Fault}
use Rattle.res_table.specs.declared.answers.Fault.TheVariants as fault
use Rattle.res_table.specs.declared.kinds.Kind.TheVariants as kind
use Rattle.res_table.specs.Images.{IsImage, told_by}
use Rattle.wad2_lumps.specs.Images.{image_of as wad_of}
use Rattle.wad2_lumps.specs.Wads.{IsWad}
use Rattle.wad2_lumps.proofs.ImageLaws.{is_wad, length_of_image}

-- an image that is told is the one that was made
made_of : {F : Type 0} (tell : F → Fault) (made : Result (List ℕ) F) (image : List ℕ) → told_by tell made ≡ Ok image → made ≡ Ok image
made_of tell (Ok bytes) image told = cc
made_of tell (Err wrong) image told = absurd (cc)

made_wad : (image : List ℕ) (is : IsImage kind.Wad image) → wad_of is.source ≡ Ok image
made_wad image is = made_of fault.Wad (wad_of is.source) image is.image

-- it is a wad
pub image_wad : (image : List ℕ) → IsImage kind.Wad image → IsWad image
image_wad image is = is_wad is.source image (made_wad image is)

-- it is no longer than a file
pub image_small : (image : List ℕ) → IsImage kind.Wad image → length image ≤ 2 ^ 26
image_small image is = omega (arith, (length_of_image is.source image (made_wad image is)).1, is.small)

pub ruleset wad_laws = (image_wad, image_small)
