-- What the images of each kind have.
use Rattle.std.proofs.Common.{◌≡◌, ℕ, ◌≤◌, List, length, Result, Ok, Err, arith}
use Rattle.alias_load.specs.Images.{image_of as alias_of}
use Rattle.alias_load.proofs.ImageLaws.{length_of_image as length_of_alias}
use Rattle.bsp29_build.specs.Images.{image_of as brush_of}
use Rattle.bsp29_build.specs.Readers.{IsBrush}
use Rattle.res_table.specs.declared.answers.Fault.{Fault}
use Rattle.res_table.specs.declared.answers.Fault.TheVariants as fault
use Rattle.res_table.specs.declared.kinds.Kind.TheVariants as kind
use Rattle.res_table.specs.Images.{IsImage, told_by}
use Rattle.sprite_load.specs.Images.{image_of as sprite_of}
use Rattle.sprite_load.proofs.ImageLaws.{length_of_image as length_of_sprite}
use Rattle.wad2_lumps.specs.Images.{image_of as wad_of}
use Rattle.wad2_lumps.specs.Wads.{IsWad}
use Rattle.wad2_lumps.proofs.ImageLaws.{is_wad}
use Rattle.wav_load.specs.Images.{image_of as sound_of}
use Rattle.wav_load.proofs.ImageLaws.{length_of_image as length_of_sound}

-- an image that is told is the one that was made
made_of : {F : Type 0} (tell : F → Fault) (made : Result (List ℕ) F) (image : List ℕ) → told_by tell made ≡ Ok image
    → made ≡ Ok image
made_of tell (Ok bytes) image told = cc
made_of tell (Err wrong) image told = absurd (cc)

-- the image of a brush model is one of some file
pub brush_is : (image : List ℕ) → IsImage kind.Brush image → IsBrush image
brush_is image is = record { file = is.source; is = made_of fault.Brush (brush_of is.source) image is.image }

-- the image of an alias model has a header of 88 bytes
pub alias_long : (image : List ℕ) → IsImage kind.Alias image → 88 ≤ length image
alias_long image is =
    (length_of_alias is.source image (made_of fault.Alias (alias_of is.source) image is.image)).0

-- the image of a sprite has a header of 36 bytes
pub sprite_long : (image : List ℕ) → IsImage kind.Sprite image → 36 ≤ length image
sprite_long image is =
    let long = length_of_sprite is.source image (made_of fault.Sprite (sprite_of is.source) image is.image) in
    omega (arith, long.0)

-- the image of a sound has a header of 20 bytes
pub sound_long : (image : List ℕ) → IsImage kind.Sound image → 20 ≤ length image
sound_long image is =
    (length_of_sound is.speed is.source image (made_of fault.Sound (sound_of is.speed is.source) image is.image)).0

-- the image of a wad is a wad
pub wad_is : (image : List ℕ) → IsImage kind.Wad image → IsWad image
wad_is image is = is_wad is.source image (made_of fault.Wad (wad_of is.source) image is.image)
