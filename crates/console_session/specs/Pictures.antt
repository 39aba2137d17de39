-- The picture of a lump, and what is told of it.
use Rattle.std.specs.Prelude.{ℕ, List, Result, Ok, Err}
use Rattle.info_text.specs.LumpErrors.{lump_error_text}
use Rattle.info_text.specs.Pictures.{picture_text}
use Rattle.info_text.specs.declared.lump_errors.LumpError.{LumpError}
use Rattle.info_text.specs.declared.lump_errors.LumpError.TheVariants as error
use Rattle.wad2_lumps.specs.Lumps.{lump_in}
use Rattle.wad2_lumps.specs.Pictures.{picture_in}
use Rattle.wad2_lumps.specs.declared.answers.Lump.{Lump}
use Rattle.wad2_lumps.specs.declared.answers.Lump.TheVariants.{Found, Absent, Compressed}
use Rattle.wad2_lumps.specs.declared.answers.Picture.{Picture}
use Rattle.wad2_lumps.specs.declared.fault.PicFault.{PicFault}
use Rattle.wad2_lumps.specs.declared.fault.PicFault.TheVariants as fault

-- a picture that was read, or why there is none to show
abbrev pub picture_read : Result Picture PicFault → Result Picture LumpError
picture_read (Ok picture) = Ok picture
picture_read (Err fault.NotPicture) = Err error.NotPicture
picture_read (Err fault.Outside) = Err error.Outside

-- the same of a lump of a wad
abbrev pub picture_of : (image : List ℕ) → Lump → Result Picture LumpError
picture_of image (Found offset size kind) = picture_read (picture_in image offset kind)
picture_of image Absent = Err error.Absent
picture_of image Compressed = Err error.Compressed

abbrev pub picture_told : (name image : List ℕ) → Result Picture LumpError → List ℕ
picture_told name image (Ok picture) = picture_text name picture image
picture_told name image (Err error) = lump_error_text name error

-- what is told of the lump of a name
abbrev pub lump_text : (name image : List ℕ) → List ℕ
lump_text name image = picture_told name image (picture_of image (lump_in image name))
