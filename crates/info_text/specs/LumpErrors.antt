-- The lines that tell why a lump isn't shown as a picture.
use Rattle.std.specs.Prelude.{ℕ, List, [], ◌∷◌, codes}
use Rattle.reply_pieces.specs.Pieces.{joined}
use Rattle.info_text.specs.LumpNames.{shown}
use Rattle.info_text.specs.declared.lump_errors.LumpError.{LumpError}
use Rattle.info_text.specs.declared.lump_errors.LumpError.TheVariants as error

-- what stands before the name, and what behind it
abbrev pub before_name : LumpError → List ℕ
before_name error.Absent = codes "no lump "
before_name error.Compressed = codes "compressed lump "
before_name error.NotPicture = codes "lump "
before_name error.Outside = codes "lump "

abbrev pub behind_name : LumpError → List ℕ
behind_name error.Absent = codes "\n"
behind_name error.Compressed = codes "\n"
behind_name error.NotPicture = codes " is no picture\n"
behind_name error.Outside = codes " outside\n"

abbrev pub lump_error_text : (name : List ℕ) → LumpError → List ℕ
lump_error_text name error = joined (before_name error ∷ shown name ∷ behind_name error ∷ [])
