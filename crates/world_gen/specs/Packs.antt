-- The pack of a game: a header, the files one behind the other, and the directory.
use Rattle.std.specs.Prelude.{ℕ, zero, suc, ◌+◌, ◌-◌, List, [], ◌∷◌, ◌++◌, length, replicate, codes}
use Rattle.std.specs.List.{flat_map}
use Rattle.world_gen.specs.Numbers.{word}
use Rattle.world_gen.specs.Resources.{numbered, file_name, file_of, behind_file}

-- a file by its name
pub record File : Type 0 where
  pub name : List ℕ
  pub bytes : List ℕ

-- the files of so many resources from a number on, each drawn behind the one before it
unfoldable pub files_from : (count : ℕ) → (number : ℕ) → (state : ℕ) → List File
files_from zero number state = []
files_from (suc count) number state =
    record { name = file_name (numbered number); bytes = file_of (numbered number) state }
    ∷ files_from count (number + 1) (behind_file (numbered number) state)

-- the state of the draws behind them
unfoldable pub behind_files : (count : ℕ) → (number : ℕ) → (state : ℕ) → ℕ
behind_files zero number state = state
behind_files (suc count) number state = behind_files count (number + 1) (behind_file (numbered number) state)

-- what the files hold
unfoldable pub contents : List File → List ℕ
contents files = flat_map (λ file. file.bytes) files

-- a row of the directory: a name with zeros up to 56 bytes, where the file stands in the pack, and its length
unfoldable pub row : (name : List ℕ) → (at : ℕ) → (size : ℕ) → List ℕ
row name at size = name ++ replicate (56 - length name) 0 ++ word at ++ word size

-- a row for each file, the first of which stands at a place
unfoldable pub rows_from : (at : ℕ) → List File → List ℕ
rows_from at [] = []
rows_from at (file ∷ files) = row file.name at (length file.bytes) ++ rows_from (at + length file.bytes) files

-- where the directory stands, and how many bytes it has
unfoldable pub pack_header : (at : ℕ) → (size : ℕ) → List ℕ
pack_header at size = codes "PACK" ++ word at ++ word size

unfoldable pub pack : List File → List ℕ
pack files =
    pack_header (12 + length (contents files)) (length (rows_from 12 files)) ++ contents files ++ rows_from 12 files

-- the pack of a game's number
unfoldable pub pack_of : ℕ → List ℕ
pack_of number = pack (files_from 34 0 number)
