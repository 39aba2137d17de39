-- The words that ask for a game that is made from a number, and what its folder has.
use Rattle.std.specs.Prelude.{ℕ, List, [], ◌∷◌, take, drop, bytes_eq, codes, Option, None, if◌then◌else◌}
use Rattle.base_fields.specs.Numbers.{number_of}
use Rattle.outside_io.specs.Files.{File}
use Rattle.world_gen.specs.Packs.{pack_of}
use Rattle.world_gen.specs.Scripts.{script_of}

-- the number of the game: 1 to 9 digits behind `gen:`
abbrev pub number_asked : List ℕ → Option ℕ
number_asked word = if bytes_eq (take 4 word) (codes "gen:") then number_of (drop 4 word) else None

-- its pack and its script
abbrev pub game_files : (number : ℕ) → List File
game_files number =
    record { name = codes "pak0.pak"; bytes = pack_of number }
    ∷ record { name = codes "gen.cfg"; bytes = script_of number }
    ∷ []
