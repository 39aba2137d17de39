-- The 34 resources of a game, by number: 24 sounds, 8 sprites, 2 maps.
use Rattle.std.specs.Prelude.{ℕ, ◌+◌, ◌-◌, ◌/◌, ◌%◌, nat_lt, if◌then◌else◌, List, [], ◌∷◌, ◌++◌, codes}
use Rattle.world_gen.specs.Files.{sound_file, behind_sound, sprite_file, behind_sprite, map_file}
use Rattle.world_gen.specs.declared.resources.Resource.{Resource}
use Rattle.world_gen.specs.declared.resources.Resource.TheVariants.{Sound, Sprite, Map}

unfoldable pub numbered : ℕ → Resource
numbered n = if nat_lt n 24 then Sound n else (if nat_lt n 32 then Sprite (n - 24) else Map (n - 32))

-- the last decimal digit of a number, and the last two
abbrev pub digit : ℕ → List ℕ
digit n = (48 + n % 10) ∷ []

abbrev pub two_digits : ℕ → List ℕ
two_digits n = (48 + n / 10 % 10) ∷ digit n

-- the name of its file
abbrev pub file_name : Resource → List ℕ
file_name (Sound n) = codes "sound/s" ++ two_digits n ++ codes ".wav"
file_name (Sprite n) = codes "p" ++ digit n ++ codes ".spr"
file_name (Map n) = codes "maps/m" ++ digit n ++ codes ".bsp"

-- the command that asks for it
abbrev pub command : Resource → List ℕ
command (Sound n) = codes "sound s" ++ two_digits n ++ codes ".wav\n"
command (Sprite n) = codes "model p" ++ digit n ++ codes ".spr\n"
command (Map n) = codes "map m" ++ digit n ++ codes "\n"

-- the bytes of its file, from the state of the draws before it
abbrev pub file_of : Resource → (state : ℕ) → List ℕ
file_of (Sound n) state = sound_file state
file_of (Sprite n) state = sprite_file state
file_of (Map n) state = map_file

-- the state of the draws behind it
abbrev pub behind_file : Resource → (state : ℕ) → ℕ
behind_file (Sound n) state = behind_sound state
behind_file (Sprite n) state = behind_sprite state
behind_file (Map n) state = state
