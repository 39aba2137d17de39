-- The file of a resource, and its image.
use Rattle.std.specs.Prelude.{ℕ, ◌≡◌, ◌≤◌, ◌^◌, List, ◌++◌, length, codes, nat_eq, Result, Ok, Err, IsTrue, if◌then◌else◌}
use Rattle.std.specs.List.{starts_with}
use Rattle.base_fields.specs.Names.{is_game_name}
use Rattle.alias_load.specs.Images.{image_of as alias_of}
use Rattle.bsp29_build.specs.Images.{image_of as brush_of}
use Rattle.sprite_load.specs.Images.{image_of as sprite_of}
use Rattle.wad2_lumps.specs.Images.{image_of as wad_of}
use Rattle.wav_load.specs.Images.{image_of as sound_of}
use Rattle.res_table.specs.declared.answers.Fault.{Fault}
use Rattle.res_table.specs.declared.answers.Fault.TheVariants as fault
use Rattle.res_table.specs.declared.kinds.Kind.{Kind}
use Rattle.res_table.specs.declared.kinds.Kind.TheVariants as kind
use Rattle.res_table.specs.declared.kinds.Table.{Table}
use Rattle.res_table.specs.declared.kinds.Table.TheVariants.{Models, Sounds}

-- the name of the file of a resource
abbrev pub file_of : Table → List ℕ → List ℕ
file_of Models name = name
file_of Sounds name = codes "sound/" ++ name

-- it is the name of a game file
abbrev pub HasFileName : Table → List ℕ → Type 0
HasFileName table name = IsTrue (is_game_name (file_of table name))

-- What the bytes of a model are made into, by the first four. Those of other models are brushes.
abbrev pub model_kind : List ℕ → Kind
model_kind bytes =
    if starts_with nat_eq bytes (codes "IDPO") then kind.Alias
    else if starts_with nat_eq bytes (codes "IDSP") then kind.Sprite
    else if starts_with nat_eq bytes (codes "WAD2") then kind.Wad
    else kind.Brush

-- what the bytes of a file are made into
abbrev pub kind_of : Table → List ℕ → Kind
kind_of Models bytes = model_kind bytes
kind_of Sounds bytes = kind.Sound

-- an image, or a fault of its kind
abbrev pub told_by : {F : Type 0} → (F → Fault) → Result (List ℕ) F → Result (List ℕ) Fault
told_by tell (Ok image) = Ok image
told_by tell (Err wrong) = Err (tell wrong)

-- the image that bytes have as a kind, or their first fault, where sounds are played at this speed
abbrev pub image_of : ℕ → Kind → List ℕ → Result (List ℕ) Fault
image_of speed kind.Brush bytes = told_by fault.Brush (brush_of bytes)
image_of speed kind.Alias bytes = told_by fault.Alias (alias_of bytes)
image_of speed kind.Sprite bytes = told_by fault.Sprite (sprite_of bytes)
image_of speed kind.Wad bytes = told_by fault.Wad (wad_of bytes)
image_of speed kind.Sound bytes = told_by fault.Sound (sound_of speed bytes)

-- the bytes are an image of this kind, of some source, which is no longer than a file, at some speed
pub record IsImage (kind : Kind) (bytes : List ℕ) : Type 0 where
  pub speed : ℕ
  pub source : List ℕ
  pub small : length source ≤ 2 ^ 26
  pub image : image_of speed kind source ≡ Ok bytes
