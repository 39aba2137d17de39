-- What a resource says of itself: a function of its name and of its image.
use Rattle.std.specs.Prelude.{ℕ, List, [], ◌∷◌, decimal, codes}
use Rattle.reply_pieces.specs.Pieces.{joined}
use Rattle.alias_load.specs.declared.image_header.AliasHeader.{AliasHeader}
use Rattle.alias_load.specs.Headers.{header_in as alias_in}
use Rattle.res_table.specs.declared.kinds.Kind.{Kind}
use Rattle.res_table.specs.declared.kinds.Kind.TheVariants as kind
use Rattle.sprite_load.specs.declared.header.SpriteHeader.{SpriteHeader}
use Rattle.sprite_load.specs.Headers.{header_in as sprite_in}
use Rattle.wav_load.specs.declared.header.SoundHeader.{SoundHeader}
use Rattle.wav_load.specs.Headers.{header_in as sound_in}
use Rattle.info_text.specs.Brushes.{brush_text}
use Rattle.info_text.specs.Numbers.{number_or_none}
use Rattle.info_text.specs.Wads.{wad_text}

abbrev pub alias_text : List ℕ → AliasHeader → List ℕ
alias_text name header = joined (codes "alias " ∷ name ∷ codes " skins " ∷ decimal header.skins
    ∷ codes " width " ∷ decimal header.width ∷ codes " height " ∷ decimal header.height
    ∷ codes " verts " ∷ decimal header.vertices ∷ codes " tris " ∷ decimal header.triangles
    ∷ codes " frames " ∷ decimal header.frames ∷ codes " pictures " ∷ decimal header.pictures
    ∷ codes " poses " ∷ decimal header.poses ∷ codes "\n" ∷ [])

abbrev pub sprite_text : List ℕ → SpriteHeader → List ℕ
sprite_text name header = joined (codes "sprite " ∷ name ∷ codes " type " ∷ decimal header.kind
    ∷ codes " frames " ∷ decimal header.frames ∷ codes " pictures " ∷ decimal header.pictures ∷ codes "\n" ∷ [])

abbrev pub sound_text : List ℕ → SoundHeader → List ℕ
sound_text name header = joined (codes "sound " ∷ name ∷ codes " length " ∷ decimal header.length
    ∷ codes " loop " ∷ number_or_none header.loop_start ∷ codes " speed " ∷ decimal header.speed
    ∷ codes " width " ∷ decimal header.width ∷ codes "\n" ∷ [])

-- what the image of each kind says
abbrev pub info_text : Kind → (name image : List ℕ) → List ℕ
info_text kind.Brush name image = brush_text name image
info_text kind.Alias name image = alias_text name (alias_in image)
info_text kind.Sprite name image = sprite_text name (sprite_in image)
info_text kind.Wad name image = wad_text name image
info_text kind.Sound name image = sound_text name (sound_in image)
