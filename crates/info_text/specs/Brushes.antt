-- What a brush model says of itself: how many rows its tables have, how many leafs can be seen, and each texture.
use Rattle.std.specs.Prelude.{ℕ, List, [], ◌∷◌, ◌++◌, Option, Some, None, decimal, codes}
use Rattle.std.specs.List.{flat_map, range_with_len}
use Rattle.reply_pieces.specs.Pieces.{joined}
use Rattle.bsp29_build.specs.declared.readers.BrushTexture.{BrushTexture}
use Rattle.bsp29_build.specs.Readers.{count_told, texture_told, visleafs_told}
use Rattle.info_text.specs.LumpNames.{shown}
use Rattle.info_text.specs.Numbers.{number_or_none}

abbrev pub nodes_text : (name image : List ℕ) → List ℕ
nodes_text name image = joined (codes "brush " ∷ name ∷ codes " planes " ∷ decimal (count_told image 1)
    ∷ codes " vertexes " ∷ decimal (count_told image 3) ∷ codes " nodes " ∷ decimal (count_told image 5)
    ∷ codes " texinfos " ∷ decimal (count_told image 6) ∷ codes " faces " ∷ decimal (count_told image 7)
    ∷ codes " clipnodes " ∷ decimal (count_told image 9) ∷ codes " leafs " ∷ decimal (count_told image 10) ∷ [])

abbrev pub surfaces_text : (image : List ℕ) → List ℕ
surfaces_text image = joined (codes " marksurfaces " ∷ decimal (count_told image 11)
    ∷ codes " edges " ∷ decimal (count_told image 12) ∷ codes " surfedges " ∷ decimal (count_told image 13)
    ∷ codes " models " ∷ decimal (count_told image 14) ∷ codes " textures " ∷ decimal (count_told image 2)
    ∷ codes " visleafs " ∷ decimal (visleafs_told image) ∷ codes "\n" ∷ [])

-- a texture with a name that is shown
abbrev pub texture_line : (number : ℕ) → (name : List ℕ) → BrushTexture → List ℕ
texture_line number name t = joined (codes "texture " ∷ decimal number ∷ codes " " ∷ name
    ∷ codes " " ∷ decimal t.width ∷ codes " " ∷ decimal t.height ∷ codes " total " ∷ decimal t.cycle.total
    ∷ codes " min " ∷ decimal t.cycle.least ∷ codes " max " ∷ decimal t.cycle.greatest
    ∷ codes " next " ∷ number_or_none t.cycle.next ∷ codes " alternate " ∷ number_or_none t.cycle.alternate
    ∷ codes "\n" ∷ [])

-- what a texture tells, where it isn't missing
abbrev pub texture_text : (number : ℕ) → Option BrushTexture → List ℕ
texture_text number None = joined (codes "texture " ∷ decimal number ∷ codes " missing\n" ∷ [])
texture_text number (Some t) = texture_line number (shown t.name) t

-- the texture of a number
abbrev pub texture_row : (image : List ℕ) → (number : ℕ) → List ℕ
texture_row image number = texture_text number (texture_told image number)

-- all textures, in their order
abbrev pub textures_text : (image : List ℕ) → List ℕ
textures_text image = flat_map (texture_row image) (range_with_len 0 (count_told image 2))

abbrev pub brush_text : (name image : List ℕ) → List ℕ
brush_text name image = nodes_text name image ++ (surfaces_text image ++ textures_text image)
