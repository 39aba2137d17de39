-- What is wrong with the bytes of a file that are no resource.
use Rattle.std.specs.Prelude.{ℕ, List, [], ◌∷◌, decimal, codes}
use Rattle.reply_pieces.specs.Pieces.{joined}
use Rattle.alias_load.specs.declared.fault.AliasFault.{AliasFault}
use Rattle.alias_load.specs.declared.fault.AliasFault.TheVariants as alias
use Rattle.alias_load.specs.declared.fault.AliasField.{AliasField}
use Rattle.alias_load.specs.declared.fault.AliasField.TheVariants as field
use Rattle.alias_load.specs.declared.fault.AliasPart.{AliasPart}
use Rattle.alias_load.specs.declared.fault.AliasPart.TheVariants as part
use Rattle.bsp29_tables.specs.declared.fault.BspFault.{BspFault}
use Rattle.bsp29_tables.specs.declared.fault.BspFault.TheVariants as brush
use Rattle.res_table.specs.declared.answers.Fault.{Fault}
use Rattle.res_table.specs.declared.answers.Fault.TheVariants as fault
use Rattle.sprite_load.specs.declared.fault.SpriteFault.{SpriteFault}
use Rattle.sprite_load.specs.declared.fault.SpriteFault.TheVariants as sprite
use Rattle.wad2_lumps.specs.declared.fault.WadFault.{WadFault}
use Rattle.wad2_lumps.specs.declared.fault.WadFault.TheVariants as wad
use Rattle.wav_load.specs.declared.fault.WavFault.{WavFault}
use Rattle.wav_load.specs.declared.fault.WavFault.TheVariants as wav

-- a text and a number
abbrev pub numbered : List ℕ → ℕ → List ℕ
numbered text number = joined (text ∷ decimal number ∷ [])

-- the word for a part of an alias model's file
abbrev pub part_text : AliasPart → List ℕ
part_text part.Skin = codes "skin"
part_text part.St = codes "st"
part_text part.Triangle = codes "triangle"
part_text part.Frame = codes "frame"

-- the word for a number in the header of an alias model's file
abbrev pub field_text : AliasField → List ℕ
field_text field.Numskins = codes "numskins"
field_text field.Skinwidth = codes "skinwidth"
field_text field.Skinheight = codes "skinheight"
field_text field.Numverts = codes "numverts"
field_text field.Numtris = codes "numtris"
field_text field.Numframes = codes "numframes"

-- what is wrong in a row of a part
abbrev pub row_text : List ℕ → AliasPart → ℕ → List ℕ
row_text text part row = joined (text ∷ part_text part ∷ codes " " ∷ decimal row ∷ [])

-- what is wrong with an alias model
abbrev pub alias_wrong : AliasFault → List ℕ
alias_wrong alias.Short = codes "short"
alias_wrong (alias.Version found) = numbered (codes "version ") found
alias_wrong (alias.Header field) = joined (codes "header " ∷ field_text field ∷ [])
alias_wrong (alias.Truncated part) = joined (codes "truncated " ∷ part_text part ∷ [])
alias_wrong (alias.Group part row) = row_text (codes "group ") part row
alias_wrong (alias.Interval part row) = row_text (codes "interval ") part row
alias_wrong (alias.Triangle row) = numbered (codes "triangle ") row

-- what is wrong with a lump, or a texture, of this number
abbrev pub of_number : List ℕ → ℕ → List ℕ → List ℕ
of_number word number wrong = joined (word ∷ decimal number ∷ wrong ∷ [])

-- what is wrong with a brush model
abbrev pub brush_wrong : BspFault → List ℕ
brush_wrong brush.Short = codes "short"
brush_wrong (brush.Version found) = numbered (codes "version ") found
brush_wrong (brush.LumpOutside lump) = of_number (codes "lump ") lump (codes " outside")
brush_wrong (brush.LumpSize lump) = of_number (codes "lump ") lump (codes " size")
brush_wrong (brush.LumpCount lump) = of_number (codes "lump ") lump (codes " too many")
brush_wrong brush.NoModel = codes "no model"
brush_wrong brush.TextureTable = codes "texture table"
brush_wrong (brush.TextureOutside texture) = of_number (codes "texture ") texture (codes " outside")
brush_wrong (brush.TextureSize texture) = of_number (codes "texture ") texture (codes " size")
brush_wrong (brush.BadAnimation texture) = of_number (codes "texture ") texture (codes " bad animation")
brush_wrong (brush.MissingFrame texture frame) =
    joined (codes "texture " ∷ decimal texture ∷ codes " missing frame " ∷ (frame ∷ []) ∷ [])
brush_wrong (brush.BadRow lump row) = joined (codes "lump " ∷ decimal lump ∷ codes " row " ∷ decimal row ∷ [])
brush_wrong brush.TooLarge = codes "too large"

-- what is wrong with a sprite
abbrev pub sprite_wrong : SpriteFault → List ℕ
sprite_wrong sprite.Short = codes "short"
sprite_wrong (sprite.Version found) = numbered (codes "version ") found
sprite_wrong sprite.Frames = codes "header numframes"
sprite_wrong sprite.Truncated = codes "truncated frame"
sprite_wrong (sprite.Group row) = numbered (codes "group frame ") row
sprite_wrong (sprite.Interval row) = numbered (codes "interval frame ") row
sprite_wrong (sprite.Size row) = numbered (codes "size frame ") row

-- what is wrong with a wad
abbrev pub wad_wrong : WadFault → List ℕ
wad_wrong wad.NotWad = codes "not wad"
wad_wrong wad.TableOutside = codes "table outside"

-- what is wrong with a sound
abbrev pub wav_wrong : WavFault → List ℕ
wav_wrong wav.NotRiff = codes "not riff"
wav_wrong wav.NoFmt = codes "no fmt"
wav_wrong wav.NotPcm = codes "not pcm"
wav_wrong wav.NotMono = codes "not mono"
wav_wrong wav.Width = codes "width"
wav_wrong wav.NoData = codes "no data"
wav_wrong wav.BadLoop = codes "bad loop"
wav_wrong wav.TooLong = codes "too long"
wav_wrong (wav.Rate rate) = numbered (codes "rate ") rate

-- what is wrong with a resource
abbrev pub fault_text : Fault → List ℕ
fault_text (fault.Brush wrong) = brush_wrong wrong
fault_text (fault.Alias wrong) = alias_wrong wrong
fault_text (fault.Sprite wrong) = sprite_wrong wrong
fault_text (fault.Wad wrong) = wad_wrong wrong
fault_text (fault.Sound wrong) = wav_wrong wrong
