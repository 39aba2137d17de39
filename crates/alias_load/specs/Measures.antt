-- How long the sections of a file's image are.
use Rattle.std.specs.Prelude.{ℕ, ◌≡◌, ◌+◌, List, length, Result, IsOkAnd}
use Rattle.part_plan.specs.Plan.{run}
use Rattle.alias_load.specs.declared.fault.AliasFault.{AliasFault}
use Rattle.alias_load.specs.declared.file.File.{File}
use Rattle.alias_load.specs.declared.section.Section.{Section}
use Rattle.alias_load.specs.declared.section.Section.TheVariants.{SkinRows, FrameRows, Intervals}
use Rattle.alias_load.specs.declared.section.Section.TheVariants.{PoseRows, Pictures, Vertices}
use Rattle.alias_load.specs.Models.{Series}
use Rattle.alias_load.specs.Reading.{all_series, skins_of, frames_of, numskins, numframes}
use Rattle.alias_load.specs.Images.{pieces, image_text}
use Rattle.alias_load.specs.Sections.{Suits, piece_of, bytes_of}

abbrev pub skins_bytes : File → Section → ℕ
skins_bytes file section = bytes_of section (skins_of file.header.now) (numskins file.header.now) file.pictures

abbrev pub frames_bytes : File → Section → ℕ
frames_bytes file section = bytes_of section (frames_of file.header.now) (numframes file.header.now) file.poses

abbrev pub skins_in : File → Result (List Series × List ℕ) AliasFault
skins_in file = run (all_series (skins_of file.header.now) (numskins file.header.now)) file.skins.now

abbrev pub frames_in : File → Result (List Series × List ℕ) AliasFault
frames_in file = run (all_series (frames_of file.header.now) (numframes file.header.now)) file.frames.now

-- The sections of the skins and of the frames have these bytes.
pub record IsMeasured (file : File) : Type 0 where
  pub skins : (section : Section) → Suits section (skins_of file.header.now)
      → IsOkAnd (skins_in file) (λ x. length (pieces (piece_of section) 0 x.0) ≡ skins_bytes file section)
  pub frames : (section : Section)
      → IsOkAnd (frames_in file) (λ x. length (pieces (piece_of section) 0 x.0) ≡ frames_bytes file section)

-- the bytes of the image
abbrev pub length_of : File → ℕ
length_of file =
    88 + (skins_bytes file SkinRows + skins_bytes file Intervals + skins_bytes file Pictures)
    + (frames_bytes file FrameRows + frames_bytes file PoseRows + frames_bytes file Vertices)
    + length file.st_vertices.now + length file.triangles.now

-- the image, where these are the skins and the frames
abbrev pub text_of : File → List Series → List Series → List ℕ
text_of file skins frames =
    image_text file.header.now file.pictures file.poses skins file.st_vertices.now file.triangles.now frames
