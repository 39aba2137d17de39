-- The sections of an image, and what the passes have written of one so far.
use Rattle.std.specs.Prelude.{ℕ, ◌≡◌, ◌+◌, ◌-◌, ◌*◌, ◌≤◌, List, [], ◌++◌, length}
use Rattle.alias_load.specs.declared.header.Kind.{Kind}
use Rattle.alias_load.specs.declared.section.Section.{Section}
use Rattle.alias_load.specs.declared.section.Section.TheVariants.{SkinRows, FrameRows, Intervals}
use Rattle.alias_load.specs.declared.section.Section.TheVariants.{PoseRows, Pictures, Vertices}
use Rattle.alias_load.specs.Models.{Series}
use Rattle.alias_load.specs.Images.{skin_row, frame_row, interval_piece, pose_piece, picture_piece, vertex_piece}

abbrev pub piece_of : Section → ℕ → Series → List ℕ
piece_of SkinRows = skin_row
piece_of FrameRows = frame_row
piece_of Intervals = interval_piece
piece_of PoseRows = pose_piece
piece_of Pictures = picture_piece
piece_of Vertices = vertex_piece

-- the bytes of a piece: so many, and so many for each picture or pose
abbrev pub fixed : Section → ℕ
fixed SkinRows = 12
fixed FrameRows = 20
fixed Intervals = 0
fixed PoseRows = 0
fixed Pictures = 0
fixed Vertices = 0

abbrev pub per_item : Section → Kind → ℕ
per_item SkinRows kind = 0
per_item FrameRows kind = 0
per_item Intervals kind = 4
per_item PoseRows kind = 28
per_item Pictures kind = kind.item
per_item Vertices kind = kind.item - 24

-- frames are of poses, which have their bounds and a name
abbrev pub IsOfPoses : Kind → Type 0
IsOfPoses kind = (kind.bounds ≡ 8) × (24 ≤ kind.item)

abbrev pub Suits : Section → Kind → Type 0
Suits SkinRows kind = Unit {0}
Suits FrameRows kind = IsOfPoses kind
Suits Intervals kind = Unit {0}
Suits PoseRows kind = IsOfPoses kind
Suits Pictures kind = Unit {0}
Suits Vertices kind = IsOfPoses kind

-- the bytes of all pieces of n skins or frames, with so many pictures or poses
abbrev pub bytes_of : Section → Kind → ℕ → ℕ → ℕ
bytes_of section kind n items = fixed section * n + per_item section kind * items

-- the number of the next picture or pose, and the pieces so far
pub record Texts : Type 0 where
  pub first : ℕ
  pub text : List ℕ

abbrev pub no_texts : Texts
no_texts = record { first = 0; text = [] }

abbrev pub add_piece : (ℕ → Series → List ℕ) → Texts → Series → Texts
add_piece piece s x = record { first = s.first + length x.items; text = s.text ++ piece s.first x }
