-- The image of an alias model.
use Rattle.std.specs.Prelude.{ℕ, ◌+◌, if◌then◌else◌, List, [], ◌∷◌, ◌++◌, length, drop, Result}
use Rattle.std.specs.List.{concat, flat_map}
use Rattle.base_fields.specs.Fields.{field, u32_bytes}
use Rattle.part_plan.specs.Plan.{run, seen}
use Rattle.alias_load.specs.declared.fault.AliasFault.{AliasFault}
use Rattle.alias_load.specs.Models.{Series, Alias}
use Rattle.alias_load.specs.Reading.{is_single, alias}

-- the pictures of all skins, or the poses of all frames
abbrev pub count_of : List Series → ℕ
count_of [] = 0
count_of (x ∷ xs) = length x.items + count_of xs

-- a piece for each skin or frame, one behind the other; each piece knows the number of its first picture or pose
abbrev pub pieces : (ℕ → Series → List ℕ) → ℕ → List Series → List ℕ
pieces piece first [] = []
pieces piece first (x ∷ xs) = piece first x ++ pieces piece (first + length x.items) xs

-- 1 for a group, else 0; the first; and how many
abbrev pub skin_row : ℕ → Series → List ℕ
skin_row first x = u32_bytes (if is_single x.head then 0 else 1) ++ (u32_bytes first ++ u32_bytes (length x.items))

-- the bounds of a group stand behind its count, and those of a single pose at its front
abbrev pub bounds_of : Series → List ℕ
bounds_of x = if is_single x.head then field 8 (concat x.items) 0 else field 8 x.head.count 4

abbrev pub frame_row : ℕ → Series → List ℕ
frame_row first x = skin_row first x ++ bounds_of x

-- 0 for a single one
abbrev pub intervals_of : Series → List ℕ
intervals_of x = if is_single x.head then u32_bytes 0 else x.head.intervals

abbrev pub interval_piece : ℕ → Series → List ℕ
interval_piece first x = intervals_of x

-- an interval of four bytes, the bounds and the name, for each pose
abbrev pub pose_rows : List ℕ → List (List ℕ) → List ℕ
pose_rows intervals [] = []
pose_rows intervals (pose ∷ poses) = (field 4 intervals 0 ++ field 24 pose 0) ++ pose_rows (drop 4 intervals) poses

abbrev pub pose_piece : ℕ → Series → List ℕ
pose_piece first x = pose_rows (intervals_of x) x.items

abbrev pub picture_piece : ℕ → Series → List ℕ
picture_piece first x = concat x.items

-- the vertices of a pose stand behind its bounds and its name
abbrev pub vertices_in : List (List ℕ) → List ℕ
vertices_in poses = flat_map (drop 24) poses

abbrev pub vertex_piece : ℕ → Series → List ℕ
vertex_piece first x = vertices_in x.items

-- the number 2, the header from 8 on, and how many pictures and poses there are
abbrev pub front_of : List ℕ → ℕ → ℕ → List ℕ
front_of header pictures poses = u32_bytes 2 ++ (field 76 header 8 ++ (u32_bytes pictures ++ u32_bytes poses))

abbrev pub image_text : List ℕ → ℕ → ℕ → List Series → List ℕ → List ℕ → List Series → List ℕ
image_text header pictures poses skins st_vertices triangles frames =
    front_of header pictures poses
    ++ (pieces skin_row 0 skins
    ++ (pieces frame_row 0 frames
    ++ (pieces interval_piece 0 skins
    ++ (pieces pose_piece 0 frames
    ++ (st_vertices
    ++ (triangles ++ (pieces picture_piece 0 skins ++ pieces vertex_piece 0 frames)))))))

unfoldable pub image : Alias → List ℕ
image model =
    image_text model.header (count_of model.skins) (count_of model.frames) model.skins
    model.st_vertices model.triangles model.frames

-- the image of a file, or its first fault
unfoldable pub image_of : List ℕ → Result (List ℕ) AliasFault
image_of bytes = seen (λ read. image read.0) (run alias bytes)
