-- The image of a sprite.
use Rattle.std.specs.Prelude.{ℕ, ◌+◌, ◌*◌, if◌then◌else◌, List, [], ◌∷◌, ◌++◌, length, drop, Result}
use Rattle.std.specs.List.{flat_map}
use Rattle.base_fields.specs.Fields.{field, u32_in, u32_bytes}
use Rattle.part_plan.specs.Plan.{run, seen}
use Rattle.sprite_load.specs.declared.fault.SpriteFault.{SpriteFault}
use Rattle.sprite_load.specs.Sprites.{Picture, Frame, Sprite}
use Rattle.sprite_load.specs.Parts.{is_single, sprite}

-- pictures with their intervals, 0 where there is none
abbrev pub timed : List ℕ → List Picture → List (ℕ × Picture)
timed intervals [] = []
timed intervals (p ∷ ps) = (u32_in intervals 0, p) ∷ timed (drop 4 intervals) ps

abbrev pub all_timed : List Frame → List (ℕ × Picture)
all_timed fs = flat_map (λ f. timed f.head.intervals f.pictures) fs

abbrev pub group_of : Frame → ℕ
group_of f = if is_single f.head then 0 else 1

abbrev pub three_words : ℕ → ℕ → ℕ → List ℕ
three_words a b c = u32_bytes a ++ (u32_bytes b ++ u32_bytes c)

-- the row of a frame, and those of frames, of which the first has this first picture
abbrev pub frame_row : ℕ → Frame → List ℕ
frame_row first f = three_words (group_of f) first (length f.pictures)

abbrev pub frame_rows : ℕ → List Frame → List ℕ
frame_rows first [] = []
frame_rows first (f ∷ fs) = frame_row first f ++ frame_rows (first + length f.pictures) fs

-- the row of a picture whose pixels stand at this place, and those of pictures whose pixels stand from there on
abbrev pub picture_row : ℕ → ℕ × Picture → List ℕ
picture_row at p = u32_bytes p.0 ++ (p.1.head ++ u32_bytes at)

abbrev pub picture_rows : ℕ → List (ℕ × Picture) → List ℕ
picture_rows at [] = []
picture_rows at (p ∷ ps) = picture_row at p ++ picture_rows (at + length p.1.pixels) ps

abbrev pub picture_pixels : List Picture → List ℕ
picture_pixels ps = flat_map (λ p. p.pixels) ps

abbrev pub all_pixels : List (ℕ × Picture) → List ℕ
all_pixels ps = flat_map (λ p. p.1.pixels) ps

-- the image of so many frames with so many pictures
abbrev pub image_from : List ℕ → ℕ → ℕ → List Frame → List ℕ
image_from header count pictures fs =
    u32_bytes 3
    ++ (field 28 header 8
    ++ (u32_bytes pictures
    ++ (frame_rows 0 fs
    ++ (picture_rows (36 + 12 * count + 24 * pictures) (all_timed fs) ++ all_pixels (all_timed fs)))))

unfoldable pub image : Sprite → List ℕ
image s = image_from s.header (length s.frames) (length (all_timed s.frames)) s.frames

-- the image that these bytes have, or their first fault
unfoldable pub image_of : List ℕ → Result (List ℕ) SpriteFault
image_of bytes = seen (λ read. image read.0) (run sprite bytes)
