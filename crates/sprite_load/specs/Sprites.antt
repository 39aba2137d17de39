-- A sprite as its bytes, and how it is spelled.
use Rattle.std.specs.Prelude.{ℕ, List, ◌++◌}
use Rattle.std.specs.List.{flat_map}

-- origin x, origin y, width and height, of four bytes each; and a byte for each pixel
pub record Picture : Type 0 where
  pub head : List ℕ
  pub pixels : List ℕ

-- a word; and for a group a count and as many intervals
pub record Head : Type 0 where
  pub word : List ℕ
  pub count : List ℕ
  pub intervals : List ℕ

pub record Frame : Type 0 where
  pub head : Head
  pub pictures : List Picture

-- a header of 36 bytes, and the frames
pub record Sprite : Type 0 where
  pub header : List ℕ
  pub frames : List Frame

abbrev pub spell_picture : Picture → List ℕ
spell_picture p = p.head ++ p.pixels

abbrev pub spell_head : Head → List ℕ
spell_head h = h.word ++ (h.count ++ h.intervals)

abbrev pub spell_frame : Frame → List ℕ
spell_frame f = spell_head f.head ++ flat_map spell_picture f.pictures

-- the file, up to what follows the frames
abbrev pub spell : Sprite → List ℕ
spell s = s.header ++ flat_map spell_frame s.frames
