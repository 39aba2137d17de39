-- What the passes over a sprite have written so far.
use Rattle.std.specs.Prelude.{ℕ, ◌+◌, List, [], ◌++◌, length, drop}
use Rattle.base_fields.specs.Fields.{u32_in}
use Rattle.sprite_load.specs.declared.sizes.FrameSize.{FrameSize}
use Rattle.sprite_load.specs.Sprites.{Picture, Frame}
use Rattle.sprite_load.specs.Images.{three_words, picture_row, picture_rows, picture_pixels, timed}
use Rattle.sprite_load.specs.Sizes.{size_of}

-- the next first picture, and the rows so far
pub record Rows : Type 0 where
  pub first : ℕ
  pub text : List ℕ

abbrev pub plus_row : Rows → FrameSize → Rows
plus_row s m = record { first = s.first + m.count; text = s.text ++ three_words m.group s.first m.count }

abbrev pub add_row : Rows → Frame → Rows
add_row s f = plus_row s (size_of f)

abbrev pub no_rows : ℕ → Rows
no_rows first = record { first = first; text = [] }

-- the intervals that are left, the next place of pixels, and the rows so far
pub record Places : Type 0 where
  pub intervals : List ℕ
  pub at : ℕ
  pub text : List ℕ

abbrev pub add_picture : Places → Picture → Places
add_picture s p = record {
  intervals = drop 4 s.intervals;
  at = s.at + length p.pixels;
  text = s.text ++ picture_row s.at (u32_in s.intervals 0, p);
}

abbrev pub no_places : List ℕ → ℕ → Places
no_places intervals at = record { intervals = intervals; at = at; text = [] }

-- the next place of pixels, and the rows of all pictures so far
pub record Texts : Type 0 where
  pub at : ℕ
  pub text : List ℕ

abbrev pub add_pictures : Texts → Frame → Texts
add_pictures s f = record {
  at = s.at + (size_of f).pixels;
  text = s.text ++ picture_rows s.at (timed f.head.intervals f.pictures);
}

abbrev pub no_texts : ℕ → Texts
no_texts at = record { at = at; text = [] }

-- the pixels so far
abbrev pub add_text : List ℕ → Picture → List ℕ
add_text s p = s ++ p.pixels

abbrev pub add_texts : List ℕ → Frame → List ℕ
add_texts s f = s ++ picture_pixels f.pictures
