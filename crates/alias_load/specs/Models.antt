-- An alias model as its bytes, and how it is spelled.
use Rattle.std.specs.Prelude.{ℕ, List, ◌++◌}
use Rattle.std.specs.List.{concat, flat_map}

-- a word; for a group its count, with the bounds behind it where it is one of poses, and its intervals
pub record Head : Type 0 where
  pub word : List ℕ
  pub count : List ℕ
  pub intervals : List ℕ

-- a skin or a frame: its head, and its pictures or poses
pub record Series : Type 0 where
  pub head : Head
  pub items : List (List ℕ)

pub record Alias : Type 0 where
  pub header : List ℕ
  pub skins : List Series
  pub st_vertices : List ℕ
  pub triangles : List ℕ
  pub frames : List Series

abbrev pub spell_head : Head → List ℕ
spell_head head = head.word ++ (head.count ++ head.intervals)

abbrev pub spell_series : Series → List ℕ
spell_series series = spell_head series.head ++ concat series.items

-- the file, up to what follows it
abbrev pub spell : Alias → List ℕ
spell model =
    model.header
    ++ (flat_map spell_series model.skins
    ++ (model.st_vertices ++ (model.triangles ++ flat_map spell_series model.frames)))
