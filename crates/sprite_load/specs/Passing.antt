-- What passes its tests, as each record says it.
use Rattle.std.specs.Prelude.{◌≡◌, ◌*◌, ◌≤◌, ◌⊎◌, true, false, ◌==◌, [], length}
use Rattle.std.specs.List.{AllByRecursion}
use Rattle.base_fields.specs.Fields.{u32_in}
use Rattle.part_plan.specs.Checks.{has_wrong}
use Rattle.sprite_load.specs.Sprites.{Picture, Head, Frame, Sprite}
use Rattle.sprite_load.specs.Parts.{many}

pub record IsPicture (p : Picture) : Type 0 where
  pub head : length p.head ≡ 16
  pub width : u32_in p.head 8 ≤ 4096
  pub height : u32_in p.head 12 ≤ 4096
  pub pixels : length p.pixels ≡ u32_in p.head 8 * u32_in p.head 12

-- the head of a single picture
pub record IsSingle (h : Head) : Type 0 where
  pub word : (u32_in h.word 0 == 0) ≡ true
  pub count : h.count ≡ []
  pub intervals : h.intervals ≡ []

-- the head of a group: as many intervals as its count says, each above 0
pub record IsGroup (h : Head) : Type 0 where
  pub word : (u32_in h.word 0 == 0) ≡ false
  pub count : length h.count ≡ 4
  pub least : 1 ≤ u32_in h.count 0
  pub most : u32_in h.count 0 ≤ 1024
  pub intervals : length h.intervals ≡ 4 * u32_in h.count 0
  pub positive : has_wrong (u32_in h.count 0) h.intervals ≡ false

pub record IsFrame (f : Frame) : Type 0 where
  pub word : length f.head.word ≡ 4
  pub head : IsSingle f.head ⊎ IsGroup f.head
  pub number : length f.pictures ≡ many f.head
  pub pictures : AllByRecursion IsPicture f.pictures

pub record IsSprite (s : Sprite) : Type 0 where
  pub header : length s.header ≡ 36
  pub version : u32_in s.header 4 ≡ 1
  pub least : 1 ≤ length s.frames
  pub most : length s.frames ≤ 1024
  pub number : length s.frames ≡ u32_in s.header 24
  pub frames : AllByRecursion IsFrame s.frames
