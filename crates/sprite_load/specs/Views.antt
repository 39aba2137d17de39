-- What the readers give, as their bytes.
use Rattle.std.specs.Prelude.{◌≡◌, ℕ, List, Err}
use Rattle.part_plan.specs.Plan.{run}
use Rattle.sprite_load.specs.declared.fault.SpriteFault.{SpriteFault}
use Rattle.sprite_load.specs.declared.parts.PictureView.{PictureView}
use Rattle.sprite_load.specs.declared.parts.HeadView.{HeadView}
use Rattle.sprite_load.specs.Sprites.{Picture, Head}
use Rattle.sprite_load.specs.Parts.{body, sprite}

abbrev pub picture_of : PictureView → Picture
picture_of view = record { head = view.head.now; pixels = view.pixels.now }

abbrev pub head_of : HeadView → Head
head_of view = record { word = view.word.now; count = view.count.now; intervals = view.intervals.now }

-- what is read behind a header, and a fault of it
abbrev pub HasHeader : List ℕ → List ℕ → List ℕ → Type 0
HasHeader bytes header rest = run sprite bytes ≡ run (body header) rest

abbrev pub HasFault : List ℕ → SpriteFault → Type 0
HasFault bytes fault = run sprite bytes ≡ Err fault
