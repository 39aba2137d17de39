-- What a walk over a sprite adds up.
use Rattle.std.specs.Prelude.{◌≡◌, ℕ, ◌+◌, ◌*◌, ◌⊎◌, List, length, IsOkAnd}
use Rattle.part_plan.specs.Plan.{run, folded, folding}
use Rattle.sprite_load.specs.declared.sizes.FrameSize.{FrameSize}
use Rattle.sprite_load.specs.declared.sizes.Sizes.{Sizes}
use Rattle.sprite_load.specs.Sprites.{Picture, Frame, Sprite}
use Rattle.sprite_load.specs.Images.{group_of}
use Rattle.sprite_load.specs.Parts.{pictures, frames}

abbrev pub add_pixels : ℕ → Picture → ℕ
add_pixels n p = n + length p.pixels

abbrev pub size_of : Frame → FrameSize
size_of f = record { group = group_of f; count = length f.pictures; pixels = folded add_pixels 0 f.pictures }

abbrev pub plus_size : Sizes → FrameSize → Sizes
plus_size s m = record { pictures = s.pictures + m.count; pixels = s.pixels + m.pixels }

abbrev pub add_frame : Sizes → Frame → Sizes
add_frame s f = plus_size s (size_of f)

abbrev pub no_sizes : Sizes
no_sizes = record { pictures = 0; pixels = 0 }

abbrev pub sizes_of : Sprite → Sizes
sizes_of s = folded add_frame no_sizes s.frames

-- no interval, or one for each of n pictures
abbrev pub IsWhole : List ℕ → ℕ → Type 0
IsWhole intervals n = (length intervals ≡ 0) ⊎ (length intervals ≡ 4 * n)

-- the bytes spell so many frames, of these sizes
abbrev pub IsSized : ℕ → List ℕ → Sizes → Type 0
IsSized count bytes sizes = IsOkAnd (folding add_frame no_sizes (run (frames count) bytes)) (λ r. r.0 ≡ sizes)

-- the bytes spell n pictures, of so many pixels
abbrev pub IsCounted : ℕ → ℕ → List ℕ → ℕ → Type 0
IsCounted n row bytes pixels = IsOkAnd (folding add_pixels 0 (run (pictures n row) bytes)) (λ r. r.0 ≡ pixels)
