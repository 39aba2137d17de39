-- The parts of a sprite in the order of the file, with their tests.
use Rattle.std.specs.Prelude.{ℕ, ◌*◌, Bool, not, nat_lt, ◌==◌, if◌then◌else◌, List, [], ◌∷◌}
use Rattle.base_fields.specs.Fields.{u32_in}
use Rattle.part_plan.specs.Plan.{Plan, Done, Part, ◌>>=◌, each}
use Rattle.part_plan.specs.Checks.{is_between, has_wrong}
use Rattle.sprite_load.specs.declared.fault.SpriteFault.{SpriteFault}
use Rattle.sprite_load.specs.declared.fault.SpriteFault.TheVariants.{Short, Version, Frames, Truncated, Group}
use Rattle.sprite_load.specs.declared.fault.SpriteFault.TheVariants.{Interval, Size}
use Rattle.sprite_load.specs.Sprites.{Picture, Head, Frame, Sprite}

-- too wide, or too high
abbrev pub is_large : ℕ → Bool
is_large n = nat_lt 4096 n

-- a picture of the frame in this row
unfoldable pub picture : ℕ → Plan SpriteFault Picture
picture row =
    Part 16 Truncated (λ head.
    (is_large (u32_in head 8), Size row) ∷ (is_large (u32_in head 12), Size row) ∷ []) (λ head.
    Part (u32_in head 8 * u32_in head 12) Truncated (λ _. []) (λ pixels.
    Done (record { head = head; pixels = pixels })))

abbrev pub single : List ℕ → Head
single word = record { word = word; count = []; intervals = [] }

unfoldable pub group : ℕ → List ℕ → Plan SpriteFault Head
group row word =
    Part 4 Truncated (λ count. (not (is_between 1 1024 (u32_in count 0)), Group row) ∷ []) (λ count.
    Part (4 * u32_in count 0) Truncated (λ times. (has_wrong (u32_in count 0) times, Interval row) ∷ []) (λ times.
    Done (record { word = word; count = count; intervals = times })))

-- what a frame has before its pictures: a word, and where it isn't 0 those of a group
unfoldable pub head : ℕ → Plan SpriteFault Head
head row = Part 4 Truncated (λ _. []) (λ word. if u32_in word 0 == 0 then Done (single word) else group row word)

-- n pictures, whose faults are those of the frame in this row
unfoldable pub picture_in : ℕ → ℕ → Plan SpriteFault Picture
picture_in row i = picture row

unfoldable pub pictures : ℕ → ℕ → Plan SpriteFault (List Picture)
pictures n row = each (picture_in row) n 0

-- how many pictures a frame has
abbrev pub is_single : Head → Bool
is_single h = u32_in h.word 0 == 0

abbrev pub many : Head → ℕ
many h = if is_single h then 1 else u32_in h.count 0

unfoldable pub frame : ℕ → Plan SpriteFault Frame
frame row = do
  h ← head row
  ps ← pictures (many h) row
  Done (record { head = h; pictures = ps })

unfoldable pub frames : ℕ → Plan SpriteFault (List Frame)
frames n = each frame n 0

abbrev pub sprite_of : List ℕ → List Frame → Sprite
sprite_of header fs = record { header = header; frames = fs }

-- as many frames as the header says
unfoldable pub body : List ℕ → Plan SpriteFault Sprite
body header = frames (u32_in header 24) >>= λ fs. Done (sprite_of header fs)

-- the header, its version and its count of frames, and the frames
unfoldable pub sprite : Plan SpriteFault Sprite
sprite =
    Part 36 Short (λ header.
    (not (u32_in header 4 == 1), Version (u32_in header 4)) ∷ (not (is_between 1 1024 (u32_in header 24)), Frames) ∷ [])
    body
