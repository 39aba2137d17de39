-- How long the image of a sprite is, and how many pictures it has.
use Rattle.std.proofs.Common.{◌≡◌, ℕ, ◌+◌, ◌*◌, ◌≤◌, List, [], ◌∷◌, ◌++◌, length, Result, Ok, Err, refl, ap}
use Rattle.std.proofs.Common.{◌∙◌, inl, inr, arith}
use Rattle.std.specs.List.{flat_map, AllByRecursion}
use Rattle.std.proofs.lemmas.List.{length-append}
use Rattle.base_fields.specs.Fields.{u32_in}
use Rattle.part_plan.specs.Plan.{run, seen, folded}
use Rattle.sprite_load.specs.declared.fault.SpriteFault.{SpriteFault}
use Rattle.sprite_load.specs.declared.sizes.Sizes.{Sizes}
use Rattle.sprite_load.specs.Sprites.{Picture, Frame, Sprite, spell_picture, spell_head, spell_frame, spell}
use Rattle.sprite_load.specs.Parts.{sprite}
use Rattle.sprite_load.specs.Images.{picture_pixels, image, image_of}
use Rattle.sprite_load.specs.Sizes.{add_pixels, add_frame, no_sizes}
use Rattle.sprite_load.specs.Passing.{IsPicture, IsFrame, IsSprite}
use Rattle.sprite_load.proofs.SpellingLaws.{sprite_found}
use Rattle.sprite_load.proofs.LengthLaws.{image_len}

pixels_sum : (n : ℕ) (ps : List Picture) → folded add_pixels n ps ≡ n + length (picture_pixels ps)
pixels_sum n [] = omega arith
pixels_sum n (p ∷ ps) = omega (arith, pixels_sum (n + length p.pixels) ps, length-append p.pixels (picture_pixels ps))

-- the bytes of pictures
pictures_spelled : (ps : List Picture) → AllByRecursion IsPicture ps
    → length (flat_map spell_picture ps) ≡ 16 * length ps + length (picture_pixels ps)
pictures_spelled [] all = refl
pictures_spelled (p ∷ ps) all =
    let one : length (spell_picture p ++ flat_map spell_picture ps) ≡ length (spell_picture p) + length (flat_map spell_picture ps) =
    length-append (spell_picture p) (flat_map spell_picture ps) in
    omega (arith, one, length-append p.head p.pixels, all.0.head, length-append p.pixels (picture_pixels ps), pictures_spelled ps all.1)

-- a frame has a picture, and not more than 1024
pictures_many : (f : Frame) → IsFrame f → (1 ≤ length f.pictures) × (length f.pictures ≤ 1024)
pictures_many f is =
    elim is.head [
      | inl one ↦
          let n : length f.pictures ≡ 1 = is.number ∙ rw one.word refl in
          (omega (arith, n), omega (arith, n))
      | inr group ↦
          let n : length f.pictures ≡ u32_in f.head.count 0 = is.number ∙ rw group.word refl in
          (omega (arith, n, group.least), omega (arith, n, group.most))
    ]

pub pictures_few : (s : Sizes) (fs : List Frame) → AllByRecursion IsFrame fs
    → (s.pictures + length fs ≤ (folded add_frame s fs).pictures) × ((folded add_frame s fs).pictures ≤ s.pictures + 1024 * length fs)
pictures_few s [] all = (omega arith, omega arith)
pictures_few s (f ∷ fs) all =
    let one = pictures_many f all.0 in
    let others = pictures_few (add_frame s f) fs all.1 in
    (omega (arith, one.0, others.0), omega (arith, one.1, others.1))

-- the bytes of frames are more than those of their words and pictures
frames_spelled : (s : Sizes) (fs : List Frame) → AllByRecursion IsFrame fs
    → 4 * length fs + 16 * (folded add_frame s fs).pictures + (folded add_frame s fs).pixels
    ≤ 16 * s.pictures + s.pixels + length (flat_map spell_frame fs)
frames_spelled s [] all = omega arith
frames_spelled s (f ∷ fs) all =
    let others = frames_spelled (add_frame s f) fs all.1 in
    let text = flat_map spell_picture f.pictures in
    let a : length (spell_frame f ++ flat_map spell_frame fs) ≡ length (spell_frame f) + length (flat_map spell_frame fs) =
    length-append (spell_frame f) (flat_map spell_frame fs) in
    let b : length (spell_frame f) ≡ length (spell_head f.head) + length text = length-append (spell_head f.head) text in
    let c : length (spell_head f.head) ≡ length f.head.word + length (f.head.count ++ f.head.intervals) =
    length-append f.head.word (f.head.count ++ f.head.intervals) in
    omega (arith, others, a, b, c, all.0.word, pictures_spelled f.pictures all.0.pictures, pixels_sum 0 f.pictures)

image_bounds : (s : Sprite) → IsSprite s → (72 ≤ length (image s)) × (length (image s) ≤ 2 * length (spell s))
image_bounds s is =
    let long = image_len s is in
    let many = pictures_few no_sizes s.frames is.frames in
    let text = frames_spelled no_sizes s.frames is.frames in
    let whole : length (spell s) ≡ length s.header + length (flat_map spell_frame s.frames) =
    length-append s.header (flat_map spell_frame s.frames) in
    (omega (arith, long, many.0, is.least), omega (arith, long, many.0, text, whole, is.header))

image_sized : (bytes made : List ℕ) (read : Result (Sprite × List ℕ) SpriteFault) → run sprite bytes ≡ read
    → seen (λ r. image r.0) read ≡ Ok made → (72 ≤ length made) × (length made ≤ 2 * length bytes)
image_sized bytes made (Err fault) is e = absurd cc
image_sized bytes made (Ok r) is e =
    let same : image r.0 ≡ made = cc in
    let found = sprite_found bytes r.1 r.0 is in
    let bounds = image_bounds r.0 found.1 in
    let n : length (image r.0) ≡ length made = ap length same in
    let whole : length bytes ≡ length (spell r.0) + length r.1 = ap length found.0 ∙ length-append (spell r.0) r.1 in
    (omega (arith, n, bounds.0), omega (arith, n, bounds.1, whole))

-- the image of a sprite has a frame and a picture, and is at most twice as long as the file
pub length_of_image : (bytes made : List ℕ) → image_of bytes ≡ Ok made → (72 ≤ length made) × (length made ≤ 2 * length bytes)
unfolding image_of
length_of_image bytes made is = image_sized bytes made (run sprite bytes) refl is
