-- The header of an image tells its sprite.
use Rattle.std.proofs.Common.{◌≡◌, ℕ, ◌+◌, ◌*◌, ◌^◌, ◌<◌, ◌≤◌, List, ◌++◌, length, take, drop, Result, Ok, Err, refl, sym, ap}
use Rattle.std.proofs.Common.{◌∙◌, append_assoc, arith}
use Rattle.std.specs.Prelude.{IsOkAnd}
use Rattle.std.proofs.lemmas.List.{length-append, length-take, length-drop, drop-drop}
use Rattle.base_fields.specs.Fields.{little_endian, field, u32_in, u32_bytes}
use Rattle.base_fields.proofs.FieldLaws.{field-front, field-behind, field-take, u32_in-written}
use Rattle.part_plan.specs.Plan.{run, seen}
use Rattle.sprite_load.specs.declared.fault.SpriteFault.{SpriteFault}
use Rattle.sprite_load.specs.declared.header.SpriteHeader.{SpriteHeader}
use Rattle.sprite_load.specs.Sprites.{Sprite}
use Rattle.sprite_load.specs.Parts.{sprite}
use Rattle.sprite_load.specs.Images.{all_timed, frame_rows, picture_rows, all_pixels, image, image_of}
use Rattle.sprite_load.specs.Headers.{header_in, header_of, TellsSprite}
use Rattle.sprite_load.specs.Sizes.{no_sizes}
use Rattle.sprite_load.specs.Passing.{IsSprite}
use Rattle.sprite_load.proofs.SpellingLaws.{sprite_found}
use Rattle.sprite_load.proofs.LengthLaws.{pictures_total}
use Rattle.sprite_load.proofs.ImageLaws.{pictures_few}

length-kept : (header : List ℕ) → length header ≡ 36 → length (field 28 header 8) ≡ 28
length-kept header sized = omega (arith, length-take 28 (drop 8 header), length-drop 8 header, sized)

-- a number of the file's header stands in the image
number_kept : (header rest : List ℕ) (at : ℕ) → length header ≡ 36 → at + 4 ≤ 28
    → u32_in (u32_bytes 3 ++ (field 28 header 8 ++ rest)) (4 + at) ≡ u32_in header (8 + at)
unfolding u32_in
number_kept header rest at sized inside =
    let kept = field 28 header 8 in
    let one : field 4 (u32_bytes 3 ++ (kept ++ rest)) (4 + at) ≡ field 4 (kept ++ rest) at = field-behind 4 (u32_bytes 3) (kept ++ rest) at in
    let two : field 4 (kept ++ rest) at ≡ field 4 kept at = field-front 4 kept rest at (omega (arith, length-kept header sized, inside)) in
    let three : field 4 kept at ≡ field 4 (drop 8 header) at = field-take 4 (drop 8 header) 28 at inside in
    let four : field 4 (drop 8 header) at ≡ field 4 header (8 + at) = ap (take 4) (drop-drop at 8 header) in
    ap little_endian (one ∙ two ∙ three ∙ four)

-- so does the count of pictures
count_kept : (header rest : List ℕ) (pictures : ℕ) → length header ≡ 36 → pictures < 2 ^ 32
    → u32_in (u32_bytes 3 ++ (field 28 header 8 ++ (u32_bytes pictures ++ rest))) 32 ≡ pictures
count_kept header rest pictures sized fits =
    let kept = field 28 header 8 in
    let front : length (u32_bytes 3 ++ kept) ≡ 32 = length-append (u32_bytes 3) kept ∙ omega (arith, length-kept header sized) in
    ap (λ (l : List ℕ). u32_in l 32) (sym (append_assoc (u32_bytes 3) kept (u32_bytes pictures ++ rest)))
    ∙ u32_in-written (u32_bytes 3 ++ kept) rest 32 pictures front fits

pictures_fit : (s : Sprite) → IsSprite s → length (all_timed s.frames) < 2 ^ 32
pictures_fit s is = omega (arith, pictures_total no_sizes s.frames, (pictures_few no_sizes s.frames is.frames).1, is.most)

abbrev header_with : ℕ → ℕ → ℕ → SpriteHeader
header_with kind frames pictures = record { kind = kind; frames = frames; pictures = pictures }

same_header : (a b c d e f : ℕ) → a ≡ d → b ≡ e → c ≡ f → header_with a b c ≡ header_with d e f
same_header a b c d e f p q r = cc

header_in-image : (s : Sprite) → IsSprite s → header_in (image s) ≡ header_of s
unfolding image
header_in-image s is =
    let n = length (all_timed s.frames) in
    let timed = all_timed s.frames in
    let rows = frame_rows 0 s.frames ++ (picture_rows (36 + 12 * length s.frames + 24 * n) timed ++ all_pixels timed) in
    let rest = u32_bytes n ++ rows in
    let kind : u32_in (image s) 4 ≡ u32_in s.header 8 = number_kept s.header rest 0 is.header (omega arith) in
    let frames : u32_in (image s) 20 ≡ length s.frames = number_kept s.header rest 16 is.header (omega arith) ∙ sym is.number in
    let pictures : u32_in (image s) 32 ≡ n = count_kept s.header rows n is.header (pictures_fit s is) in
    same_header (u32_in (image s) 4) (u32_in (image s) 20) (u32_in (image s) 32) (u32_in s.header 8) (length s.frames) n
    kind frames pictures

told : (header : SpriteHeader) (made source : List ℕ) (read : Result (Sprite × List ℕ) SpriteFault) → header ≡ header_in made
    → run sprite source ≡ read → seen (λ r. image r.0) read ≡ Ok made → IsOkAnd read (λ r. header ≡ header_of r.0)
told header made source (Err fault) here is e = absurd cc
told header made source (Ok r) here is e =
    let same : made ≡ image r.0 = cc in
    here ∙ ap header_in same ∙ header_in-image r.0 (sprite_found source r.1 r.0 is).1

pub header_tells : (header : SpriteHeader) (made : List ℕ) → header ≡ header_in made → TellsSprite header made
unfolding image_of
header_tells header made here source is = told header made source (run sprite source) here refl is
