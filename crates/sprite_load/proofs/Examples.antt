-- Worked examples.
use Rattle.std.proofs.Common.{◌≡◌, ℕ, List, [], ◌∷◌, ◌++◌, Ok, Err, codes, replicate, refl}
use Rattle.base_fields.specs.Fields.{u32_in, u32_bytes}
use Rattle.part_plan.specs.Plan.{each}
use Rattle.mem_model.specs.Images.{image_size}
use Rattle.sprite_load.specs.declared.fault.SpriteFault.TheVariants.{Short, Version, Frames, Truncated, Group, Interval, Size}
use Rattle.sprite_load.specs.Parts.{picture, group, head, picture_in, pictures, frame, frames, body, sprite}
use Rattle.sprite_load.specs.Images.{image, image_of}
use Rattle.sprite_load.specs.Headers.{header_in}

-- a header of this version, with so many frames, of type 2
abbrev header : ℕ → ℕ → List ℕ
header version count =
    codes "IDSP" ++ (u32_bytes version ++ (u32_bytes 2 ++ (replicate 12 0 ++ (u32_bytes count ++ replicate 8 0))))

-- the numbers of a picture
abbrev numbers : ℕ → ℕ → List ℕ
numbers width height = replicate 8 0 ++ (u32_bytes width ++ u32_bytes height)

abbrev single_of : ℕ → ℕ → List ℕ
single_of width height = u32_bytes 0 ++ numbers width height

-- a group of one picture with this interval
abbrev group_with : ℕ → List ℕ
group_with interval = u32_bytes 1 ++ (u32_bytes 1 ++ (u32_bytes interval ++ (numbers 1 1 ++ 9 ∷ [])))

abbrev pixels : List ℕ
pixels = 10 ∷ 11 ∷ 12 ∷ 13 ∷ 14 ∷ 15 ∷ []

-- the file of 62 bytes: a single picture of 3 x 2
abbrev one : List ℕ
one = header 1 1 ++ (single_of 3 2 ++ pixels)

its_image : image_of one ≡ Ok
    (u32_bytes 3 ++ (u32_bytes 2 ++ (replicate 12 0 ++ (u32_bytes 1 ++ (replicate 8 0 ++ (u32_bytes 1
    ++ (u32_bytes 0 ++ (u32_bytes 0 ++ (u32_bytes 1
    ++ (u32_bytes 0 ++ (numbers 3 2 ++ (u32_bytes 72 ++ pixels))))))))))))
unfolding image_of image sprite body frames frame pictures picture_in head group picture each u32_in
its_image = refl

its_size : image_size (image_of one) ≡ Ok 78
unfolding image_of image sprite body frames frame pictures picture_in head group picture each u32_in
its_size = refl

too_short : image_of (codes "IDSP") ≡ Err Short
unfolding image_of sprite
too_short = refl

other_version : image_of (header 2 0) ≡ Err (Version 2)
unfolding image_of sprite u32_in
other_version = refl

no_frame : image_of (header 1 0) ≡ Err Frames
unfolding image_of sprite u32_in
no_frame = refl

cut : image_of (header 1 1 ++ (single_of 3 2 ++ 10 ∷ [])) ≡ Err Truncated
unfolding image_of sprite body frames frame pictures picture_in head group picture each u32_in
cut = refl

-- the size is tested before the end of the file is
too_wide : image_of (header 1 1 ++ single_of 4097 1) ≡ Err (Size 0)
unfolding image_of sprite body frames frame pictures picture_in head group picture each u32_in
too_wide = refl

-- in the second frame
no_picture : image_of (header 1 2 ++ (single_of 0 0 ++ (u32_bytes 1 ++ u32_bytes 0))) ≡ Err (Group 1)
unfolding image_of sprite body frames frame pictures picture_in head group picture each u32_in
no_picture = refl

-- an interval of 2 ^ 31 is below 0
bad_interval : image_of (header 1 1 ++ group_with 0x8000_0000) ≡ Err (Interval 0)
unfolding image_of sprite body frames frame pictures picture_in head group picture each u32_in
bad_interval = refl

-- a group of one picture
grouped : image_of (header 1 1 ++ group_with 7) ≡ Ok
    (u32_bytes 3 ++ (u32_bytes 2 ++ (replicate 12 0 ++ (u32_bytes 1 ++ (replicate 8 0 ++ (u32_bytes 1
    ++ (u32_bytes 1 ++ (u32_bytes 0 ++ (u32_bytes 1
    ++ (u32_bytes 7 ++ (numbers 1 1 ++ (u32_bytes 72 ++ 9 ∷ []))))))))))))
unfolding image_of image sprite body frames frame pictures picture_in head group picture each u32_in
grouped = refl

header_read : header_in (u32_bytes 3 ++ (u32_bytes 2 ++ (replicate 12 0 ++ (u32_bytes 5 ++ (replicate 8 0 ++ u32_bytes 9)))))
    ≡ record { kind = 2; frames = 5; pictures = 9 }
unfolding u32_in
header_read = refl
