-- Worked examples.
use Rattle.std.proofs.Common.{◌≡◌, ℕ, List, ◌∷◌, ◌++◌, Ok, Err, codes, replicate, refl}
use Rattle.base_fields.specs.Fields.{u32_in, u32_bytes}
use Rattle.part_plan.specs.Plan.{each}
use Rattle.alias_load.specs.declared.fault.AliasPart.TheVariants.{Frame}
use Rattle.alias_load.specs.declared.fault.AliasFault.TheVariants.{Truncated, Interval, Triangle}
use Rattle.alias_load.specs.Reading.{group, head, item, items, series, all_series, triangle_tests, st_part, triangle_part, body, alias}
use Rattle.alias_load.specs.Images.{image, image_of}

-- what stands in the header from 8 on: one skin of 4 x 1, one vertex, one triangle, one frame
abbrev told : List ℕ
told =
    replicate 40 9
    ++ (u32_bytes 1 ++ (u32_bytes 4 ++ (u32_bytes 1 ++ (u32_bytes 1 ++ (u32_bytes 1 ++ (u32_bytes 1 ++ replicate 12 8))))))

-- the file up to its triangle's last vertex, and its frame: a group of one pose with this interval
abbrev front : ℕ → List ℕ
front vertex =
    codes "IDPO" ++ (u32_bytes 6 ++ (told ++ (u32_bytes 0 ++ (1 ∷ 2 ∷ 3 ∷ 4 ∷ replicate 12 5
    ++ (u32_bytes 1 ++ (u32_bytes 0 ++ (u32_bytes 0 ++ u32_bytes vertex)))))))

abbrev frame : ℕ → List ℕ
frame interval =
    u32_bytes 1 ++ (u32_bytes 1 ++ (replicate 8 6 ++ (u32_bytes interval ++ (replicate 8 7 ++ (codes "pose" ++ (replicate 12 0 ++ replicate 4 3))))))

-- the image of 188 bytes
made : image_of (front 0 ++ frame 0x3DCC_CCCD) ≡ Ok (
    u32_bytes 2 ++ (told ++ (u32_bytes 1 ++ (u32_bytes 1
    ++ (u32_bytes 0 ++ (u32_bytes 0 ++ (u32_bytes 1
    ++ (u32_bytes 1 ++ (u32_bytes 0 ++ (u32_bytes 1 ++ (replicate 8 6
    ++ (u32_bytes 0
    ++ (u32_bytes 0x3DCC_CCCD ++ (replicate 8 7 ++ (codes "pose" ++ (replicate 12 0
    ++ (replicate 12 5 ++ (u32_bytes 1 ++ (replicate 12 0 ++ (1 ∷ 2 ∷ 3 ∷ 4 ∷ replicate 4 3))))))))))))))))))))
unfolding image_of image alias body all_series series head group items item st_part triangle_part triangle_tests each u32_in
made = refl

-- a negative interval
negative : image_of (front 0 ++ frame 0x8000_0000) ≡ Err (Interval Frame 0)
unfolding image_of image alias body all_series series head group items item st_part triangle_part triangle_tests each u32_in
negative = refl

-- a vertex that isn't there
other_vertex : image_of (front 1 ++ frame 0x3DCC_CCCD) ≡ Err (Triangle 0)
unfolding image_of image alias body all_series series head group items item st_part triangle_part triangle_tests each u32_in
other_vertex = refl

-- the file ends within its frame
cut_short : image_of (front 0 ++ (u32_bytes 1 ++ u32_bytes 1)) ≡ Err (Truncated Frame)
unfolding image_of image alias body all_series series head group items item st_part triangle_part triangle_tests each u32_in
cut_short = refl
