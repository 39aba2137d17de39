-- The parts of an image together.
use Rattle.std.proofs.Common.{◌≡◌, ℕ, ◌+◌, ◌*◌, List, ◌++◌, length, Result, Ok, Err, sym, ap, subst, ◌∙◌, arith}
use Rattle.std.specs.Prelude.{IfOk, IsOkAnd}
use Rattle.base_fields.specs.Fields.{field, u32_bytes}
use Rattle.part_plan.specs.Plan.{run, seen}
use Rattle.sprite_load.specs.declared.fault.SpriteFault.{SpriteFault}
use Rattle.sprite_load.specs.declared.sizes.Sizes.{Sizes}
use Rattle.sprite_load.specs.Sprites.{Frame, Sprite}
use Rattle.sprite_load.specs.Parts.{frames, sprite_of}
use Rattle.sprite_load.specs.Images.{frame_rows, picture_rows, all_timed, all_pixels, image_from, image, image_of}
use Rattle.sprite_load.specs.Sizes.{no_sizes, sizes_of}
use Rattle.sprite_load.proofs.LengthLaws.{image_len, pictures_total}
use Rattle.sprite_load.proofs.SpriteLaws.{IsRead}

pub joined : (read : Result (List Frame × List ℕ) SpriteFault) (header rows places pixels : List ℕ) (count pictures : ℕ)
    → IfOk read (λ a. rows ≡ frame_rows 0 a.0) → IfOk read (λ a. places ≡ picture_rows (36 + 12 * count + 24 * pictures) (all_timed a.0)) → IfOk read (λ a. pixels ≡ all_pixels (all_timed a.0))
    → IfOk read (λ a. u32_bytes 3 ++ (field 28 header 8 ++ (u32_bytes pictures ++ (rows ++ (places ++ pixels)))) ≡ image_from header count pictures a.0)
joined (Ok a) header rows places pixels count pictures x y z =
    let all : List ℕ → List ℕ → List ℕ → List ℕ = λ r p q. u32_bytes 3 ++ (field 28 header 8 ++ (u32_bytes pictures ++ (r ++ (p ++ q)))) in
    ap (λ (r : List ℕ). all r places pixels) x ∙ ap (λ (p : List ℕ). all (frame_rows 0 a.0) p pixels) y ∙ ap (λ (q : List ℕ). all (frame_rows 0 a.0) (picture_rows (36 + 12 * count + 24 * pictures) (all_timed a.0)) q) z
joined (Err f) header rows places pixels count pictures x y z = tt

pub image_is : (bytes header inner : List ℕ) (sizes : Sizes) (count : ℕ) (r : IsRead bytes header inner sizes count) → image_of bytes ≡ Ok (image_from header count sizes.pictures r.frames)
unfolding image_of image
image_is bytes header inner sizes count r =
    let total : length (all_timed r.frames) ≡ sizes.pictures = omega (arith, pictures_total no_sizes r.frames, ap (λ (z : Sizes). z.pictures) r.sized) in
    ap (λ (x : Result (Sprite × List ℕ) SpriteFault). seen (λ read. image read.0) x) r.is
    ∙ ap (λ (n : ℕ). Ok (image_from header n (length (all_timed r.frames)) r.frames)) r.len
    ∙ ap (λ (n : ℕ). Ok (image_from header count n r.frames)) total

pub room_is : (bytes header inner : List ℕ) (sizes : Sizes) (count n : ℕ) → IsRead bytes header inner sizes count → IsOkAnd (image_of bytes) (λ image. length image ≡ n) → n ≡ 36 + 12 * count + 24 * sizes.pictures + sizes.pixels
unfolding image_of
room_is bytes header inner sizes count n r fits =
    let s = sprite_of header r.frames in
    let whole : image_of bytes ≡ Ok (image s) = ap (λ (x : Result (Sprite × List ℕ) SpriteFault). seen (λ read. image read.0) x) r.is in
    let here : length (image s) ≡ n = subst (λ (x : Result (List ℕ) SpriteFault). IsOkAnd x (λ image. length image ≡ n)) whole fits in
    let len : length (image s) ≡ 36 + 12 * length r.frames + 24 * (sizes_of s).pictures + (sizes_of s).pixels = image_len s r.good in
    sym here ∙ len ∙ ap (λ (k : ℕ). 36 + 12 * k + 24 * (sizes_of s).pictures + (sizes_of s).pixels) r.len ∙ ap (λ (x : Sizes). 36 + 12 * count + 24 * x.pictures + x.pixels) r.sized

pub image_made : (bytes header inner : List ℕ) (sizes : Sizes) (count : ℕ) (made : List ℕ) → IsRead bytes header inner sizes count
    → IfOk (run (frames count) inner) (λ a. made ≡ image_from header count sizes.pictures a.0) → image_of bytes ≡ Ok made
image_made bytes header inner sizes count made r wrote =
    let here : made ≡ image_from header count sizes.pictures r.frames
    = subst (λ (x : Result (List Frame × List ℕ) SpriteFault). IfOk x (λ a. made ≡ image_from header count sizes.pictures a.0)) r.read wrote in
    image_is bytes header inner sizes count r ∙ ap (λ (t : List ℕ). Ok t) (sym here)
