-- How long an image is.
use Rattle.std.proofs.Common.{◌≡◌, ℕ, suc, ◌+◌, ◌*◌, ◌≤◌, List, [], ◌∷◌, ◌++◌, length, drop, Result, Ok, Err, refl, sym, ap, subst, ◌∙◌, append_assoc, arith}
use Rattle.std.specs.Prelude.{IfOk, IsOkAnd}
use Rattle.std.specs.List.{AllByRecursion}
use Rattle.std.proofs.lemmas.List.{append-nil, length-append, length-take, length-drop}
use Rattle.std.proofs.lemmas.Grind.{flat_map-append}
use Rattle.base_fields.specs.Fields.{field, u32_bytes}
use Rattle.part_plan.specs.Plan.{folded, folding}
use Rattle.part_plan.proofs.Each.{fold_written}
use Rattle.sprite_load.specs.declared.sizes.FrameSize.{FrameSize}
use Rattle.sprite_load.specs.declared.fault.SpriteFault.{SpriteFault}
use Rattle.sprite_load.specs.Rows.{Texts, add_pictures, no_texts}
use Rattle.sprite_load.specs.declared.sizes.Sizes.{Sizes}
use Rattle.sprite_load.specs.Sprites.{Picture, Head, Frame, Sprite}
use Rattle.sprite_load.specs.Images.{timed, all_timed, frame_row, frame_rows, picture_row, picture_rows, all_pixels, image}
use Rattle.sprite_load.specs.Sizes.{add_pixels, size_of, add_frame, no_sizes, sizes_of}
use Rattle.sprite_load.specs.Passing.{IsPicture, IsFrame, IsSprite}

timed_len : (ts : List ℕ) (ps : List Picture) → length (timed ts ps) ≡ length ps
timed_len ts [] = refl
timed_len ts (p ∷ ps) = ap suc (timed_len (drop 4 ts) ps)

pixels_len : (n : ℕ) (ts : List ℕ) (ps : List Picture) → folded add_pixels n ps ≡ n + length (all_pixels (timed ts ps))
pixels_len n ts [] = omega arith
pixels_len n ts (p ∷ ps) =
    omega (arith, pixels_len (n + length p.pixels) (drop 4 ts) ps, length-append p.pixels (all_pixels (timed (drop 4 ts) ps)))

rows_len : (first : ℕ) (fs : List Frame) → length (frame_rows first fs) ≡ 12 * length fs
rows_len first [] = omega arith
rows_len first (f ∷ fs) = length-append (frame_row first f) (frame_rows (first + length f.pictures) fs) ∙ omega (arith, rows_len (first + length f.pictures) fs)

picture_rows_len : (at : ℕ) (ps : List (ℕ × Picture)) → AllByRecursion (λ x. IsPicture x.1) ps → length (picture_rows at ps) ≡ 24 * length ps
picture_rows_len at [] all = omega arith
picture_rows_len at (p ∷ ps) all =
    let others = picture_rows_len (at + length p.1.pixels) ps all.1 in
    let one : length (picture_row at p) ≡ 24 = ap (λ (n : ℕ). suc (suc (suc (suc n)))) (length-append p.1.head (u32_bytes at)) ∙ omega (arith, all.0.head) in
    length-append (picture_row at p) (picture_rows (at + length p.1.pixels) ps) ∙ omega (arith, one, others)

timed_pictures : (ts : List ℕ) (ps : List Picture) → AllByRecursion IsPicture ps → AllByRecursion (λ x. IsPicture x.1) (timed ts ps)
timed_pictures ts [] all = tt
timed_pictures ts (p ∷ ps) all = (all.0, timed_pictures (drop 4 ts) ps all.1)

both_all : (P : ℕ × Picture → Type 0) (xs ys : List (ℕ × Picture)) → AllByRecursion P xs → AllByRecursion P ys → AllByRecursion P (xs ++ ys)
both_all P [] ys a b = b
both_all P (x ∷ xs) ys a b = (a.0, both_all P xs ys a.1 b)

all_timed_pictures : (fs : List Frame) → AllByRecursion IsFrame fs → AllByRecursion (λ x. IsPicture x.1) (all_timed fs)
all_timed_pictures [] all = tt
all_timed_pictures (f ∷ fs) all = both_all (λ x. IsPicture x.1) (timed f.head.intervals f.pictures) (all_timed fs) (timed_pictures f.head.intervals f.pictures all.0.pictures) (all_timed_pictures fs all.1)

pub pictures_total : (s : Sizes) (fs : List Frame) → (folded add_frame s fs).pictures ≡ s.pictures + length (all_timed fs)
pictures_total s [] = omega arith
pictures_total s (f ∷ fs) =
    let ts = timed f.head.intervals f.pictures in
    omega (arith, pictures_total (add_frame s f) fs, length-append ts (all_timed fs), timed_len f.head.intervals f.pictures)

pub pixels_total : (s : Sizes) (fs : List Frame) → (folded add_frame s fs).pixels ≡ s.pixels + length (all_pixels (all_timed fs))
pixels_total s [] = omega arith
pixels_total s (f ∷ fs) =
    let ts = timed f.head.intervals f.pictures in
    omega (arith, pixels_total (add_frame s f) fs, ap length (flat_map-append (λ (p : ℕ × Picture). p.1.pixels) ts (all_timed fs)), length-append (all_pixels ts) (all_pixels (all_timed fs)), pixels_len 0 f.head.intervals f.pictures)

pub image_len : (s : Sprite) → IsSprite s → length (image s) ≡ 36 + 12 * length s.frames + 24 * (sizes_of s).pictures + (sizes_of s).pixels
unfolding image
image_len s is =
    let ps = all_timed s.frames in
    let at = 36 + 12 * length s.frames + 24 * length ps in
    let a = rows_len 0 s.frames in
    let b = picture_rows_len at ps (all_timed_pictures s.frames is.frames) in
    let c = pictures_total no_sizes s.frames in
    let d = pixels_total no_sizes s.frames in
    let e : length (field 28 s.header 8) ≡ 28 = omega (arith, length-take 28 (drop 8 s.header), length-drop 8 s.header, is.header) in
    let tail : length (frame_rows 0 s.frames ++ (picture_rows at ps ++ all_pixels ps)) ≡ 12 * length s.frames + (24 * length ps + length (all_pixels ps))
    = length-append (frame_rows 0 s.frames) _ ∙ omega (arith, a, b, length-append (picture_rows at ps) (all_pixels ps)) in
    let middle : length (field 28 s.header 8 ++ (u32_bytes (length ps) ++ (frame_rows 0 s.frames ++ (picture_rows at ps ++ all_pixels ps)))) ≡ 28 + (4 + (12 * length s.frames + (24 * length ps + length (all_pixels ps))))
    = length-append (field 28 s.header 8) _ ∙ omega (arith, e, tail) in
    omega (arith, middle, c, d)

pub rows_append : (at : ℕ) (xs ys : List (ℕ × Picture)) → picture_rows at (xs ++ ys) ≡ picture_rows at xs ++ picture_rows (at + length (all_pixels xs)) ys
rows_append at [] ys = ap (λ (n : ℕ). picture_rows n ys) (omega arith)
rows_append at (x ∷ xs) ys =
    let n : (at + length x.1.pixels) + length (all_pixels xs) ≡ at + length (x.1.pixels ++ all_pixels xs) = omega (arith, length-append x.1.pixels (all_pixels xs)) in
    ap (λ (t : List ℕ). picture_row at x ++ t) (rows_append (at + length x.1.pixels) xs ys ∙ ap (λ (k : ℕ). picture_rows (at + length x.1.pixels) xs ++ picture_rows k ys) n)
    ∙ sym (append_assoc (picture_row at x) (picture_rows (at + length x.1.pixels) xs) (picture_rows (at + length (x.1.pixels ++ all_pixels xs)) ys))

texts_are : (s : Texts) (fs : List Frame) → (folded add_pictures s fs).text ≡ s.text ++ picture_rows s.at (all_timed fs)
texts_are s [] = sym (append-nil s.text)
texts_are s (f ∷ fs) =
    let ts = timed f.head.intervals f.pictures in
    let n : s.at + (size_of f).pixels ≡ s.at + length (all_pixels ts) = omega (arith, pixels_len 0 f.head.intervals f.pictures) in
    texts_are (add_pictures s f) fs ∙ append_assoc s.text (picture_rows s.at ts) (picture_rows (s.at + (size_of f).pixels) (all_timed fs))
    ∙ ap (λ (k : ℕ). s.text ++ (picture_rows s.at ts ++ picture_rows k (all_timed fs))) n
    ∙ ap (λ (t : List ℕ). s.text ++ t) (sym (rows_append s.at ts (all_timed fs)))

-- what is counted so far is no more than all
pub grow : (s sizes : Sizes) (read : Result (List Frame × List ℕ) SpriteFault) (total : Result (Sizes × List ℕ) SpriteFault) → IsOkAnd total (λ r. r.0 ≡ sizes) → folding add_frame s read ≡ total → (s.pictures ≤ sizes.pictures) × (s.pixels ≤ sizes.pixels)
grow s sizes (Ok a) total ok e =
    let here : folded add_frame s a.0 ≡ sizes = subst (λ (r : Result (Sizes × List ℕ) SpriteFault). IsOkAnd r (λ r. r.0 ≡ sizes)) (sym e) ok in
    let p = ap (λ (z : Sizes). z.pictures) here in
    let q = ap (λ (z : Sizes). z.pixels) here in
    (omega (arith, pictures_total s a.0, p), omega (arith, pixels_total s a.0, q))
grow s sizes (Err f) total ok e = absurd (subst (λ (r : Result (Sizes × List ℕ) SpriteFault). IsOkAnd r (λ r. r.0 ≡ sizes)) (sym e) ok)

pub texts_written : (read : Result (List Frame × List ℕ) SpriteFault) (from : ℕ) (s : Texts) (rest : List ℕ) → folding add_pictures (no_texts from) read ≡ Ok (s, rest) → IfOk read (λ a. s.text ≡ picture_rows from (all_timed a.0))
texts_written read from s rest e = fold_written add_pictures (no_texts from) s (λ s. s.text) (λ fs. picture_rows from (all_timed fs)) (texts_are (no_texts from)) read rest e

-- one frame more, as it was written
pub texts_more : (s : Texts) (h : Head) (ps : List Picture) (m : FrameSize) (at : ℕ) (text : List ℕ) (read : Result (List Frame × List ℕ) SpriteFault) (total : Result (Texts × List ℕ) SpriteFault)
    → size_of (record { head = h; pictures = ps }) ≡ m → at ≡ s.at + m.pixels → text ≡ s.text ++ picture_rows s.at (timed h.intervals ps)
    → folding add_pictures (add_pictures s (record { head = h; pictures = ps })) read ≡ total → folding add_pictures (record { at = at; text = text }) read ≡ total
texts_more s h ps m at text read total size at-is text-is so_far =
    let at-same : s.at + (size_of (record { head = h; pictures = ps })).pixels ≡ at = ap (λ (z : FrameSize). s.at + z.pixels) size ∙ sym at-is in
    let P : ℕ → List ℕ → Type 0 = λ n t. folding add_pictures (record { at = n; text = t }) read ≡ total in
    subst (λ (t : List ℕ). P at t) (sym text-is) (subst (λ (n : ℕ). P n (s.text ++ picture_rows s.at (timed h.intervals ps))) at-same so_far)
