-- The pass over the pixels.
use Rattle.std.proofs.Common.{◌≡◌, ℕ, ◌+◌, ◌-◌, ◌≤◌, ◌<◌, List, [], ◌∷◌, ◌++◌, length, drop, Result, Ok, Err, refl, sym, ap, subst, ◌∙◌, append_assoc, arith}
use Rattle.std.specs.Prelude.{IfOk, IsOkAnd}
use Rattle.std.proofs.lemmas.List.{append-nil}
use Rattle.std.proofs.lemmas.Grind.{flat_map-append}
use Rattle.part_plan.specs.Plan.{run, each, folded, folding}
use Rattle.part_plan.proofs.Each.{fold_more, fold_fail, fold_written}
use Rattle.sprite_load.specs.declared.fault.SpriteFault.{SpriteFault}
use Rattle.sprite_load.specs.Sprites.{Picture, Frame}
use Rattle.sprite_load.specs.Parts.{picture, picture_in}
use Rattle.sprite_load.specs.Images.{timed, all_timed, all_pixels, picture_pixels}
use Rattle.sprite_load.specs.Sizes.{add_pixels}
use Rattle.sprite_load.specs.Rows.{add_text, add_texts}

text_is : (s : List ℕ) (ps : List Picture) → folded add_text s ps ≡ s ++ picture_pixels ps
text_is s [] = sym (append-nil s)
text_is s (p ∷ ps) = text_is (s ++ p.pixels) ps ∙ append_assoc s p.pixels (picture_pixels ps)

pub text_written : (read : Result (List Picture × List ℕ) SpriteFault) (s rest : List ℕ) → folding add_text [] read ≡ Ok (s, rest) → IfOk read (λ a. s ≡ picture_pixels a.0)
text_written read s rest e = fold_written add_text [] s (λ s. s) picture_pixels (text_is []) read rest e

timed_pixels : (ts : List ℕ) (ps : List Picture) → all_pixels (timed ts ps) ≡ picture_pixels ps
timed_pixels ts [] = refl
timed_pixels ts (p ∷ ps) = ap (λ (t : List ℕ). p.pixels ++ t) (timed_pixels (drop 4 ts) ps)

texts_are : (s : List ℕ) (fs : List Frame) → folded add_texts s fs ≡ s ++ all_pixels (all_timed fs)
texts_are s [] = sym (append-nil s)
texts_are s (f ∷ fs) =
    let ts = timed f.head.intervals f.pictures in
    texts_are (s ++ picture_pixels f.pictures) fs ∙ append_assoc s (picture_pixels f.pictures) (all_pixels (all_timed fs))
    ∙ ap (λ (t : List ℕ). s ++ (t ++ all_pixels (all_timed fs))) (sym (timed_pixels f.head.intervals f.pictures))
    ∙ ap (λ (t : List ℕ). s ++ t) (sym (flat_map-append (λ (p : ℕ × Picture). p.1.pixels) ts (all_timed fs)))

pub texts_written : (read : Result (List Frame × List ℕ) SpriteFault) (s rest : List ℕ) → folding add_texts [] read ≡ Ok (s, rest) → IfOk read (λ a. s ≡ all_pixels (all_timed a.0))
texts_written read s rest e = fold_written add_texts [] s (λ s. s) (λ fs. all_pixels (all_timed fs)) (texts_are []) read rest e

grows : (n : ℕ) (ps : List Picture) → n ≤ folded add_pixels n ps
grows n [] = omega arith
grows n (p ∷ ps) = omega (arith, grows (n + length p.pixels) ps)

pub grow_pixels : (n all : ℕ) (read : Result (List Picture × List ℕ) SpriteFault) (total : Result (ℕ × List ℕ) SpriteFault) → IsOkAnd total (λ r. r.0 ≡ all) → folding add_pixels n read ≡ total → n ≤ all
grow_pixels n all (Ok a) total ok e =
    let here : folded add_pixels n a.0 ≡ all = subst (λ (r : Result (ℕ × List ℕ) SpriteFault). IsOkAnd r (λ r. r.0 ≡ all)) (sym e) ok in
    omega (arith, grows n a.0, here)
grow_pixels n all (Err f) total ok e = absurd (subst (λ (r : Result (ℕ × List ℕ) SpriteFault). IsOkAnd r (λ r. r.0 ≡ all)) (sym e) ok)

pub text_more : (row : ℕ) (s : List ℕ) (n i : ℕ) (bytes : List ℕ) (p : Picture) (rest : List ℕ) (total : Result (List ℕ × List ℕ) SpriteFault) → i < n → Ok (p, rest) ≡ run (picture row) bytes
    → folding add_text s (run (each (picture_in row) (n - i) i) bytes) ≡ total → folding add_text (s ++ p.pixels) (run (each (picture_in row) (n - (i + 1)) (i + 1)) rest) ≡ total
unfolding picture_in
text_more row s n i bytes p rest total lt is so_far = fold_more (picture_in row) add_text s n i bytes p rest total lt (sym is) so_far

pub text_stop : (row : ℕ) (s : List ℕ) (n i : ℕ) (bytes : List ℕ) (f : SpriteFault) (total : Result (List ℕ × List ℕ) SpriteFault) → i < n → Err f ≡ run (picture row) bytes
    → folding add_text s (run (each (picture_in row) (n - i) i) bytes) ≡ total → total ≡ Err f
unfolding picture_in
text_stop row s n i bytes f total lt is so_far = fold_fail (picture_in row) add_text s n i bytes f total lt (sym is) so_far
