-- Passes that write.
use Rattle.std.proofs.Common.{◌≡◌, ℕ, ◌+◌, ◌-◌, ◌*◌, ◌<◌, List, [], ◌∷◌, ◌++◌, length, drop, Result, Ok, Err, refl, sym, ap, subst, ◌∙◌, append_assoc, arith}
use Rattle.std.specs.Prelude.{IfOk}
use Rattle.std.proofs.lemmas.List.{append-nil, drop-drop, drop_all}
use Rattle.base_fields.specs.Fields.{u32_in}
use Rattle.part_plan.specs.Plan.{run, each, folded, folding}
use Rattle.part_plan.proofs.Runs.{done, ok_is}
use Rattle.part_plan.proofs.Each.{seen_ok, fold_more, fold_fail, fold_written}
use Rattle.sprite_load.specs.declared.fault.SpriteFault.{SpriteFault}
use Rattle.sprite_load.specs.Sprites.{Picture, Frame}
use Rattle.sprite_load.specs.Parts.{picture, picture_in}
use Rattle.sprite_load.specs.Images.{frame_row, frame_rows, timed, picture_row, picture_rows}
use Rattle.sprite_load.specs.Rows.{Rows, add_row, no_rows, Places, add_picture, no_places}

rows_are : (s : Rows) (fs : List Frame) → (folded add_row s fs).text ≡ s.text ++ frame_rows s.first fs
rows_are s [] = sym (append-nil s.text)
rows_are s (f ∷ fs) = rows_are (add_row s f) fs ∙ append_assoc s.text (frame_row s.first f) (frame_rows (s.first + length f.pictures) fs)

ok_same : (x y : List Frame × List ℕ) → done {F = SpriteFault} x ≡ done y → x ≡ y
ok_same x y e = ok_is {F = SpriteFault} x y e

-- what a fold that ended says of the text
pub rows_written : (read : Result (List Frame × List ℕ) SpriteFault) (first : ℕ) (text rest : List ℕ) → folding add_row (no_rows 0) read ≡ Ok (record { first = first; text = text }, rest) → IfOk read (λ a. text ≡ frame_rows 0 a.0)
rows_written (Ok a) first text rest e =
    let is = seen_ok (λ (a : List Frame × List ℕ). (folded add_row (no_rows 0) a.0, a.1)) (Ok a) (record { first = first; text = text }, rest) (sym e) in
    let same : a ≡ is.0 = ok_same a is.0 is.1 in
    let text-is : (folded add_row (no_rows 0) is.0.0).text ≡ text = ap (λ (p : Rows × List ℕ). p.0.text) is.2 in
    sym text-is ∙ ap (λ (b : List Frame × List ℕ). (folded add_row (no_rows 0) b.0).text) (sym same) ∙ rows_are (no_rows 0) a.0
rows_written (Err f) first text rest e = tt

pub rows_refused : (read : Result (List Frame × List ℕ) SpriteFault) (dst : List ℕ) (f : SpriteFault) → folding add_row (no_rows 0) read ≡ Err f → IfOk read (λ a. dst ≡ frame_rows 0 a.0)
rows_refused (Ok a) dst f e = absurd cc
rows_refused (Err g) dst f e = tt

places_are : (s : Places) (ps : List Picture) → (folded add_picture s ps).text ≡ s.text ++ picture_rows s.at (timed s.intervals ps)
places_are s [] = sym (append-nil s.text)
places_are s (p ∷ ps) = places_are (add_picture s p) ps ∙ append_assoc s.text (picture_row s.at (u32_in s.intervals 0, p)) (picture_rows (s.at + length p.pixels) (timed (drop 4 s.intervals) ps))

pub places_written : (read : Result (List Picture × List ℕ) SpriteFault) (intervals : List ℕ) (from : ℕ) (s : Places) (rest : List ℕ) → folding add_picture (no_places intervals from) read ≡ Ok (s, rest)
    → IfOk read (λ a. s.text ≡ picture_rows from (timed intervals a.0))
places_written read intervals from s rest e = fold_written add_picture (no_places intervals from) s (λ s. s.text) (λ ps. picture_rows from (timed intervals ps)) (places_are (no_places intervals from)) read rest e

pub places_more : (row : ℕ) (ts : List ℕ) (at : ℕ) (text : List ℕ) (n i : ℕ) (bytes : List ℕ) (p : Picture) (rest : List ℕ) (total : Result (Places × List ℕ) SpriteFault) → i < n → Ok (p, rest) ≡ run (picture row) bytes
    → folding add_picture (record { intervals = drop (4 * i) ts; at = at; text = text }) (run (each (picture_in row) (n - i) i) bytes) ≡ total
    → folding add_picture (record { intervals = drop (4 * (i + 1)) ts; at = at + length p.pixels; text = text ++ picture_row at (u32_in (drop (4 * i) ts) 0, p) }) (run (each (picture_in row) (n - (i + 1)) (i + 1)) rest) ≡ total
unfolding picture_in
places_more row ts at text n i bytes p rest total lt is so_far =
    let next : drop 4 (drop (4 * i) ts) ≡ drop (4 * (i + 1)) ts = drop-drop 4 (4 * i) ts ∙ ap (λ (k : ℕ). drop k ts) (omega arith) in
    let more = fold_more (picture_in row) add_picture (record { intervals = drop (4 * i) ts; at = at; text = text }) n i bytes p rest total lt (sym is) so_far in
    subst (λ (us : List ℕ). folding add_picture (record { intervals = us; at = at + length p.pixels; text = text ++ picture_row at (u32_in (drop (4 * i) ts) 0, p) }) (run (each (picture_in row) (n - (i + 1)) (i + 1)) rest) ≡ total) next more

pub places_stop : (row : ℕ) (s : Places) (n i : ℕ) (bytes : List ℕ) (f : SpriteFault) (total : Result (Places × List ℕ) SpriteFault) → i < n → Err f ≡ run (picture row) bytes
    → folding add_picture s (run (each (picture_in row) (n - i) i) bytes) ≡ total → total ≡ Err f
unfolding picture_in
places_stop row s n i bytes f total lt is so_far = fold_fail (picture_in row) add_picture s n i bytes f total lt (sym is) so_far

pub interval_none : (ts : List ℕ) (k : ℕ) → length ts ≡ 0 → 0 ≡ u32_in (drop k ts) 0
unfolding u32_in
interval_none ts k none =
    let gone : drop k ts ≡ [] = drop_all k ts (omega arith) in
    rw gone refl

pub interval_is : (ts : List ℕ) (k : ℕ) → u32_in ts k ≡ u32_in (drop k ts) 0
unfolding u32_in
interval_is ts k = refl

pub ruleset interval_laws = (interval_none, interval_is)
