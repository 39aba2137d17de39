-- Writing one pose after the other.
use Rattle.std.proofs.Common.{◌≡◌, ℕ, suc, ◌+◌, ◌-◌, ◌*◌, ◌≤◌, ◌<◌, List, [], ◌++◌, take, drop, refl, sym, ap, ◌∙◌, append_assoc, arith}
use Rattle.std.proofs.lemmas.List.{append-nil, drop-drop}
use Rattle.alias_load.specs.Images.{pose_rows, vertices_in}
use Rattle.alias_load.specs.Views.{cut}

-- one of n is taken from what is left
pub one_less : (k n i : ℕ) → i < n → k * (n - i) ≡ k + k * (n - (i + 1))
one_less k n i lt = let more : n - i ≡ suc (n - (i + 1)) = omega arith in ap (λ (m : ℕ). k * m) more ∙ omega arith

pub row_more : (text intervals rest total : List ℕ) (item n i : ℕ) → i < n → text ++ pose_rows (drop (4 * i) intervals) (cut item (n - i) rest) ≡ total
    → (text ++ (take 4 (drop (4 * i) intervals) ++ take 24 (take item rest))) ++ pose_rows (drop (4 * (i + 1)) intervals) (cut item (n - (i + 1)) (drop item rest)) ≡ total
unfolding cut
row_more text intervals rest total item n i lt so_far =
    let k : n - i ≡ suc (n - (i + 1)) = omega arith in
    let row = take 4 (drop (4 * i) intervals) ++ take 24 (take item rest) in
    let others = cut item (n - (i + 1)) (drop item rest) in
    let next : drop 4 (drop (4 * i) intervals) ≡ drop (4 * (i + 1)) intervals = drop-drop 4 (4 * i) intervals ∙ ap (λ (m : ℕ). drop m intervals) (omega arith) in
    let one : text ++ pose_rows (drop (4 * i) intervals) (cut item (n - i) rest) ≡ text ++ (row ++ pose_rows (drop 4 (drop (4 * i) intervals)) others) = rw k refl in
    append_assoc text row (pose_rows (drop (4 * (i + 1)) intervals) others)
    ∙ ap (λ (ts : List ℕ). text ++ (row ++ pose_rows ts others)) (sym next) ∙ sym one ∙ so_far

pub rows_done : (text intervals rest total : List ℕ) (item n i : ℕ) → n ≤ i → text ++ pose_rows (drop (4 * i) intervals) (cut item (n - i) rest) ≡ total → text ≡ total
unfolding cut
rows_done text intervals rest total item n i le so_far =
    let k : n - i ≡ 0 = omega arith in
    let one : text ++ pose_rows (drop (4 * i) intervals) (cut item (n - i) rest) ≡ text ++ [] = rw k refl in
    sym (append-nil text) ∙ sym one ∙ so_far

pub ruleset row_laws = (one_less, row_more, rows_done)

pub vertices_more : (text rest total : List ℕ) (item n i : ℕ) → i < n → text ++ vertices_in (cut item (n - i) rest) ≡ total
    → (text ++ drop 24 (take item rest)) ++ vertices_in (cut item (n - (i + 1)) (drop item rest)) ≡ total
unfolding cut
vertices_more text rest total item n i lt so_far =
    let k : n - i ≡ suc (n - (i + 1)) = omega arith in
    let others = cut item (n - (i + 1)) (drop item rest) in
    let one : text ++ vertices_in (cut item (n - i) rest) ≡ text ++ (drop 24 (take item rest) ++ vertices_in others) = rw k refl in
    append_assoc text (drop 24 (take item rest)) (vertices_in others) ∙ sym one ∙ so_far

pub vertices_done : (text rest total : List ℕ) (item n i : ℕ) → n ≤ i → text ++ vertices_in (cut item (n - i) rest) ≡ total → text ≡ total
unfolding cut
vertices_done text rest total item n i le so_far =
    let k : n - i ≡ 0 = omega arith in
    let one : text ++ vertices_in (cut item (n - i) rest) ≡ text ++ [] = rw k refl in
    sym (append-nil text) ∙ sym one ∙ so_far

pub ruleset vertex_laws = (one_less, vertices_more, vertices_done)
