-- Rows of one width: written one after another, and changed in their places.
use Rattle.std.proofs.Common.{◌≡◌, ◌≢◌, ℕ, zero, suc, ◌+◌, ◌-◌, ◌*◌, ◌/◌, ◌≤◌, ◌<◌}
use Rattle.std.proofs.Common.{List, [], ◌∷◌, ◌++◌, length, take, drop, refl, sym, ap, ◌∙◌, inl, inr, arith}
use Rattle.std.specs.List.{flat_map, range_with_len}
use Rattle.std.proofs.Math.Nat.{mul-le-mul_right, div-mul-le_self}
use Rattle.std.proofs.Math.Seq.{take-add}
use Rattle.std.proofs.lemmas.Bool.{cases_lt}
use Rattle.std.proofs.lemmas.List.{take_at, take_all, take-take, drop-drop, length-append, map-id, flat_map_more}
use Rattle.std.proofs.lemmas.List.FromFn.{map-range_with_len_more}
use Rattle.std.proofs.lemmas.Nat.{le-div}
use Rattle.std.proofs.lemmas.Slice.{take-put_mid}
use borrow.Rule.Slice.PartMut.{put_mid}
use Rattle.base_fields.specs.Fields.{field, with_field}
use Rattle.base_fields.proofs.FieldLaws.{field-behind, field-put, field-before_put, field-behind_put}

-- a row ends where the next begins, or before
pub row_below : (size k n : ℕ) → k < n → k * size + size ≤ n * size
row_below size k n lt = let more : (k + 1) * size ≤ n * size = mul-le-mul_right size (omega arith) in grind arith

-- a whole row lies inside
pub row_inside : (size length n : ℕ) → n < length / size → n * size + size ≤ length
row_inside size length n lt = omega (arith, row_below size n (length / size) lt, div-mul-le_self length size)

-- the same, where the length is told as so many rows
pub row_among : (size count length n : ℕ) → length ≡ size * count → n < count → n * size + size ≤ length
row_among size count length n is lt = let end = row_below size n count lt in grind arith

pub below_count : (size count length n : ℕ) → 0 < size → length ≡ size * count → n < count → n < length / size
below_count size count length n some is lt =
    let end : (n + 1) * size ≤ length = let inside = row_among size count length n is lt in grind arith in
    omega (arith, le-div (n + 1) length size some end)

range_more : (n : ℕ) → range_with_len 0 (n + 1) ≡ range_with_len 0 n ++ n ∷ []
range_more n =
    sym (map-id (range_with_len 0 (n + 1)))
    ∙ map-range_with_len_more (λ (x : ℕ). x) 0 n n (omega arith)
    ∙ ap (λ (l : List ℕ). l ++ n ∷ []) (map-id (range_with_len 0 n))

-- one row more at the end
pub rows_more : (rows : ℕ → List ℕ) (n : ℕ)
    → flat_map rows (range_with_len 0 (n + 1)) ≡ flat_map rows (range_with_len 0 n) ++ rows n
rows_more rows n =
    ap (flat_map rows) (range_more n) ∙ sym (flat_map_more rows [] (range_with_len 0 n) n)

rows_suc : (rows : ℕ → List ℕ) (n : ℕ)
    → flat_map rows (range_with_len 0 (suc n)) ≡ flat_map rows (range_with_len 0 n) ++ rows n
rows_suc rows n =
    let one : suc n ≡ n + 1 = omega arith in
    ap (λ k. flat_map rows (range_with_len 0 k)) one ∙ rows_more rows n

-- ---- rows that are written one after another

-- the first n rows are written
pub record IsWritten (rows : ℕ → List ℕ) (size : ℕ) (out : List ℕ) (n : ℕ) : Type 0 where
  pub front : take (n * size) out ≡ flat_map rows (range_with_len 0 n)

pub written_none : (rows : ℕ → List ℕ) (size : ℕ) (out : List ℕ) → IsWritten rows size out 0
written_none rows size out = let none : 0 * size ≡ 0 = omega arith in record { front = rw none refl }

pub written_more : {rows : ℕ → List ℕ} {size : ℕ} {out : List ℕ} {n : ℕ} (row : List ℕ) → IsWritten rows size out n
    → row ≡ rows n → length row ≡ size → n * size ≤ length out
    → IsWritten rows size (put_mid (n * size) (n * size + size - n * size) out row) (n + 1)
written_more {rows} {size} {out} {n} row so is len room =
    let next : (n + 1) * size ≡ n * size + length row = rw len (grind arith) in
    record {
      front =
          take-put_mid (n * size) (n * size + size - n * size) out row ((n + 1) * size) next room
          ∙ rw (so.front, is) (sym (rows_more rows n));
    }

pub written_all : {rows : ℕ → List ℕ} {size : ℕ} {out : List ℕ} {n : ℕ} → IsWritten rows size out n
    → length out ≤ n * size → out ≡ flat_map rows (range_with_len 0 n)
written_all {rows} {size} {out} {n} so enough = sym (take_all (n * size) out enough) ∙ so.front

-- ---- rows that are known one by one

-- all rows have this size
abbrev pub HaveSize : (ℕ → List ℕ) → (size from to : ℕ) → Type 0
HaveSize rows size from to = (n : ℕ) → from ≤ n → n < to → length (rows n) ≡ size

-- the row of a number
row_from : (rows : ℕ → List ℕ) (size from count n : ℕ) → HaveSize rows size from (from + count) → n < count
    → field size (flat_map rows (range_with_len from count)) (n * size) ≡ rows (from + n)
row_from rows size from zero n sized lt = absurd (omega arith)
row_from rows size from (suc count) zero sized lt =
    let none : 0 * size ≡ 0 = omega arith in
    let same : from + 0 ≡ from = omega arith in
    rw (none, same) (take_at (rows from) (flat_map rows (range_with_len (from + 1) count)) size
    (sized from (omega arith) (omega arith)))
row_from rows size from (suc count) (suc n) sized lt =
    let first = sized from (omega arith) (omega arith) in
    let place : suc n * size ≡ length (rows from) + n * size = rw first (grind arith) in
    let next : from + suc n ≡ from + 1 + n = omega arith in
    rw (place, next) (field-behind size (rows from) (flat_map rows (range_with_len (from + 1) count)) (n * size)
    ∙ row_from rows size (from + 1) count n (λ k low high. sized k (omega arith) (omega arith)) (omega arith))

pub row_of_rows : (rows : ℕ → List ℕ) (size count n : ℕ) → HaveSize rows size 0 count → n < count
    → field size (flat_map rows (range_with_len 0 count)) (n * size) ≡ rows n
row_of_rows rows size count n sized lt =
    let same : 0 + n ≡ n = omega arith in
    rw same at (row_from rows size 0 count n (λ k low high. sized k low (omega arith)) lt)

pub length-rows : (rows : ℕ → List ℕ) (size count : ℕ) → HaveSize rows size 0 count
    → length (flat_map rows (range_with_len 0 count)) ≡ size * count
length-rows rows size zero sized = grind arith
length-rows rows size (suc n) sized =
    let first = length-rows rows size n (λ k low high. sized k low (omega arith)) in
    let last = sized n (omega arith) (omega arith) in
    let next : size * n + size ≡ size * suc n = grind arith in
    ap length (rows_suc rows n) ∙ length-append (flat_map rows (range_with_len 0 n)) (rows n) ∙ rw (first, last) next

front_from_rows : (rows : ℕ → List ℕ) (size count : ℕ) (out : List ℕ)
    → ((n : ℕ) → n < count → field size out (n * size) ≡ rows n) → (n : ℕ) → n ≤ count
    → take (n * size) out ≡ flat_map rows (range_with_len 0 n)
front_from_rows rows size count out each zero le = let none : 0 * size ≡ 0 = omega arith in rw none refl
front_from_rows rows size count out each (suc n) le =
    let next : suc n * size ≡ n * size + size = grind arith in
    let front = front_from_rows rows size count out each n (omega arith) in
    rw next (take-add (n * size) size out ∙ rw (front, each n (omega arith)) (sym (rows_suc rows n)))

-- bytes whose rows are known
pub rows_known : (rows : ℕ → List ℕ) (size count : ℕ) (out : List ℕ) → length out ≡ count * size
    → ((n : ℕ) → n < count → field size out (n * size) ≡ rows n) → out ≡ flat_map rows (range_with_len 0 count)
rows_known rows size count out len each =
    sym (take_all (count * size) out (omega arith)) ∙ front_from_rows rows size count out each count (omega arith)

-- ---- four bytes that are put at the end of a row

-- the row ends in them
pub end_here : (size : ℕ) (old word : List ℕ) (n : ℕ) → length word ≡ 4 → n * (size + 4) + (size + 4) ≤ length old
    → field (size + 4) (with_field old (n * (size + 4) + size) word) (n * (size + 4))
    ≡ take size (field (size + 4) old (n * (size + 4))) ++ word
end_here size old word n len room =
    let at = n * (size + 4) + size in
    let new = with_field old at word in
    let inside : at ≤ length old = omega arith in
    let front : field size new (n * (size + 4)) ≡ take size (field (size + 4) old (n * (size + 4))) =
    field-before_put size old at word (n * (size + 4)) inside (omega arith)
    ∙ sym (take-take size (size + 4) (drop (n * (size + 4)) old) (omega arith)) in
    let back : take 4 (drop size (drop (n * (size + 4)) new)) ≡ word =
    ap (take 4) (drop-drop size (n * (size + 4)) new) ∙ field-put 4 old at word inside len in
    take-add size 4 (drop (n * (size + 4)) new) ∙ rw (front, back) refl

-- each other is as it was
pub end_other : (size : ℕ) (old word : List ℕ) (k n : ℕ) → length word ≡ 4 → k * (size + 4) + (size + 4) ≤ length old
    → n ≢ k
    → field (size + 4) (with_field old (k * (size + 4) + size) word) (n * (size + 4))
    ≡ field (size + 4) old (n * (size + 4))
end_other size old word k n len room other =
    let at = k * (size + 4) + size in
    elim (cases_lt n k) [
      | inl lt ↦
          let before : n * (size + 4) + (size + 4) ≤ at = omega (arith, row_below (size + 4) n k lt) in
          field-before_put (size + 4) old at word (n * (size + 4)) (omega arith) before
      | inr ge ↦
          let behind : at + length word ≤ n * (size + 4) =
          omega (arith, len, row_below (size + 4) k n (omega arith)) in
          field-behind_put (size + 4) old at word (n * (size + 4)) (omega arith) behind
    ]
