-- Where the blocks of a hunk end, and the rows that are read by it.
use Rattle.std.proofs.Common.{◌≡◌, ℕ, suc, zero, ◌+◌, ◌-◌, ◌<◌, ◌≤◌, List, [], ◌∷◌, ◌++◌, Some, None, length, take, eqb, cond, true, false, refl, ap, ◌∙◌, arith, length-append}
use Rattle.std.specs.Prelude.{slice_get}
use Rattle.std.proofs.lemmas.Option.{slice_get_past}
use Rattle.mem_model.specs.Blocks.{HunkBlock}
use Rattle.mem_model.specs.Memory.{size_of}
use Rattle.mem_model.specs.Hunk.{with_bytes, with_bytes_from, with_bytes_above, with_last_bytes}
use Rattle.mem_model.specs.Plain.{ends_from}
use Rattle.mem_model.specs.Rows.{hunk_row, rows_up, rows_down}

ends-append : (start : ℕ) (blocks : List HunkBlock) (b : HunkBlock) (end : ℕ) → end ≡ (start + size_of blocks) + b.size → ends_from start blocks ++ end ∷ [] ≡ ends_from start (blocks ++ b ∷ [])
ends-append start [] b end e = let same : end ≡ start + b.size = omega (arith, e) in ap (λ n. n ∷ []) same
ends-append start (c ∷ cs) b end e = ap (λ ns. (start + c.size) ∷ ns) (ends-append (start + c.size) cs b end (omega (arith, e)))

-- the ends with a new block
pub ends-more : (blocks : List HunkBlock) (b : HunkBlock) (end : ℕ) → end ≡ size_of blocks + b.size → ends_from 0 blocks ++ end ∷ [] ≡ ends_from 0 (blocks ++ b ∷ [])
ends-more blocks b end e = ends-append 0 blocks b end (omega (arith, e))

take_ends : (start n : ℕ) (blocks : List HunkBlock) → take n (ends_from start blocks) ≡ ends_from start (take n blocks)
take_ends start zero blocks = refl
take_ends start (suc n) [] = refl
take_ends start (suc n) (b ∷ bs) = ap (λ ns. (start + b.size) ∷ ns) (take_ends (start + b.size) n bs)

-- the ends of the oldest blocks
pub ends-fewer : (n : ℕ) (blocks : List HunkBlock) → take n (ends_from 0 blocks) ≡ ends_from 0 (take n blocks)
ends-fewer n blocks = take_ends 0 n blocks

pub length-ends : (start : ℕ) (blocks : List HunkBlock) → length (ends_from start blocks) ≡ length blocks
length-ends start [] = refl
length-ends start (b ∷ bs) = ap suc (length-ends (start + b.size) bs)

ends-with_bytes : (at start : ℕ) (blocks : List HunkBlock) (place : ℕ) (bytes : List ℕ) → ends_from at (with_bytes_from start blocks place bytes) ≡ ends_from at blocks
ends-with_bytes at start [] place bytes = refl
ends-with_bytes at start (b ∷ bs) place bytes =
    elim (eqb (start + 16) place) as (λ t. ends_from at (cond t (with_bytes b bytes ∷ bs) (b ∷ with_bytes_from (start + b.size) bs place bytes)) ≡ (at + b.size) ∷ ends_from (at + b.size) bs) [
      | true ↦ refl
      | false ↦ ap (λ ns. (at + b.size) ∷ ns) (ends-with_bytes (at + b.size) (start + b.size) bs place bytes)
    ]

-- a write leaves the ends
pub ends-with_bytes_above : (low : List HunkBlock) (place : ℕ) (bytes : List ℕ) → ends_from 0 (with_bytes_above low place bytes) ≡ ends_from 0 low
ends-with_bytes_above [] place bytes = refl
ends-with_bytes_above (zone ∷ blocks) place bytes = ap (λ ns. (0 + zone.size) ∷ ns) (ends-with_bytes (0 + zone.size) zone.size blocks place bytes)

pub ends-with_last : (start : ℕ) (blocks : List HunkBlock) (bytes : List ℕ) → ends_from start (with_last_bytes blocks bytes) ≡ ends_from start blocks
ends-with_last start [] bytes = refl
ends-with_last start (b ∷ []) bytes = refl
ends-with_last start (b ∷ c ∷ bs) bytes = ap (λ ns. (start + b.size) ∷ ns) (ends-with_last (start + b.size) (c ∷ bs) bytes)

-- a block ends past its size, and with the others at most
pub end_small : (start : ℕ) (blocks : List HunkBlock) (i : ℕ) (b : HunkBlock) (end : ℕ) → slice_get blocks i ≡ Some b → slice_get (ends_from start blocks) i ≡ Some end → (start + b.size ≤ end) × (end ≤ start + size_of blocks)
end_small start [] i b end h e = absurd (cc)
end_small start (c ∷ cs) zero b end h e =
    let same : c ≡ b = cc in
    let there : start + c.size ≡ end = cc in
    (omega (arith, ap (λ (x : HunkBlock). x.size) same, there), omega (arith, there))
end_small start (c ∷ cs) (suc i) b end h e = let rest = end_small (start + c.size) cs i b end h e in (omega (arith, rest.0), omega (arith, rest.1))

row_from : (start : ℕ) (blocks : List HunkBlock) (i : ℕ) (b : HunkBlock) (end : ℕ) → slice_get blocks i ≡ Some b → slice_get (ends_from start blocks) i ≡ Some end → slice_get (rows_up start blocks) i ≡ Some (hunk_row (end - b.size) b)
row_from start [] i b end h e = absurd (cc)
row_from start (c ∷ cs) zero b end h e =
    let same : c ≡ b = cc in
    let there : start + c.size ≡ end = cc in
    let place : start ≡ end - b.size = omega (arith, ap (λ (x : HunkBlock). x.size) same, there) in
    ap (λ (x : HunkBlock). Some (hunk_row start x)) same ∙ ap (λ n. Some (hunk_row n b)) place
row_from start (c ∷ cs) (suc i) b end h e = row_from (start + c.size) cs i b end h e

-- the row of a low block
pub row_up : (blocks : List HunkBlock) (i : ℕ) (b : HunkBlock) (end : ℕ) → slice_get blocks i ≡ Some b → slice_get (ends_from 0 blocks) i ≡ Some end → slice_get (rows_up 0 blocks) i ≡ Some (hunk_row (end - b.size) b)
row_up blocks i b end h e = row_from 0 blocks i b end h e

pub no_row_up : (start : ℕ) (blocks : List HunkBlock) (i : ℕ) → length blocks ≤ i → slice_get (rows_up start blocks) i ≡ None
no_row_up start [] i h = refl
no_row_up start (b ∷ bs) zero h = absurd (omega (arith, h))
no_row_up start (b ∷ bs) (suc i) h = no_row_up (start + b.size) bs i (omega (arith, h))

get_front : {X : Type 0} (xs ys : List X) (j : ℕ) → j < length xs → slice_get (xs ++ ys) j ≡ slice_get xs j
get_front [] ys j h = absurd (omega (arith, h))
get_front (x ∷ xs) ys zero h = refl
get_front (x ∷ xs) ys (suc j) h = get_front xs ys j (omega (arith, h))

get_behind : {X : Type 0} (xs : List X) (x : X) (j : ℕ) → j ≡ length xs → slice_get (xs ++ x ∷ []) j ≡ Some x
get_behind [] x zero h = refl
get_behind [] x (suc j) h = absurd (omega (arith, h))
get_behind (y ∷ ys) x zero h = absurd (omega (arith, h))
get_behind (y ∷ ys) x (suc j) h = get_behind ys x j (omega (arith, h))

length-rows_down : (end : ℕ) (blocks : List HunkBlock) → length (rows_down end blocks) ≡ length blocks
length-rows_down end [] = refl
length-rows_down end (b ∷ bs) = omega (arith, length-append (rows_down (end - b.size) bs) (hunk_row (end - b.size) b ∷ []), length-rows_down (end - b.size) bs)

pub no_row_down : (end : ℕ) (blocks : List HunkBlock) (i : ℕ) → length blocks ≤ i → slice_get (rows_down end blocks) i ≡ None
no_row_down end blocks i h = slice_get_past (rows_down end blocks) i (omega (arith, length-rows_down end blocks))

row_to : (top start : ℕ) (blocks : List HunkBlock) (i j : ℕ) (b : HunkBlock) (end : ℕ) → size_of blocks ≤ top → slice_get blocks i ≡ Some b → slice_get (ends_from start blocks) i ≡ Some end → (j + i) + 1 ≡ length blocks →
    slice_get (rows_down top blocks) j ≡ Some (hunk_row ((top + start) - end) b)
row_to top start [] i j b end fits h e n = absurd (cc)
row_to top start (c ∷ cs) zero j b end fits h e n =
    let same : c ≡ b = cc in
    let there : start + c.size ≡ end = cc in
    let place : top - c.size ≡ (top + start) - end = omega (arith, there) in
    get_behind (rows_down (top - c.size) cs) (hunk_row (top - c.size) c) j (omega (arith, n, length-rows_down (top - c.size) cs))
    ∙ ap (λ p. Some (hunk_row p c)) place ∙ ap (λ (x : HunkBlock). Some (hunk_row ((top + start) - end) x)) same
row_to top start (c ∷ cs) (suc i) j b end fits h e n =
    let shift : (top - c.size) + (start + c.size) ≡ top + start = omega (arith, fits) in
    get_front (rows_down (top - c.size) cs) (hunk_row (top - c.size) c ∷ []) j (omega (arith, n, length-rows_down (top - c.size) cs))
    ∙ row_to (top - c.size) (start + c.size) cs i j b end (omega (arith, fits)) h e (omega (arith, n))
    ∙ ap (λ p. Some (hunk_row (p - end) b)) shift

-- the row of a high block
pub row_down : (top : ℕ) (blocks : List HunkBlock) (i j : ℕ) (b : HunkBlock) (end : ℕ) → size_of blocks ≤ top → slice_get blocks i ≡ Some b → slice_get (ends_from 0 blocks) i ≡ Some end → (j + i) + 1 ≡ length blocks →
    slice_get (rows_down top blocks) j ≡ Some (hunk_row (top - end) b)
row_down top blocks i j b end fits h e n =
    let same : top + 0 ≡ top = omega arith in
    row_to top 0 blocks i j b end fits h e n ∙ ap (λ p. Some (hunk_row (p - end) b)) same
