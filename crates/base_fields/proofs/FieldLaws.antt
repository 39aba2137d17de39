-- What fields hold after a write, and within blocks of bytes.
use Rattle.std.proofs.Common.{◌≡◌, ℕ, ◌+◌, ◌-◌, ◌^◌, ◌<◌, ◌≤◌, All, List, [], ◌∷◌, ◌++◌, length, take, drop, refl, sym, lit<, ap, ◌∙◌, append_assoc, arith}
use Rattle.std.specs.List.{slice_range}
use Rattle.std.proofs.Math.Nat.{pow-succ', pow-le-pow_right}
use Rattle.std.proofs.Math.Seq.{drop-append-add}
use Rattle.std.proofs.lemmas.List.{length-take, length-drop, length-append, take-take, take-append-le, take_at, drop_at, drop-drop, drop-take, drop-append-le}
use Rattle.std.proofs.lemmas.List.Elements.{All-take, All-drop, All-head, All-tail}
use Rattle.base_fields.specs.Fields.{little_endian, field, u16_in, u32_in, u32_bytes, with_field}

-- a field inside has as many bytes as are asked for
pub length-field : (n : ℕ) (bytes : List ℕ) (at : ℕ) → at + n ≤ length bytes → length (field n bytes at) ≡ n
length-field n bytes at inside = omega (arith, length-take n (drop at bytes), length-drop at bytes)

-- a field of the front stays where more stands behind it
pub field-front : (n : ℕ) (front rest : List ℕ) (at : ℕ) → at + n ≤ length front → field n (front ++ rest) at ≡ field n front at
field-front n front rest at inside =
    ap (take n) (drop-append-le at front rest (omega arith)) ∙ take-append-le n (drop at front) rest (omega (arith, length-drop at front))

-- a field of what stands behind a front
pub field-behind : (n : ℕ) (front rest : List ℕ) (at : ℕ) → field n (front ++ rest) (length front + at) ≡ field n rest at
field-behind n front rest at = ap (take n) (drop-append-add front rest at)

-- the field that stands between a front and a rest
pub field-between : (n : ℕ) (front word rest : List ℕ) (at : ℕ) → length front ≡ at → length word ≡ n → field n (front ++ (word ++ rest)) at ≡ word
field-between n front word rest at begins ends = ap (take n) (drop_at front (word ++ rest) at begins) ∙ take_at word rest n ends

-- a field of the first so many bytes
pub field-take : (n : ℕ) (bytes : List ℕ) (most at : ℕ) → at + n ≤ most → field n (take most bytes) at ≡ field n bytes at
field-take n bytes most at inside =
    let split : most ≡ at + (most - at) = omega arith in
    let cut : drop at (take most bytes) ≡ take (most - at) (drop at bytes) = ap (λ m. drop at (take m bytes)) split ∙ drop-take at (most - at) bytes in
    ap (take n) cut ∙ take-take n (most - at) (drop at bytes) (omega arith)

-- a field of a part of the bytes
pub field-part : (n : ℕ) (bytes : List ℕ) (from to at : ℕ) → from + at + n ≤ to → field n (slice_range bytes from to) at ≡ field n bytes (from + at)
field-part n bytes from to at inside =
    field-take n (drop from bytes) (to - from) at (omega arith) ∙ ap (take n) (drop-drop at from bytes)

-- bytes put inside leave the length
pub length-with_field : (bytes : List ℕ) (at : ℕ) (piece : List ℕ) → at + length piece ≤ length bytes → length (with_field bytes at piece) ≡ length bytes
length-with_field bytes at piece inside =
    omega (arith, length-append (take at bytes) (piece ++ drop (at + length piece) bytes), length-append piece (drop (at + length piece) bytes), length-take at bytes, length-drop (at + length piece) bytes)

-- what was put is read back
pub field-put : (n : ℕ) (bytes : List ℕ) (at : ℕ) (piece : List ℕ) → at ≤ length bytes → length piece ≡ n → field n (with_field bytes at piece) at ≡ piece
field-put n bytes at piece inside sized =
    field-between n (take at bytes) piece (drop (at + length piece) bytes) at (omega (arith, length-take at bytes)) sized

-- a field before it stays
pub field-before_put : (n : ℕ) (bytes : List ℕ) (at : ℕ) (piece : List ℕ) (other : ℕ) → at ≤ length bytes → other + n ≤ at → field n (with_field bytes at piece) other ≡ field n bytes other
field-before_put n bytes at piece other inside before =
    field-front n (take at bytes) (piece ++ drop (at + length piece) bytes) other (omega (arith, length-take at bytes)) ∙ field-take n bytes at other before

-- a field behind it stays
pub field-behind_put : (n : ℕ) (bytes : List ℕ) (at : ℕ) (piece : List ℕ) (other : ℕ) → at ≤ length bytes → at + length piece ≤ other → field n (with_field bytes at piece) other ≡ field n bytes other
field-behind_put n bytes at piece other inside behind =
    let past = other - (at + length piece) in
    let front = take at bytes ++ piece in
    let rest = drop (at + length piece) bytes in
    let place : other ≡ length front + past = omega (arith, length-append (take at bytes) piece, length-take at bytes) in
    ap (λ l. field n l other) (sym (append_assoc (take at bytes) piece rest))
    ∙ ap (field n (front ++ rest)) place
    ∙ field-behind n front rest past
    ∙ ap (take n) (drop-drop past (at + length piece) bytes)
    ∙ ap (field n bytes) (omega arith)

-- bytes put over the middle part of a block
pub with_field-between : (front old rest : List ℕ) (at : ℕ) (piece : List ℕ) → length front ≡ at → length old ≡ length piece → with_field (front ++ (old ++ rest)) at piece ≡ front ++ (piece ++ rest)
with_field-between front old rest at piece begins sized =
    let behind : drop (at + length piece) (front ++ (old ++ rest)) ≡ rest =
    ap (drop (at + length piece)) (sym (append_assoc front old rest)) ∙ drop_at (front ++ old) rest (at + length piece) (omega (arith, length-append front old)) in
    ap (λ l. l ++ (piece ++ drop (at + length piece) (front ++ (old ++ rest)))) (take_at front (old ++ rest) at begins) ∙ ap (λ l. front ++ (piece ++ l)) behind

-- the four bytes of a number write it
pub little_endian-u32_bytes : (value : ℕ) → value < 2 ^ 32 → little_endian (u32_bytes value) ≡ value
little_endian-u32_bytes value fits = omega arith

-- n bytes write a number below 256 ^ n
pub little_endian-lt : (word : List ℕ) → All (λ byte. byte < 256) word → little_endian word < 256 ^ length word
little_endian-lt [] bytes = lit< tt
little_endian-lt (byte ∷ word) bytes =
    let rest = little_endian-lt word (All-tail (λ b. b < 256) byte word bytes) in
    let first : byte < 256 = All-head (λ b. b < 256) byte word bytes in
    omega (arith, rest, first, pow-succ' 256 (length word))

-- and so n bytes or fewer do
field-lt : (n : ℕ) (bytes : List ℕ) (at : ℕ) → All (λ byte. byte < 256) bytes → little_endian (field n bytes at) < 256 ^ n
field-lt n bytes at are_bytes =
    let word = field n bytes at in
    let below = little_endian-lt word (All-take (λ b. b < 256) n (drop at bytes) (All-drop (λ b. b < 256) at bytes are_bytes)) in
    let most : length word ≤ n = omega (arith, length-take n (drop at bytes)) in
    omega (arith, below, pow-le-pow_right {n = 256} (lit< tt) {i = length word} {j = n} most)

-- the numbers fit their types
pub u16_in-lt : (bytes : List ℕ) (at : ℕ) → All (λ byte. byte < 256) bytes → u16_in bytes at < 2 ^ 16
unfolding u16_in
u16_in-lt bytes at are_bytes = field-lt 2 bytes at are_bytes

pub u32_in-lt : (bytes : List ℕ) (at : ℕ) → All (λ byte. byte < 256) bytes → u32_in bytes at < 2 ^ 32
unfolding u32_in
u32_in-lt bytes at are_bytes = field-lt 4 bytes at are_bytes

-- what `put_u32` wrote is read back
pub u32_in-put : (bytes : List ℕ) (at value : ℕ) → at ≤ length bytes → value < 2 ^ 32 → u32_in (with_field bytes at (u32_bytes value)) at ≡ value
unfolding u32_in
u32_in-put bytes at value inside fits = ap little_endian (field-put 4 bytes at (u32_bytes value) inside refl) ∙ little_endian-u32_bytes value fits

-- numbers before and behind what was put stay
pub u32_in-before_put : (bytes : List ℕ) (at : ℕ) (piece : List ℕ) (other : ℕ) → at ≤ length bytes → other + 4 ≤ at → u32_in (with_field bytes at piece) other ≡ u32_in bytes other
unfolding u32_in
u32_in-before_put bytes at piece other inside before = ap little_endian (field-before_put 4 bytes at piece other inside before)

pub u32_in-behind_put : (bytes : List ℕ) (at : ℕ) (piece : List ℕ) (other : ℕ) → at ≤ length bytes → at + length piece ≤ other → u32_in (with_field bytes at piece) other ≡ u32_in bytes other
unfolding u32_in
u32_in-behind_put bytes at piece other inside behind = ap little_endian (field-behind_put 4 bytes at piece other inside behind)

-- the number that stands between a front and a rest
pub u16_in-between : (front word rest : List ℕ) (at : ℕ) → length front ≡ at → length word ≡ 2 → u16_in (front ++ (word ++ rest)) at ≡ little_endian word
unfolding u16_in
u16_in-between front word rest at begins ends = ap little_endian (field-between 2 front word rest at begins ends)

pub u32_in-between : (front word rest : List ℕ) (at : ℕ) → length front ≡ at → length word ≡ 4 → u32_in (front ++ (word ++ rest)) at ≡ little_endian word
unfolding u32_in
u32_in-between front word rest at begins ends = ap little_endian (field-between 4 front word rest at begins ends)

-- a number whose bytes were written there
pub u32_in-written : (front rest : List ℕ) (at value : ℕ) → length front ≡ at → value < 2 ^ 32 → u32_in (front ++ (u32_bytes value ++ rest)) at ≡ value
u32_in-written front rest at value begins fits = u32_in-between front (u32_bytes value) rest at begins refl ∙ little_endian-u32_bytes value fits

-- a number of a part of the bytes
pub u16_in-part : (bytes : List ℕ) (from to at : ℕ) → from + at + 2 ≤ to → u16_in (slice_range bytes from to) at ≡ u16_in bytes (from + at)
unfolding u16_in
u16_in-part bytes from to at inside = ap little_endian (field-part 2 bytes from to at inside)

pub u32_in-part : (bytes : List ℕ) (from to at : ℕ) → from + at + 4 ≤ to → u32_in (slice_range bytes from to) at ≡ u32_in bytes (from + at)
unfolding u32_in
u32_in-part bytes from to at inside = ap little_endian (field-part 4 bytes from to at inside)
