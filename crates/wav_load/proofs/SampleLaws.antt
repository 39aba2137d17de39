-- Samples, one written behind the other.
use Rattle.std.proofs.Common.{◌≡◌, ℕ, zero, suc, ◌+◌, ◌*◌, ◌/◌, ◌%◌, ◌≤◌, ◌<◌, List, [], ◌∷◌, ◌++◌, length}
use Rattle.std.proofs.Common.{get_or, set, take, drop, replicate, map, refl, sym, ap, subst, ◌∙◌, append_assoc}
use Rattle.std.proofs.Common.{mul-le-mul_right, arith}
use Rattle.std.specs.List.{flat_map, range_with_len, repeat}
use Rattle.std.proofs.Math.Seq.{take-add}
use borrow.Rule.Slice.PartMut.{put_mid}
use Rattle.std.proofs.lemmas.Nat.{div-mul-add}
use Rattle.std.proofs.lemmas.List.{take_more_set, drop_more, length-set, length-replicate, flat_map_more, map-id}
use Rattle.std.proofs.lemmas.List.{append-nil, take_all}
use Rattle.std.proofs.lemmas.Slice.{take-put_mid}
use Rattle.std.proofs.lemmas.List.FromFn.{map-range_with_len_more}
use Rattle.base_fields.specs.Fields.{field}
use Rattle.base_fields.proofs.FieldLaws.{length-field}
use Rattle.wav_load.specs.declared.ratio.Ratio.{Ratio}
use Rattle.wav_load.specs.declared.ratio.Ratio.TheVariants.{Times, Part}
use Rattle.wav_load.specs.Ratios.{input_of}
use Rattle.wav_load.specs.Images.{centred, output, outputs}

range_more : (n : ℕ) → range_with_len 0 (n + 1) ≡ range_with_len 0 n ++ n ∷ []
range_more n =
    let more : map (λ (x : ℕ). x) (range_with_len 0 (n + 1)) ≡ map (λ (x : ℕ). x) (range_with_len 0 n) ++ n ∷ [] =
    map-range_with_len_more (λ x. x) 0 n n (omega arith) in
    sym (map-id (range_with_len 0 (n + 1))) ∙ more ∙ ap (λ (xs : List ℕ). xs ++ n ∷ []) (map-id (range_with_len 0 n))

-- one more text
pub texts_more : (f : ℕ → List ℕ) (n : ℕ) → flat_map f (range_with_len 0 (n + 1)) ≡ flat_map f (range_with_len 0 n) ++ f n
texts_more f n = ap (flat_map f) (range_more n) ∙ sym (flat_map_more f [] (range_with_len 0 n) n)

one_byte : (bytes : List ℕ) (at : ℕ) → at + 1 ≤ length bytes → field 1 bytes at ≡ get_or bytes at 0 ∷ []
one_byte bytes at inside = rw (drop_more bytes at 0 (omega arith)) refl

-- a sample of 8 bits, where its byte is there
output_byte : (ratio : Ratio) (input : List ℕ) (i at : ℕ) → input_of ratio i ≡ at → at < length input
    → output 1 ratio input i ≡ centred (get_or input at 0) ∷ []
output_byte ratio input i at is inside =
    let place : 1 * input_of ratio i ≡ at = omega (arith, is) in
    ap (λ (p : ℕ). map centred (field 1 input p)) place ∙ ap (map centred) (one_byte input at (omega arith))

-- one sample more was written
pub byte_written : (ratio : Ratio) (block input : List ℕ) (i at byte : ℕ) → input_of ratio i ≡ at → i < length block
    → at < length input → byte ≡ centred (get_or input at 0)
    → take i block ≡ outputs 1 ratio input i → take (i + 1) (set block i byte) ≡ outputs 1 ratio input (i + 1)
byte_written ratio block input i at byte is room inside value so_far =
    rw (texts_more (output 1 ratio input) i, output_byte ratio input i at is inside, ← value, ← so_far)
    (take_more_set block i byte room)

-- the same text n times more
repeat_more : (n : ℕ) (text : List ℕ) → repeat n text ++ text ≡ text ++ repeat n text
repeat_more zero text = sym (append-nil text)
repeat_more (suc n) text = append_assoc text (repeat n text) text ∙ ap (λ (t : List ℕ). text ++ t) (repeat_more n text)

texts_repeated : (f : ℕ → List ℕ) (text : List ℕ) (m n : ℕ) → ((k : ℕ) → k < n → f (m + k) ≡ text)
    → flat_map f (range_with_len 0 (m + n)) ≡ flat_map f (range_with_len 0 m) ++ repeat n text
texts_repeated f text m zero same = ap (λ (k : ℕ). flat_map f (range_with_len 0 k)) (omega arith)
    ∙ sym (append-nil (flat_map f (range_with_len 0 m)))
texts_repeated f text m (suc n) same =
    let front = flat_map f (range_with_len 0 m) in
    let before : flat_map f (range_with_len 0 (m + n)) ≡ front ++ repeat n text =
    texts_repeated f text m n (λ k lt. same k (omega arith)) in
    let here : f (m + n) ≡ text = same n (omega arith) in
    let more : flat_map f (range_with_len 0 (m + n + 1)) ≡ front ++ (text ++ repeat n text) =
    texts_more f (m + n) ∙ rw (before, here) refl ∙ append_assoc front (repeat n text) text
    ∙ ap (λ (t : List ℕ). front ++ t) (repeat_more n text) in
    subst (λ (k : ℕ). flat_map f (range_with_len 0 k) ≡ front ++ (text ++ repeat n text)) (omega arith) more

repeat_bytes : (n byte : ℕ) → repeat n (byte ∷ []) ≡ replicate n byte
repeat_bytes zero byte = refl
repeat_bytes (suc n) byte = ap (λ (t : List ℕ). byte ∷ t) (repeat_bytes n byte)

-- the part of sample i among those of so many bytes
part_inside : (block : List ℕ) (count i size at : ℕ) → length block ≡ count * size → i < count → at ≡ i * size
    → at + size ≤ length block
part_inside block count i size at whole inside place =
    let most : (i + 1) * size ≤ count * size = mul-le-mul_right size (omega arith) in
    omega (arith, most, whole, place)

-- a sample of 8 bits was written so many times
pub bytes_repeated : (power i byte at k : ℕ) (block input part : List ℕ) → length block ≡ length input * power
    → i < length input → at ≡ i * power → k ≡ power
    → byte ≡ centred (get_or input i 0) → part ≡ replicate (length (take k (drop at block))) byte → take at block
    ≡ outputs 1 (Part power) input at
    → take ((i + 1) * power) (put_mid at k block part) ≡ outputs 1 (Part power) input ((i + 1) * power)
bytes_repeated power i byte at k block input part whole inside place width value is so_far =
    let fits = part_inside block (length input) i power at whole inside place in
    let many : length (take k (drop at block)) ≡ power = ap (λ (n : ℕ). length (take n (drop at block))) width
    ∙ length-field power block at fits in
    let filled : part ≡ replicate power byte = is ∙ ap (λ (n : ℕ). replicate n byte) many in
    let sized : length part ≡ power = ap length filled ∙ length-replicate power byte in
    let room : at ≤ length block = omega (arith, fits) in
    let same : (j : ℕ) → j < power → output 1 (Part power) input (at + j) ≡ byte ∷ [] = λ j lt.
    output_byte (Part power) input (at + j) i (ap (λ (n : ℕ). (n + j) / power) place ∙ div-mul-add i power j lt) inside
    ∙ ap (λ (b : ℕ). b ∷ []) (sym value) in
    let goal : take (at + power) (put_mid at k block part) ≡ outputs 1 (Part power) input (at + power) =
    take-put_mid at k block part (at + power) (omega (arith, sized)) room
    ∙ rw (so_far, filled, ← repeat_bytes power byte) refl
    ∙ sym (texts_repeated (output 1 (Part power) input) (byte ∷ []) at power same) in
    subst (λ (n : ℕ). take n (put_mid at k block part) ≡ outputs 1 (Part power) input n) (omega (arith, place)) goal

two_bytes : (bytes : List ℕ) (at : ℕ) → at + 2 ≤ length bytes
    → field 2 bytes at ≡ get_or bytes at 0 ∷ get_or bytes (at + 1) 0 ∷ []
two_bytes bytes at inside = rw (drop_more bytes at 0 (omega arith), drop_more bytes (at + 1) 0 (omega arith)) refl

-- a sample of 16 bits, where its bytes are there
output_word : (ratio : Ratio) (input : List ℕ) (i at : ℕ) → 2 * input_of ratio i ≡ at → at + 1 < length input
    → output 2 ratio input i ≡ get_or input at 0 ∷ get_or input (at + 1) 0 ∷ []
output_word ratio input i at is inside = ap (λ (p : ℕ). field 2 input p) is ∙ two_bytes input at (omega arith)

-- two bytes more were written
pub take-set-set : (block : List ℕ) (at low high : ℕ) → at + 1 < length block
    → take (at + 2) (set (set block at low) (at + 1) high) ≡ take at block ++ low ∷ high ∷ []
take-set-set block at low high room =
    let first : take (at + 1) (set block at low) ≡ take at block ++ low ∷ [] = take_more_set block at low (omega arith) in
    let second : take ((at + 1) + 1) (set (set block at low) (at + 1) high) ≡ take (at + 1) (set block at low) ++ high ∷ [] =
    take_more_set (set block at low) (at + 1) high (omega (arith, length-set block at low)) in
    let n : at + 2 ≡ (at + 1) + 1 = omega arith in
    rw (n, second, first) (append_assoc (take at block) (low ∷ []) (high ∷ []))

-- one sample more was written
pub word_written : (ratio : Ratio) (block input : List ℕ) (i at to low high : ℕ) → 2 * input_of ratio i ≡ at
    → to ≡ 2 * i → to + 1 < length block → at + 1 < length input
    → low ≡ get_or input at 0 → high ≡ get_or input (at + 1) 0
    → take (2 * i) block ≡ outputs 2 ratio input i → take (2 * (i + 1)) (set (set block to low) (to + 1) high)
    ≡ outputs 2 ratio input (i + 1)
word_written ratio block input i at to low high is place room inside one two so_far =
    let n : 2 * (i + 1) ≡ to + 2 = omega arith in
    let before : take to block ≡ outputs 2 ratio input i = ap (λ (k : ℕ). take k block) place ∙ so_far in
    rw (n, texts_more (output 2 ratio input) i, output_word ratio input i at is inside, ← one, ← two, ← before)
    (take-set-set block to low high room)

-- one sample more of the same
pub word_again : (block : List ℕ) (i to low high : ℕ) → to ≡ 2 * i → to + 1 < length block
    → take (2 * i) block ≡ repeat i (low ∷ high ∷ []) → take (2 * (i + 1)) (set (set block to low) (to + 1) high)
    ≡ repeat (i + 1) (low ∷ high ∷ [])
word_again block i to low high place room so_far =
    let n : 2 * (i + 1) ≡ to + 2 = omega arith in
    let one : i + 1 ≡ suc i = omega arith in
    let before : take to block ≡ repeat i (low ∷ high ∷ []) = ap (λ (k : ℕ). take k block) place ∙ so_far in
    rw (n, one) (take-set-set block to low high room ∙ ap (λ (t : List ℕ). t ++ low ∷ high ∷ []) before ∙ repeat_more
    i (low ∷ high ∷ []))

-- the samples of 16 bits as they stand
words_are : (input : List ℕ) (n : ℕ) → outputs 2 (Times 1) input n ≡ take (2 * n) input
words_are input zero = refl
words_are input (suc n) =
    let e : n + 1 ≡ suc n = omega arith in
    let place : 2 * (n * 1) ≡ 2 * n = omega arith in
    let next : 2 * suc n ≡ 2 * n + 2 = omega arith in
    let more : outputs 2 (Times 1) input (n + 1) ≡ take (2 * suc n) input =
    texts_more (output 2 (Times 1) input) n ∙ ap (λ (t : List ℕ). t ++ field 2 input (2 * (n * 1))) (words_are input n)
    ∙ ap (λ (p : ℕ). take (2 * n) input ++ field 2 input p) place ∙ sym (take-add (2 * n) 2 input)
    ∙ ap (λ (p : ℕ). take p input) (sym next) in
    subst (λ (k : ℕ). outputs 2 (Times 1) input k ≡ take (2 * suc n) input) e more

pub words_kept : (input : List ℕ) (n : ℕ) → length input % 2 ≡ 0 → n ≡ length input / 2 → input ≡ outputs 2 (Times 1) input n
words_kept input n even is =
    let all : 2 * n ≡ length input = omega arith in
    sym (words_are input n ∙ ap (λ (k : ℕ). take k input) all ∙ take_all (length input) input (omega arith))

-- a sample of 16 bits was written so many times
pub words_repeated : (power i low high at k : ℕ) (block input part : List ℕ)
    → length block ≡ 2 * (length input / 2 * power) → i < length input / 2 → at ≡ 2 * (i * power) → k ≡ 2 * power
    → low ≡ get_or input (2 * i) 0 → high ≡ get_or input (2 * i + 1) 0
    → length part ≡ length (take k (drop at block)) → part ≡ repeat (length (take k (drop at block)) / 2)
    (low ∷ high ∷ []) → take at block ≡ outputs 2 (Part power) input (i * power)
    → take (2 * ((i + 1) * power)) (put_mid at k block part) ≡ outputs 2 (Part power) input ((i + 1) * power)
words_repeated power i low high at k block input part whole inside place width one two same_length is so_far =
    let fits = part_inside block (length input / 2) i (2 * power) at (omega (arith, whole)) inside (omega (arith, place)) in
    let many : length (take k (drop at block)) ≡ 2 * power = ap (λ (n : ℕ). length (take n (drop at block))) width
    ∙ length-field (2 * power) block at fits in
    let half : length (take k (drop at block)) / 2 ≡ power = omega (arith, many) in
    let filled : part ≡ repeat power (low ∷ high ∷ []) = is ∙ ap (λ (n : ℕ). repeat n (low ∷ high ∷ [])) half in
    let room : at ≤ length block = omega (arith, fits) in
    let word : get_or input (2 * i) 0 ∷ get_or input (2 * i + 1) 0 ∷ [] ≡ low ∷ high ∷ [] = rw (← one, ← two) refl in
    let same : (j : ℕ) → j < power → output 2 (Part power) input (i * power + j) ≡ low ∷ high ∷ [] = λ j lt.
    output_word (Part power) input (i * power + j) (2 * i) (ap (λ (n : ℕ). 2 * n) (div-mul-add i power j lt)) (omega arith)
    ∙ word in
    let end : 2 * (i * power + power) ≡ at + 2 * power = omega (arith, place) in
    let goal : take (2 * (i * power + power)) (put_mid at k block part) ≡ outputs 2 (Part power) input (i * power + power) =
    ap (λ (n : ℕ). take n (put_mid at k block part)) end
    ∙ take-put_mid at k block part (at + 2 * power) (omega (arith, same_length, many)) room
    ∙ rw (so_far, filled) refl
    ∙ sym (texts_repeated (output 2 (Part power) input) (low ∷ high ∷ []) (i * power) power same) in
    subst (λ (n : ℕ). take (2 * n) (put_mid at k block part) ≡ outputs 2 (Part power) input n) (omega arith) goal

pub ruleset sample_laws = (byte_written, word_written)
