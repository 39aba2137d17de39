-- A record, written part by part over the front of a block's bytes.
use Rattle.std.proofs.Common.{◌≡◌, ℕ, ◌+◌, ◌-◌, ◌≤◌, List, [], ◌++◌, length, take, drop, replicate, Option, Some, None, refl, sym, ap, ◌∙◌, arith, append_assoc, length-append, length-drop}
use Rattle.std.proofs.lemmas.List.{take-append-drop, length-take, drop-drop, length-replicate}
use Rattle.std.specs.Option.{unwrap_or}
use Rattle.base_fields.specs.Fields.{with_field}
use Rattle.base_fields.proofs.FieldLaws.{with_field-between, length-with_field}
use Rattle.mem_model.specs.Hunk.{over}
use Rattle.mem_model.proofs.Laying.{over_front}
use Rattle.cmd_buffer.specs.Aliases.{number_of}
use borrow.Rule.Slice.PartMut.{put_mid}

-- a part that was written is a field that was put
put_field : (at n : ℕ) (bytes piece : List ℕ) → length piece ≡ n → put_mid at n bytes piece ≡ with_field bytes at piece
put_field at n bytes piece sized =
    ap (λ rest. take at bytes ++ (piece ++ rest)) (drop-drop n at bytes ∙ ap (λ k. drop k bytes) (omega (arith, sized)))

-- four parts, one behind another
parts_put : (old1 old2 old3 old4 rest first name zeros last : List ℕ) (at2 at3 at4 : ℕ) → length old1 ≡ length first → length old2 ≡ length name → length old3 ≡ length zeros → length old4 ≡ length last →
    at2 ≡ length first → at3 ≡ at2 + length name → at4 ≡ at3 + length zeros →
    with_field (with_field (with_field (with_field (old1 ++ (old2 ++ (old3 ++ (old4 ++ rest)))) 0 first) at2 name) at3 zeros) at4 last ≡ first ++ (name ++ (zeros ++ (last ++ rest)))
parts_put old1 old2 old3 old4 rest first name zeros last at2 at3 at4 s1 s2 s3 s4 e2 e3 e4 =
    ap (λ bs. with_field (with_field (with_field bs at2 name) at3 zeros) at4 last) (with_field-between [] old1 (old2 ++ (old3 ++ (old4 ++ rest))) 0 first refl s1)
    ∙ ap (λ bs. with_field (with_field bs at3 zeros) at4 last) (with_field-between first old2 (old3 ++ (old4 ++ rest)) at2 name (sym e2) s2)
    ∙ ap (λ bs. with_field (with_field bs at3 zeros) at4 last) (sym (append_assoc first name (old3 ++ (old4 ++ rest))))
    ∙ ap (λ bs. with_field bs at4 last) (with_field-between (first ++ name) old3 (old4 ++ rest) at3 zeros (omega (arith, length-append first name)) s3)
    ∙ ap (λ bs. with_field bs at4 last) (sym (append_assoc (first ++ name) zeros (old4 ++ rest)))
    ∙ with_field-between ((first ++ name) ++ zeros) old4 rest at4 last (omega (arith, length-append first name, length-append (first ++ name) zeros)) s4
    ∙ append_assoc (first ++ name) zeros (last ++ rest)
    ∙ append_assoc first name (zeros ++ (last ++ rest))

-- The parts of a record are written over the front of the bytes.
record_put : (bytes name first zeros last : List ℕ) → 40 ≤ length bytes → length first ≡ 4 → length name + length zeros ≡ 32 → length last ≡ 4 →
    with_field (with_field (with_field (with_field bytes 0 first) 4 name) (4 + length name) zeros) 36 last ≡ over bytes (first ++ (name ++ zeros) ++ last)
record_put bytes name first zeros last room first4 sized last4 =
    let b1 = drop 4 bytes in
    let b2 = drop (length name) b1 in
    let b3 = drop (length zeros) b2 in
    let rest = drop 4 b3 in
    let pieces = first ++ (name ++ zeros) ++ last in
    let l1 : length b1 ≡ length bytes - 4 = length-drop 4 bytes in
    let l2 : length b2 ≡ length b1 - length name = length-drop (length name) b1 in
    let l3 : length b3 ≡ length b2 - length zeros = length-drop (length zeros) b2 in
    let split : take 4 bytes ++ (take (length name) b1 ++ (take (length zeros) b2 ++ (take 4 b3 ++ rest))) ≡ bytes =
    ap (λ bs. take 4 bytes ++ (take (length name) b1 ++ (take (length zeros) b2 ++ bs))) (take-append-drop 4 b3)
    ∙ ap (λ bs. take 4 bytes ++ (take (length name) b1 ++ bs)) (take-append-drop (length zeros) b2)
    ∙ ap (λ bs. take 4 bytes ++ bs) (take-append-drop (length name) b1)
    ∙ take-append-drop 4 bytes in
    let whole : length pieces ≡ 40 = omega (arith, length-append name zeros, length-append first (name ++ zeros), length-append (first ++ (name ++ zeros)) last) in
    let behind : rest ≡ drop (length pieces) bytes =
    drop-drop 4 (length zeros) b2 ∙ drop-drop (length zeros + 4) (length name) b1 ∙ drop-drop (length name + (length zeros + 4)) 4 bytes
    ∙ ap (λ n. drop n bytes) (let n : 4 + (length name + (length zeros + 4)) ≡ length pieces = omega arith in n) in
    ap (λ bs. with_field (with_field (with_field (with_field bs 0 first) 4 name) (4 + length name) zeros) 36 last) (sym split)
    ∙ parts_put (take 4 bytes) (take (length name) b1) (take (length zeros) b2) (take 4 b3) rest first name zeros last 4 (4 + length name) 36
    (omega (arith, length-take 4 bytes)) (omega (arith, length-take (length name) b1)) (omega (arith, length-take (length zeros) b2)) (omega (arith, length-take 4 b3)) (omega arith) refl (omega arith)
    ∙ ap (λ bs. first ++ (name ++ (zeros ++ (last ++ bs)))) behind
    ∙ (let same : first ++ (name ++ (zeros ++ (last ++ drop (length pieces) bytes))) ≡ pieces ++ drop (length pieces) bytes = simp append_assoc in same)
    ∙ sym (over_front bytes pieces (omega arith))

pub number_is : (next : Option ℕ) → unwrap_or next 4294967295 ≡ number_of next
number_is None = refl
number_is (Some place) = refl

-- The same, as a call after another wrote them.
pub record_written : (bytes one part zeros four name first last : List ℕ) → 40 ≤ length bytes → length name ≤ 31 → length first ≡ 4 → length last ≡ 4 → one ≡ with_field bytes 0 first → part ≡ name →
    zeros ≡ replicate (length (take (36 - (4 + length name)) (drop (4 + length name) (put_mid 4 (4 + length name - 4) one part)))) 0 →
    four ≡ with_field (put_mid (4 + length name) (36 - (4 + length name)) (put_mid 4 (4 + length name - 4) one part) zeros) 36 last →
    four ≡ over bytes (first ++ (name ++ replicate (32 - length name) 0) ++ last)
record_written bytes one part zeros four name first last room fits first4 last4 one_is part_is zeros_are four_is =
    let n = length name in
    let b1 = with_field bytes 0 first in
    let b2 = with_field b1 4 name in
    let two : put_mid 4 (4 + n - 4) one part ≡ b2 =
    ap (λ bs. put_mid 4 (4 + n - 4) bs part) one_is ∙ ap (put_mid 4 (4 + n - 4) b1) part_is ∙ put_field 4 (4 + n - 4) b1 name (omega arith) in
    let long : length b2 ≡ length bytes =
    length-with_field b1 4 name (omega (arith, length-with_field bytes 0 first (omega arith))) ∙ length-with_field bytes 0 first (omega arith) in
    let zeros_is : zeros ≡ replicate (32 - n) 0 =
    zeros_are ∙ ap (λ bs. replicate (length (take (36 - (4 + n)) (drop (4 + n) bs))) 0) two
    ∙ ap (λ k. replicate k 0) (let k : length (take (36 - (4 + n)) (drop (4 + n) b2)) ≡ 32 - n = omega (arith, length-take (36 - (4 + n)) (drop (4 + n) b2), length-drop (4 + n) b2) in k) in
    let z = replicate (32 - n) 0 in
    let many : length z ≡ 32 - n = length-replicate (32 - n) 0 in
    four_is
    ∙ ap (λ bs. with_field (put_mid (4 + n) (36 - (4 + n)) bs zeros) 36 last) two
    ∙ ap (λ zs. with_field (put_mid (4 + n) (36 - (4 + n)) b2 zs) 36 last) zeros_is
    ∙ ap (λ bs. with_field bs 36 last) (put_field (4 + n) (36 - (4 + n)) b2 z (omega arith))
    ∙ record_put bytes name first z last room first4 (omega arith) last4
