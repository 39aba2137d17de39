-- The first bytes of what is expanded, a part at a time.
use Rattle.std.proofs.Common.{◌≡◌, ◌≢◌, ℕ, zero, suc, ◌+◌, ◌-◌, ◌≤◌, ◌<◌, min, List, [], ◌∷◌, ◌++◌, length, get_or}
use Rattle.std.proofs.Common.{take, drop, replicate, Result, Ok, Err, refl, sym, ap, ◌∙◌, append_assoc, arith, inl}
use Rattle.std.proofs.Common.{inr}
use Rattle.std.proofs.lemmas.List.{take-replicate, length-replicate, drop_more, drop_all, append-nil, take_all}
use Rattle.std.proofs.lemmas.Bool.{cases_lt}
use Rattle.std.proofs.lemmas.Bool.Decides.{nat_tests}
use Rattle.vis_rows.specs.declared.VisError.{VisError}
use Rattle.vis_rows.specs.declared.VisError.TheVariants.{Truncated}
use Rattle.vis_rows.specs.Rows.{expand, first}

-- bytes before the first ones of a rest
abbrev pub prefixed : List ℕ → Result (List ℕ) VisError → Result (List ℕ) VisError
prefixed xs (Ok ys) = Ok (xs ++ ys)
prefixed xs (Err e) = Err e

prefixed-prefixed : (xs ys : List ℕ) (r : Result (List ℕ) VisError) → prefixed xs (prefixed ys r) ≡ prefixed (xs ++ ys) r
prefixed-prefixed xs ys (Ok zs) = ap (λ (l : List ℕ). Ok l) (sym (append_assoc xs ys zs))
prefixed-prefixed xs ys (Err e) = refl

prefixed-nil : (r : Result (List ℕ) VisError) → prefixed [] r ≡ r
prefixed-nil (Ok zs) = refl
prefixed-nil (Err e) = refl

first-cons : (w x : ℕ) (e : List ℕ) → first (suc w) (x ∷ e) ≡ prefixed (x ∷ []) (first w e)
unfolding first
first-cons w x e = grind (arith, nat_tests)

first-zero : (e : List ℕ) → first 0 e ≡ Ok []
unfolding first
first-zero e = grind (arith, nat_tests)

pub first-nil : (w : ℕ) → 0 < w → first w [] ≡ Err Truncated
unfolding first
first-nil w h = grind (arith, nat_tests)

first-append : (w : ℕ) (xs e : List ℕ) → first w (xs ++ e) ≡ prefixed (take w xs) (first (w - length xs) e)
first-append zero xs e =
    let none : 0 - length xs ≡ 0 = omega arith in
    rw (none, first-zero e, first-zero (xs ++ e)) refl
first-append (suc w) [] e =
    let all : suc w - 0 ≡ suc w = omega arith in
    rw all (sym (prefixed-nil (first (suc w) e)))
first-append (suc w) (x ∷ xs) e =
    let rest : suc w - suc (length xs) ≡ w - length xs = omega arith in
    rw rest (first-cons w x (xs ++ e) ∙ ap (prefixed (x ∷ [])) (first-append w xs e)
    ∙ prefixed-prefixed (x ∷ []) (take w xs) (first (w - length xs) e))

-- ---- what stands at a place

expand-cons : (x : ℕ) (rest : List ℕ) → x ≢ 0 → expand (x ∷ rest) ≡ (x ∷ []) ++ expand rest
unfolding expand
expand-cons zero rest ne = absurd (ne refl)
expand-cons (suc x) rest ne = refl

expand-byte : (bytes : List ℕ) (at : ℕ) → at < length bytes → get_or bytes at 0 ≢ 0
    → expand (drop at bytes) ≡ (get_or bytes at 0 ∷ []) ++ expand (drop (at + 1) bytes)
expand-byte bytes at lt ne = rw (drop_more bytes at 0 lt) (expand-cons (get_or bytes at 0) (drop (at + 1) bytes) ne)

expand-zeros : (bytes : List ℕ) (at : ℕ) → at + 1 < length bytes → get_or bytes at 0 ≡ 0
    → expand (drop at bytes) ≡ replicate (get_or bytes (at + 1) 0) 0 ++ expand (drop (at + 1 + 1) bytes)
unfolding expand
expand-zeros bytes at lt is =
    let here : drop at bytes ≡ 0 ∷ get_or bytes (at + 1) 0 ∷ drop (at + 1 + 1) bytes =
    drop_more bytes at 0 (omega arith) ∙ rw (is, drop_more bytes (at + 1) 0 lt) refl in
    rw here refl

expand-none : (bytes : List ℕ) → expand (drop (length bytes) bytes) ≡ []
unfolding expand
expand-none bytes = rw (drop_all (length bytes) bytes (omega arith)) refl

expand-last : (bytes : List ℕ) (at : ℕ) → at + 1 ≡ length bytes → get_or bytes at 0 ≡ 0 → expand (drop at bytes) ≡ []
unfolding expand
expand-last bytes at lt is =
    let here : drop at bytes ≡ 0 ∷ [] =
    drop_more bytes at 0 (omega arith) ∙ rw (is, drop_all (at + 1) bytes (omega arith)) refl in
    rw here refl

-- ---- a loop that has done some of w bytes, and has read up to a place

pub record IsReached (w : ℕ) (bytes out : List ℕ) (at done : ℕ) : Type 0 where
  pub read : at ≤ length bytes
  pub within : done ≤ w
  pub so_far : first w (expand bytes) ≡ prefixed (take done out) (first (w - done) (expand (drop at bytes)))

pub reached_start : (w : ℕ) (bytes out : List ℕ) → IsReached w bytes out 0 0
reached_start w bytes out =
    let all : w - 0 ≡ w = omega arith in
    record { read = omega arith; within = omega arith; so_far = rw all (sym (prefixed-nil (first w (expand bytes)))) }

goes_on : {w : ℕ} {bytes old : List ℕ} {at done : ℕ} (new part : List ℕ) (next more : ℕ) → IsReached w bytes old at done
    → next ≤ length bytes → done + more ≤ w → expand (drop at bytes) ≡ part ++ expand (drop next bytes)
    → w - done - length part ≡ w - (done + more) → take (done + more) new ≡ take done old ++ take (w - done) part
    → IsReached w bytes new next (done + more)
goes_on {w} {bytes} {old} {at} {done} new part next more so inside fits splits left wrote =
    record {
      read = inside;
      within = fits;
      so_far =
          so.so_far ∙ ap (λ (e : List ℕ). prefixed (take done old) (first (w - done) e)) splits
          ∙ ap (prefixed (take done old)) (first-append (w - done) part (expand (drop next bytes)))
          ∙ prefixed-prefixed (take done old) (take (w - done) part)
          (first (w - done - length part) (expand (drop next bytes)))
          ∙ rw (left, wrote) refl;
    }

pub reached_byte : {w : ℕ} {bytes old : List ℕ} {at done : ℕ} (new : List ℕ) → IsReached w bytes old at done
    → at < length bytes → done < w → get_or bytes at 0 ≢ 0
    → take (done + 1) new ≡ take done old ++ get_or bytes at 0 ∷ [] → IsReached w bytes new (at + 1) (done + 1)
reached_byte {w} {bytes} {old} {at} {done} new so lt fits ne wrote =
    let byte = get_or bytes at 0 in
    let all : take (w - done) (byte ∷ []) ≡ byte ∷ [] = take_all (w - done) (byte ∷ []) (omega arith) in
    goes_on new (byte ∷ []) (at + 1) 1 so (omega arith) (omega arith) (expand-byte bytes at lt ne) (omega arith)
    (rw all wrote)

take-zeros : (k m n : ℕ) → n ≡ min m k → take k (replicate m 0) ≡ replicate {A = ℕ} n 0
take-zeros k m n least =
    elim (cases_lt k m) [
      | inl lt ↦ let same : n ≡ k = omega arith in rw same (take-replicate k m 0 (omega arith))
      | inr le ↦
          let same : n ≡ m = omega arith in
          rw same (take_all k (replicate m 0) (omega (arith, length-replicate {A = ℕ} m 0)))
    ]

pub reached_zeros : {w : ℕ} {bytes old : List ℕ} {at done : ℕ} (new : List ℕ) (n : ℕ) → IsReached w bytes old at done
    → at + 1 < length bytes → done < w → get_or bytes at 0 ≡ 0 → n ≡ min (get_or bytes (at + 1) 0) (w - done)
    → take (done + n) new ≡ take done old ++ replicate n 0 → IsReached w bytes new (at + 1 + 1) (done + n)
reached_zeros {w} {bytes} {old} {at} {done} new n so lt fits is least wrote =
    let zeros : List ℕ = replicate (get_or bytes (at + 1) 0) 0 in
    let read : at + 1 + 1 ≤ length bytes = omega arith in
    let within : done + n ≤ w = omega arith in
    let cut : take (w - done) zeros ≡ replicate n 0 =
    take-zeros (w - done) (get_or bytes (at + 1) 0) n least in
    let len : length zeros ≡ get_or bytes (at + 1) 0 =
    length-replicate {A = ℕ} (get_or bytes (at + 1) 0) 0 in
    let left : w - done - length zeros ≡ w - (done + n) = omega arith in
    goes_on new zeros (at + 1 + 1) n so read within (expand-zeros bytes at lt is) left (rw cut wrote)

pub reached_all : {bytes out : List ℕ} {at done : ℕ} → IsReached (length out) bytes out at done
    → length out ≤ done → first (length out) (expand bytes) ≡ Ok out
reached_all {bytes} {out} {at} {done} so enough =
    let none : length out - done ≡ 0 = omega arith in
    so.so_far ∙ rw (none, first-zero (expand (drop at bytes)), take_all done out enough, append-nil out) refl

pub reached_end : {w : ℕ} {bytes out : List ℕ} {at done : ℕ} → IsReached w bytes out at done → done < w
    → at ≡ length bytes → first w (expand bytes) ≡ Err Truncated
reached_end {w} {bytes} {out} {at} {done} so fits e =
    so.so_far ∙ rw (e, expand-none bytes, first-nil (w - done) (omega arith)) refl

pub reached_last : {w : ℕ} {bytes out : List ℕ} {at done : ℕ} → IsReached w bytes out at done → done < w
    → at + 1 ≡ length bytes → get_or bytes at 0 ≡ 0 → first w (expand bytes) ≡ Err Truncated
reached_last {w} {bytes} {out} {at} {done} so fits e is =
    so.so_far ∙ rw (expand-last bytes at e is, first-nil (w - done) (omega arith)) refl
