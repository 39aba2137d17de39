-- Where a list is cut at its first or last element that passes a test.
use Rattle.std.proofs.Common.{◌≡◌, ℕ, ◌-◌, ◌<◌, ◌≤◌, Bool, true, false, not, List, length, take, drop, get_or, ap, sym, arith}
use Rattle.std.specs.List.{before_first, after_last, suffix_len}
use Rattle.std.proofs.lemmas.List.Sums.{position_or_len_is, suffix_len_is}

-- the first n stand before the first that passes
pub before_first_is : (p : ℕ → Bool) (xs : List ℕ) (n : ℕ) → n ≤ length xs → ((k : ℕ) → k < n → p (get_or xs k 0) ≡ false) → (n < length xs → p (get_or xs n 0) ≡ true) → take n xs ≡ before_first p xs
before_first_is p xs n most before at = sym (ap (λ i. take i xs) (position_or_len_is p xs n 0 most before at))

-- those from n on stand after the last that passes
pub after_last_is : (p : ℕ → Bool) (xs : List ℕ) (n : ℕ) → n ≤ length xs → ((k : ℕ) → n ≤ k → k < length xs → p (get_or xs k 0) ≡ false) → (0 < n → p (get_or xs (n - 1) 0) ≡ true) → drop n xs ≡ after_last p xs
after_last_is p xs n most after at =
    let len : suffix_len (λ x. not (p x)) xs ≡ length xs - n =
    suffix_len_is (λ x. not (p x)) xs n 0 most (λ k low high. ap not (after k low high)) (λ some. ap not (at some)) in
    let cut : n ≡ length xs - suffix_len (λ x. not (p x)) xs = omega (arith, len) in
    ap (λ i. drop i xs) cut
