-- Fronts of lists that grow.
use Rattle.std.proofs.Common.{◌≡◌, ℕ, ◌+◌, ◌-◌, ◌≤◌, List, ◌++◌, length, take, drop, sym, ap, ◌∙◌, subst, refl, arith, length-take-le}
use Rattle.std.proofs.lemmas.Slice.{take-put_mid}
use Rattle.std.proofs.Math.Seq.{take-add, take-append-add}
use borrow.Rule.Slice.PartMut.{put_mid}
use Rattle.std.proofs.lemmas.List.{take-take, take_rest}

-- the front of a list in whose middle ys was put
pub take_past : (a n k : ℕ) (xs ys : List ℕ) → a ≤ length xs → n ≤ length ys → take (a + n) (put_mid a k xs ys) ≡ take a xs ++ take n ys
take_past a n k xs ys within fits =
    let long : length (take a xs) ≡ a = length-take-le a xs within in
    let cut : take (a + length ys) (put_mid a k xs ys) ≡ take a xs ++ ys = take-put_mid a k xs ys (a + length ys) refl within in
    sym (take-take (a + n) (a + length ys) (put_mid a k xs ys) (omega (arith, fits)))
    ∙ ap (take (a + n)) cut
    ∙ subst (λ m. take (m + n) (take a xs ++ ys) ≡ take a xs ++ take n ys) long (take-append-add (take a xs) ys n)

-- the front of a list, and a front of what is left
pub take_more : (a n : ℕ) (xs : List ℕ) → take a xs ++ take n (take (length xs - a) (drop a xs)) ≡ take (a + n) xs
take_more a n xs = ap (λ l. take a xs ++ take n l) (take_rest xs a) ∙ sym (take-add a n xs)
