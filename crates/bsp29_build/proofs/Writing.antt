-- Bytes that are written part by part, one behind the other.
use Rattle.std.proofs.Common.{◌≡◌, ℕ, ◌+◌, ◌≤◌, ◌<◌, List, [], ◌++◌, length, get_or, take, drop}
use Rattle.std.proofs.Common.{refl, sym, ap, ◌∙◌}
use Rattle.std.specs.List.{flat_map}
use Rattle.std.proofs.lemmas.List.{append_assoc, append-nil, drop_all, drop_more, take_all}
use borrow.Rule.Slice.PartMut.{put_mid}
use Rattle.std.proofs.lemmas.Slice.{take-put_mid}

-- what is written up to `at`, and what is left to be written
abbrev pub with_left : (out : List ℕ) → (at : ℕ) → (left : List ℕ) → List ℕ
with_left out at left = take at out ++ left

pub part_written : (out part left : List ℕ) (at k next : ℕ) → next ≡ at + length part → at ≤ length out
    → with_left (put_mid at k out part) next left ≡ with_left out at (part ++ left)
part_written out part left at k next is room =
    ap (λ (l : List ℕ). l ++ left) (take-put_mid at k out part next is room) ∙ append_assoc (take at out) part left

pub none_left : (out : List ℕ) (at : ℕ) → length out ≤ at → with_left out at [] ≡ out
none_left out at all = append-nil (take at out) ∙ take_all at out all

-- ---- a part for each element of a list

pub more_written : {A : Type 0} (f : A → List ℕ) (xs : List A) (d : A) (out part whole : List ℕ) (n at k next : ℕ)
    → n < length xs → with_left out at (flat_map f (drop n xs)) ≡ whole → part ≡ f (get_or xs n d)
    → next ≡ at + length part → at ≤ length out
    → with_left (put_mid at k out part) next (flat_map f (drop (n + 1) xs)) ≡ whole
more_written {A} f xs d out part whole n at k next lt so is long room =
    let left : flat_map f (drop n xs) ≡ part ++ flat_map f (drop (n + 1) xs) = rw (drop_more xs n d lt, is) refl in
    part_written out part (flat_map f (drop (n + 1) xs)) at k next long room
    ∙ ap (with_left out at) (sym left)
    ∙ so

pub all_written : {A : Type 0} (f : A → List ℕ) (xs : List A) (out whole : List ℕ) (n at : ℕ) → length xs ≤ n
    → length out ≤ at → with_left out at (flat_map f (drop n xs)) ≡ whole → out ≡ whole
all_written {A} f xs out whole n at all enough so =
    let none : flat_map f (drop n xs) ≡ [] = rw (drop_all n xs all) refl in
    sym (none_left out at enough) ∙ ap (with_left out at) (sym none) ∙ so
