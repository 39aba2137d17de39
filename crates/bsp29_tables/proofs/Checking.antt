-- A loop over a list that ends at the first fault.
use Rattle.std.proofs.Common.{◌≡◌, ℕ, zero, suc, ◌+◌, ◌≤◌, ◌<◌, Bool, true, false, List, [], ◌∷◌, length, get_or, drop}
use Rattle.std.proofs.Common.{Ok, Err, refl, sym, ◌∙◌, arith}
use Rattle.std.specs.Prelude.{Some}
use Rattle.std.specs.List.{slice_get, AllByRecursion}
use Rattle.std.proofs.lemmas.List.{drop_more, drop_all}
use Rattle.std.proofs.lemmas.Option.{slice_get_within, get_or_from_slice_get}
use Rattle.base_fields.specs.Faults.{first_fault}
use Rattle.base_fields.proofs.FaultLaws.{passes, unless_ok}
use Rattle.bsp29_tables.specs.declared.fault.BspFault.{BspFault}
use Rattle.bsp29_tables.specs.Checks.{Checked, fine, none_of, ◌⨾◌, each_from}

-- the checks from i on find what all of them find
pub record IsPassed {A : Type 0} (check : ℕ → A → Checked) (xs : List A) (i : ℕ) : Type 0 where
  pub same : each_from check i (drop i xs) ≡ each_from check 0 xs

one_more : {A : Type 0} {check : ℕ → A → Checked} {xs : List A} {i : ℕ} (d : A) → IsPassed check xs i → i < length xs
    → each_from check 0 xs ≡ (check i (get_or xs i d) ⨾ each_from check (i + 1) (drop (i + 1) xs))
unfolding each_from
one_more {A} {check} {xs} {i} d so lt = sym so.same ∙ rw (drop_more xs i d lt) refl

pub passed_more : {A : Type 0} {check : ℕ → A → Checked} {xs : List A} {i : ℕ} (d : A) → IsPassed check xs i
    → i < length xs → check i (get_or xs i d) ≡ fine → IsPassed check xs (i + 1)
passed_more {A} {check} {xs} {i} d so lt is = record { same = sym (one_more d so lt ∙ rw is refl) }

pub failed_here : {A : Type 0} {check : ℕ → A → Checked} {xs : List A} {i : ℕ} (d : A) (fault : BspFault)
    → IsPassed check xs i → i < length xs → check i (get_or xs i d) ≡ Err fault → each_from check 0 xs ≡ Err fault
failed_here {A} {check} {xs} {i} d fault so lt is = one_more d so lt ∙ rw is refl

pub passed_all : {A : Type 0} {check : ℕ → A → Checked} {xs : List A} {i : ℕ} → IsPassed check xs i → length xs ≤ i
    → each_from check 0 xs ≡ fine
unfolding each_from
passed_all {A} {check} {xs} {i} so le = sym so.same ∙ rw (drop_all i xs le) refl

-- ---- what it says that no fault is found

pub all_false : (tests : List (Bool × BspFault)) → none_of tests ≡ fine → AllByRecursion (λ t. t.0 ≡ false) tests
all_false tests none = passes tests (unless_ok (first_fault tests) tt tt none).0

pub none_false : (tests : List (Bool × BspFault)) → AllByRecursion (λ t. t.0 ≡ false) tests → none_of tests ≡ fine
none_false [] all = refl
none_false ((true, fault) ∷ tests) all = absurd cc
none_false ((false, fault) ∷ tests) all = none_false tests all.1

pub both_fine : (a b : Checked) → (a ⨾ b) ≡ fine → (a ≡ fine) × (b ≡ fine)
both_fine (Ok tt) b e = (refl, e)
both_fine (Err fault) b e = absurd cc

each_fine : {A : Type 0} (check : ℕ → A → Checked) (k : ℕ) (xs : List A) (n : ℕ) (d : A)
    → each_from check k xs ≡ fine → n < length xs → check (k + n) (get_or xs n d) ≡ fine
unfolding each_from
each_fine check k [] n d e lt = absurd (omega arith)
each_fine check k (x ∷ xs) zero d e lt =
    let same : k + 0 ≡ k = omega arith in
    rw same (both_fine (check k x) (each_from check (k + 1) xs) e).0
each_fine check k (x ∷ xs) (suc n) d e lt =
    let same : k + suc n ≡ k + 1 + n = omega arith in
    rw same (each_fine check (k + 1) xs n d (both_fine (check k x) (each_from check (k + 1) xs) e).1 (omega arith))

-- the check of the element of this number
pub checked_at : {A : Type 0} (check : ℕ → A → Checked) (xs : List A) (n : ℕ) (x : A) → each_from check 0 xs ≡ fine
    → slice_get xs n ≡ Some x → check n x ≡ fine
checked_at check xs n x e at =
    let same : 0 + n ≡ n = omega arith in
    rw (same, get_or_from_slice_get xs n x x at) at (each_fine check 0 xs n x e (slice_get_within xs n x at))

all_fine_from : {A : Type 0} (check : ℕ → A → Checked) (k : ℕ) (xs : List A)
    → ((n : ℕ) (x : A) → slice_get xs n ≡ Some x → check (k + n) x ≡ fine) → each_from check k xs ≡ fine
unfolding each_from
all_fine_from check k [] each = refl
all_fine_from check k (x ∷ xs) each =
    let same : k + 0 ≡ k = omega arith in
    let here : check k x ≡ fine = rw same at (each 0 x refl) in
    let next : (n : ℕ) → k + 1 + n ≡ k + suc n = λ n. omega arith in
    let rest = all_fine_from check (k + 1) xs (λ n y at. rw (next n) (each (suc n) y at)) in
    rw (here, rest) refl

-- where each finds nothing, all find nothing
pub all_fine : {A : Type 0} (check : ℕ → A → Checked) (xs : List A)
    → ((n : ℕ) (x : A) → slice_get xs n ≡ Some x → check n x ≡ fine) → each_from check 0 xs ≡ fine
all_fine check xs each =
    let same : (n : ℕ) → 0 + n ≡ n = λ n. omega arith in
    all_fine_from check 0 xs (λ n x at. rw (same n) (each n x at))
