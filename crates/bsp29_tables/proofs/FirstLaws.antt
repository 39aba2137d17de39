-- The fault of a list of checks is that of the first element that has one.
use Rattle.std.proofs.Common.{◌≡◌, ℕ, zero, suc, ◌+◌, ◌<◌, ◌⊎◌, inl, inr, List, [], ◌∷◌, Some, Err, Ok, refl, arith}
use Rattle.std.specs.Prelude.{slice_get}
use Rattle.bsp29_tables.specs.declared.fault.BspFault.{BspFault}
use Rattle.bsp29_tables.specs.Checks.{Checked, fine, ◌⨾◌, each_from}
use Rattle.bsp29_tables.specs.First.{IsFirst}

-- the same, where the first element has the number k
record IsFirstFrom {A : Type 0} (check : ℕ → A → Checked) (k : ℕ) (xs : List A) (fault : BspFault) : Type 0 where
  number : ℕ
  element : A
  stands : slice_get xs number ≡ Some element
  fails : check (k + number) element ≡ Err fault
  before : (n : ℕ) (x : A) → n < number → slice_get xs n ≡ Some x → check (k + n) x ≡ fine

either : (a b : Checked) (fault : BspFault) → (a ⨾ b) ≡ Err fault
    → (a ≡ Err fault) ⊎ ((a ≡ fine) × (b ≡ Err fault))
either (Ok tt) b fault e = inr (refl, e)
either (Err other) b fault e = inl e

earlier : {A : Type 0} (check : ℕ → A → Checked) (k : ℕ) (first : A) (xs : List A) (number : ℕ) → check k first ≡ fine
    → ((n : ℕ) (x : A) → n < number → slice_get xs n ≡ Some x → check (k + 1 + n) x ≡ fine)
    → (n : ℕ) (x : A) → n < suc number → slice_get (first ∷ xs) n ≡ Some x → check (k + n) x ≡ fine
earlier check k first xs number here rest zero x lt at =
    let same : k + 0 ≡ k = omega arith in
    let is : first ≡ x = cc in
    rw (same, ← is) here
earlier check k first xs number here rest (suc n) x lt at =
    let same : k + suc n ≡ k + 1 + n = omega arith in
    rw same (rest n x (omega arith) at)

first_from : {A : Type 0} (check : ℕ → A → Checked) (k : ℕ) (xs : List A) (fault : BspFault)
    → each_from check k xs ≡ Err fault → IsFirstFrom check k xs fault
unfolding each_from
first_from check k [] fault e = absurd cc
first_from {A} check k (x ∷ xs) fault e =
    elim (either (check k x) (each_from check (k + 1) xs) fault e) [
      | inl here ↦ record {
        number = 0;
        element = x;
        stands = refl;
        fails = let same : k + 0 ≡ k = omega arith in rw same here;
        before = λ n y lt at. absurd (omega arith);
      }
      | inr later ↦
          let rest = first_from check (k + 1) xs fault later.1 in
          record {
            number = suc rest.number;
            element = rest.element;
            stands = rest.stands;
            fails = let same : k + suc rest.number ≡ k + 1 + rest.number = omega arith in rw same rest.fails;
            before = earlier check k x xs rest.number later.0 rest.before;
          }
    ]

pub first_is : {A : Type 0} (check : ℕ → A → Checked) (xs : List A) (fault : BspFault)
    → each_from check 0 xs ≡ Err fault → IsFirst check xs fault
first_is {A} check xs fault e =
    let found = first_from check 0 xs fault e in
    let same : (n : ℕ) → 0 + n ≡ n = λ n. omega arith in
    record {
      number = found.number;
      element = found.element;
      stands = found.stands;
      fails = rw (same found.number) at found.fails;
      before = λ n x lt at. rw (same n) at (found.before n x lt at);
    }
