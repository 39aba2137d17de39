-- A file is a row of parts. How many bytes a part has, and which part comes next, hangs on the parts before it.
use Rattle.std.specs.Prelude.{◌≡◌, ℕ, zero, suc, ◌+◌, ◌<◌, ◌≤◌, ◌⊎◌, Bool, nat_lt, if◌then◌else◌}
use Rattle.std.specs.Prelude.{List, [], ◌∷◌, length, take, drop, Option, Some, None, Result, Ok, Err}
use Rattle.base_fields.specs.Faults.{first_fault}

-- A part has a length, a fault where the file ends within it, tests, and what comes after it.
pub data Plan (F A : Type 0) : Type 0 where
  Done : A → Plan F A
  Part : ℕ → F → (List ℕ → List (Bool × F)) → (List ℕ → Plan F A) → Plan F A

infixl 10 ◌>>=◌
abbrev pub ◌>>=◌ : {F A B : Type 0} → Plan F A → (A → Plan F B) → Plan F B
(Done x) >>= f = f x
(Part n short tests next) >>= f = Part n short tests (λ text. next text >>= f)

-- a result, unless there is a fault
abbrev pub guarded : {F A : Type 0} → Option F → Result A F → Result A F
guarded None read = read
guarded (Some fault) read = Err fault

-- Reading, with what is left, or the first fault.
abbrev pub run : {F A : Type 0} → Plan F A → List ℕ → Result (A × List ℕ) F
run (Done x) bytes = Ok (x, bytes)
run (Part n short tests next) bytes = if nat_lt (length bytes) n then Err short
    else guarded (first_fault (tests (take n bytes))) (run (next (take n bytes)) (drop n bytes))

-- These parts are as long as they have to be, pass their tests, and give the value.
abbrev pub Follows : {F A : Type 0} → Plan F A → List (List ℕ) → A → Type 0
Follows (Done x) [] value = x ≡ value
Follows (Done x) (text ∷ parts) value = ⊥
Follows (Part n short tests next) [] value = ⊥
Follows (Part n short tests next) (text ∷ parts) value =
    (length text ≡ n) × (first_fault (tests text) ≡ None) × Follows (next text) parts value

-- These parts pass their tests, and the bytes behind them fail as the next part, by its first test that fails.
abbrev pub FailsAt : {F A : Type 0} → Plan F A → List (List ℕ) → List ℕ → F → Type 0
FailsAt (Done x) parts rest fault = ⊥
FailsAt (Part n short tests next) [] rest fault =
    ((length rest < n) × (short ≡ fault)) ⊎ ((n ≤ length rest) × (first_fault (tests (take n rest)) ≡ Some fault))
FailsAt (Part n short tests next) (text ∷ parts) rest fault =
    (length text ≡ n) × (first_fault (tests text) ≡ None) × FailsAt (next text) parts rest fault

-- n items, one after the other, the first one in this row
unfoldable pub each : {F A : Type 0} → (ℕ → Plan F A) → ℕ → ℕ → Plan F (List A)
each item zero row = Done []
each item (suc n) row = item row >>= λ x. each item n (row + 1) >>= λ xs. Done (x ∷ xs)

-- a result with its value seen through a function
abbrev pub seen : {F A B : Type 0} → (A → B) → Result A F → Result B F
seen view (Ok x) = Ok (view x)
seen view (Err fault) = Err fault

-- what a step makes of items, one after the other
abbrev pub folded : {S A : Type 0} → (S → A → S) → S → List A → S
folded step s [] = s
folded step s (x ∷ xs) = folded step (step s x) xs

-- the same of items that are read, with what is left
abbrev pub folding : {F S A : Type 0} → (S → A → S) → S → Result (List A × List ℕ) F → Result (S × List ℕ) F
folding step s read = seen (λ a. (folded step s a.0, a.1)) read

-- a value that is read, seen through a function, with what is left
abbrev pub viewed : {F A B : Type 0} → (A → B) → Result (A × List ℕ) F → Result (B × List ℕ) F
viewed view read = seen (λ a. (view a.0, a.1)) read
