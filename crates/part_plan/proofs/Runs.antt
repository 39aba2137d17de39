-- Runs of plans.
use Rattle.std.proofs.Common.{◌≡◌, ℕ, ◌⊎◌, Bool, true, false, cond, ltb, List, [], ◌∷◌, ◌++◌, length, take, drop, Option, Some, None, Result, Ok, Err, refl, sym, ap, ◌∙◌, append_assoc, arith, inl, inr}
use Rattle.std.specs.List.{concat}
use Rattle.std.proofs.lemmas.Bool.{ltb-true, ltb-false, lt-ltb, le-ltb}
use Rattle.std.proofs.lemmas.List.{take_at, drop_at, take-append-drop, length-append, length-take}
use Rattle.base_fields.specs.Faults.{first_fault}
use Rattle.part_plan.specs.Plan.{Plan, Done, Part, ◌>>=◌, guarded, run, Follows, FailsAt}

-- what comes after a read
infixl 10 ◌>>>◌
abbrev pub ◌>>>◌ : {F A B : Type 0} → Result (A × List ℕ) F → (A → Plan F B) → Result (B × List ℕ) F
(Ok x) >>> f = run (f x.0) x.1
(Err e) >>> f = Err e

guarded_then : {F A B : Type 0} (fault : Option F) (read : Result (A × List ℕ) F) (f : A → Plan F B) → guarded fault (read >>> f) ≡ (guarded fault read >>> f)
guarded_then None read f = refl
guarded_then (Some e) read f = refl

cond_then : {F A B : Type 0} (b : Bool) (e : F) (read : Result (A × List ℕ) F) (f : A → Plan F B) → cond b (Err e) (read >>> f) ≡ (cond b (Err e) read >>> f)
cond_then true e read f = refl
cond_then false e read f = refl

-- One plan after another is read one after the other.
pub run-bind : {F A B : Type 0} (plan : Plan F A) (f : A → Plan F B) (bytes : List ℕ) → run (plan >>= f) bytes ≡ (run plan bytes >>> f)
run-bind (Done x) f bytes = refl
run-bind (Part n short tests next) f bytes =
    let one : run (next (take n bytes) >>= f) (drop n bytes) ≡ (run (next (take n bytes)) (drop n bytes) >>> f) = run-bind (next (take n bytes)) f (drop n bytes) in
    rw one (ap (λ r. cond (ltb (length bytes) n) (Err short) r) (guarded_then (first_fault (tests (take n bytes))) _ f) ∙ cond_then (ltb (length bytes) n) short _ f)

abbrev pub done : {F A : Type 0} → A → Result A F
done x = Ok x

abbrev failed : {F A : Type 0} → F → Result A F
failed f = Err f

pub ok_is : {F A : Type 0} (x y : A) → done {F = F} x ≡ done y → x ≡ y
ok_is x y e = cc

err_is : {F A : Type 0} (f g : F) → failed {A = A} f ≡ failed g → f ≡ g
err_is f g e = cc

apart : {F A : Type 0} (f : F) (x : A) → failed f ≡ done x → ⊥
apart f x e = cc

-- what was read before what comes after it
pub ok_then : {F A B : Type 0} (read : Result (A × List ℕ) F) (f : A → Plan F B) (y : B × List ℕ) → (read >>> f) ≡ Ok y → (x : A × List ℕ) × (read ≡ Ok x) × (run (f x.0) x.1 ≡ Ok y)
ok_then (Ok x) f y e = (x, refl, e)
ok_then (Err g) f y e = absurd cc

-- which way a part went
chosen : {A : Type 0} (b : Bool) (x y z : A) → cond b x y ≡ z → ((b ≡ true) × (x ≡ z)) ⊎ ((b ≡ false) × (y ≡ z))
chosen true x y z e = inl (refl, e)
chosen false x y z e = inr (refl, e)

passed : {F A : Type 0} (fault : Option F) (read : Result A F) (x : A) → guarded fault read ≡ Ok x → (fault ≡ None) × (read ≡ Ok x)
passed None read x e = (refl, e)
passed (Some f) read x e = absurd cc

refused : {F A : Type 0} (fault : Option F) (read : Result A F) (f : F) → guarded fault read ≡ Err f → (fault ≡ Some f) ⊎ ((fault ≡ None) × (read ≡ Err f))
refused None read f e = inr (refl, e)
refused (Some g) read f e = inl cc

-- What is read is spelled by parts that pass.
pub run_found : {F A : Type 0} (plan : Plan F A) (bytes rest : List ℕ) (value : A) → run plan bytes ≡ Ok (value, rest)
    → (parts : List (List ℕ)) × (bytes ≡ concat parts ++ rest) × Follows plan parts value
run_found {F = F} (Done x) bytes rest value e =
    let is = ok_is {F = F} (x, bytes) (value, rest) e in
    ([], ap (λ p. p.1) is, ap (λ p. p.0) is)
run_found (Part n short tests next) bytes rest value e =
    elim (chosen (ltb (length bytes) n) (Err short) (guarded (first_fault (tests (take n bytes))) (run (next (take n bytes)) (drop n bytes))) (Ok (value, rest)) e) [
      | inl a ↦ absurd (apart short (value, rest) a.1)
      | inr b ↦
          let p = passed _ _ _ b.1 in
          let r = run_found (next (take n bytes)) (drop n bytes) rest value p.1 in
          let len : length (take n bytes) ≡ n = omega (arith, length-take n bytes, ltb-false _ _ b.0) in
          (take n bytes ∷ r.0, sym (take-append-drop n bytes) ∙ ap (λ (t : List ℕ). take n bytes ++ t) r.1 ∙ sym (append_assoc (take n bytes) (concat r.0) rest), (len, p.0, r.2))
    ]

-- What is spelled by parts that pass is read, whatever follows.
pub run_again : {F A : Type 0} (plan : Plan F A) (parts : List (List ℕ)) (rest : List ℕ) (value : A) → Follows plan parts value → run plan (concat parts ++ rest) ≡ Ok (value, rest)
run_again (Done x) [] rest value h = ap (λ y. Ok (y, rest)) h
run_again (Done x) (text ∷ parts) rest value h = absurd h
run_again (Part n short tests next) [] rest value h = absurd h
run_again (Part n short tests next) (text ∷ parts) rest value h =
    let whole : (text ++ concat parts) ++ rest ≡ text ++ (concat parts ++ rest) = append_assoc text (concat parts) rest in
    let long : ltb (length (text ++ (concat parts ++ rest))) n ≡ false = le-ltb _ _ (omega (arith, h.0, length-append text (concat parts ++ rest))) in
    rw (whole, long, take_at text (concat parts ++ rest) n h.0, drop_at text (concat parts ++ rest) n h.0, h.1) (run_again (next text) parts rest value h.2)

-- A fault is that of the first part that fails.
pub run_fault : {F A : Type 0} (plan : Plan F A) (bytes : List ℕ) (fault : F) → run plan bytes ≡ Err fault
    → (parts : List (List ℕ)) × (rest : List ℕ) × (bytes ≡ concat parts ++ rest) × FailsAt plan parts rest fault
run_fault (Done x) bytes fault e = absurd cc
run_fault {A = A} (Part n short tests next) bytes fault e =
    elim (chosen (ltb (length bytes) n) (Err short) (guarded (first_fault (tests (take n bytes))) (run (next (take n bytes)) (drop n bytes))) (Err fault) e) [
      | inl a ↦ ([], bytes, refl, inl (ltb-true _ _ a.0, err_is {A = A × List ℕ} short fault a.1))
      | inr b ↦
          elim (refused _ _ _ b.1) [
            | inl here ↦ ([], bytes, refl, inr (ltb-false _ _ b.0, here))
            | inr on ↦
                let r = run_fault (next (take n bytes)) (drop n bytes) fault on.1 in
                let len : length (take n bytes) ≡ n = omega (arith, length-take n bytes, ltb-false _ _ b.0) in
                (take n bytes ∷ r.0, r.1, sym (take-append-drop n bytes) ∙ ap (λ (t : List ℕ). take n bytes ++ t) r.2 ∙ sym (append_assoc (take n bytes) (concat r.0) r.1), (len, on.0, r.3))
          ]
    ]

-- Parts that pass before one that fails are answered by its fault.
pub run_fault_again : {F A : Type 0} (plan : Plan F A) (parts : List (List ℕ)) (rest : List ℕ) (fault : F) → FailsAt plan parts rest fault → run plan (concat parts ++ rest) ≡ Err fault
run_fault_again (Done x) parts rest fault h = absurd h
run_fault_again (Part n short tests next) [] rest fault h =
    elim h [
      | inl a ↦ rw (lt-ltb _ _ a.0) (ap (λ f. Err f) a.1)
      | inr b ↦ rw (le-ltb _ _ b.0, b.1) refl
    ]
run_fault_again (Part n short tests next) (text ∷ parts) rest fault h =
    let whole : (text ++ concat parts) ++ rest ≡ text ++ (concat parts ++ rest) = append_assoc text (concat parts) rest in
    let long : ltb (length (text ++ (concat parts ++ rest))) n ≡ false = le-ltb _ _ (omega (arith, h.0, length-append text (concat parts ++ rest))) in
    rw (whole, long, take_at text (concat parts ++ rest) n h.0, drop_at text (concat parts ++ rest) n h.0, h.1) (run_fault_again (next text) parts rest fault h.2)
