-- A user comes to the front, and those before it move one back.
use Rattle.std.proofs.Common.{◌≡◌, ◌≢◌, ℕ, ◌+◌, ◌<◌, ◌≤◌, List, [], ◌∷◌, ◌++◌, take, drop, set, get_or, length, refl, ap, ◌∙◌, sym, arith, append_assoc, inl, inr}
use Rattle.std.proofs.lemmas.Bool.{eq-eqb, ne_eqb}
use Rattle.std.proofs.lemmas.Bool.Decides.{eqb_tells}
use Rattle.std.proofs.lemmas.List.{drop_more, take_more_set, drop-set-lt, take-append-drop, drop_all, take_all, append-nil}
use Rattle.mem_model.specs.Cache.{without_user}
use Rattle.mem_model.specs.Laid.{count_in}
use Rattle.mem_model.specs.Turns.{shifted}

-- what has been shifted, and what is left
pub IsShifting : List ℕ → ℕ → ℕ → List ℕ → ℕ → Type 0
IsShifting now carried user old i = take i now ++ shifted carried user (drop i now) ≡ shifted user user old

shifted-on : (carried user here : ℕ) (rest : List ℕ) → here ≢ user → shifted carried user (here ∷ rest) ≡ carried ∷ shifted here user rest
shifted-on carried user here rest h = rw (ne_eqb here user h)

shifted-here : (carried user here : ℕ) (rest : List ℕ) → here ≡ user → shifted carried user (here ∷ rest) ≡ carried ∷ rest
shifted-here carried user here rest h = rw (eq-eqb here user h)

pub shifting_first : (now : List ℕ) (user : ℕ) → IsShifting now user user now 0
unfolding IsShifting
shifting_first now user = refl

pub shifting_more : (now : List ℕ) (carried user here i : ℕ) (old : List ℕ) → i < length now → here ≡ get_or now i here → here ≢ user → IsShifting now carried user old i → IsShifting (set now i carried) here user old (i + 1)
unfolding IsShifting
shifting_more now carried user here i old inside e h s =
    ap (λ front. front ++ shifted here user (drop (i + 1) (set now i carried))) (take_more_set now i carried inside)
    ∙ ap (λ rest. (take i now ++ carried ∷ []) ++ shifted here user rest) (drop-set-lt (i + 1) now i carried (omega arith))
    ∙ append_assoc (take i now) (carried ∷ []) (shifted here user (drop (i + 1) now))
    ∙ ap (λ ys. take i now ++ ys) (sym (shifted-on carried user here (drop (i + 1) now) h))
    ∙ ap (λ ys. take i now ++ shifted carried user ys) (ap (λ x. x ∷ drop (i + 1) now) e ∙ sym (drop_more now i here inside))
    ∙ s

pub shifting_here : (now : List ℕ) (carried user here i : ℕ) (old : List ℕ) → i < length now → here ≡ get_or now i here → here ≡ user → IsShifting now carried user old i → set now i carried ≡ shifted user user old
unfolding IsShifting
shifting_here now carried user here i old inside e h s =
    sym (take-append-drop (i + 1) (set now i carried))
    ∙ ap (λ front. front ++ drop (i + 1) (set now i carried)) (take_more_set now i carried inside)
    ∙ ap (λ rest. (take i now ++ carried ∷ []) ++ rest) (drop-set-lt (i + 1) now i carried (omega arith))
    ∙ append_assoc (take i now) (carried ∷ []) (drop (i + 1) now)
    ∙ ap (λ ys. take i now ++ ys) (sym (shifted-here carried user here (drop (i + 1) now) h))
    ∙ ap (λ ys. take i now ++ shifted carried user ys) (ap (λ x. x ∷ drop (i + 1) now) e ∙ sym (drop_more now i here inside))
    ∙ s

pub shifting_end : (now : List ℕ) (carried user i : ℕ) (old : List ℕ) → length now ≤ i → IsShifting now carried user old i → now ≡ shifted user user old
unfolding IsShifting
shifting_end now carried user i old h s =
    sym (append-nil now) ∙ ap (λ front. front ++ []) (sym (take_all i now h)) ∙ ap (λ rest. take i now ++ shifted carried user rest) (sym (drop_all i now h)) ∙ s

-- a list without the user stays
without-none : (user : ℕ) (xs : List ℕ) → count_in user xs ≡ 0 → without_user xs user ≡ xs
without-none user [] h = refl
without-none user (x ∷ xs) h =
    elim (eqb_tells x user) [
      | inl at ↦ absurd (omega (arith, rw at.0 at h))
      | inr off ↦ rw off.0 (let rest : count_in user xs ≡ 0 = omega (arith, rw off.0 at h) in ap (λ ys. x ∷ ys) (without-none user xs rest))
    ]

-- It is the user, and the list without it.
pub shifted_is : (carried user : ℕ) (xs : List ℕ) → count_in user xs ≡ 1 → shifted carried user xs ≡ carried ∷ without_user xs user
shifted_is carried user [] h = absurd (omega arith)
shifted_is carried user (x ∷ xs) h =
    elim (eqb_tells x user) [
      | inl at ↦ rw at.0 (let none : 1 + count_in user xs ≡ 1 = rw at.0 at h in ap (λ ys. carried ∷ ys) (sym (without-none user xs (omega (arith, none)))))
      | inr off ↦ rw off.0 (let rest : count_in user xs ≡ 1 = omega (arith, rw off.0 at h) in ap (λ ys. carried ∷ ys) (shifted_is x user xs rest))
    ]
