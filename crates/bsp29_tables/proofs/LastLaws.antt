-- The last number of a range that passes two tests.
use Rattle.std.proofs.Common.{◌≡◌, ℕ, zero, suc, ◌+◌, ◌≤◌, ◌<◌, inl, inr, Bool, true, false, cond, List, [], ◌∷◌}
use Rattle.std.proofs.Common.{Option, Some, filter, length, drop, refl, ap, ◌∙◌, arith}
use Rattle.std.specs.List.{range_with_len, last_or, Contains, refill}
use Rattle.std.proofs.lemmas.List.{append-nil, drop_all, take_all}
use Rattle.std.proofs.lemmas.Bool.Decides.{eqb_tells}

module _ (p q : ℕ → Bool) where
  pass_over : (b : Bool) (a : ℕ) (xs : List ℕ) → (b ≡ true → p a ≡ false) → filter p (cond b (a ∷ xs) xs) ≡ filter p xs
  pass_over true a xs fails = rw (fails refl) refl
  pass_over false a xs fails = refl

  pub last_none : (o : Option ℕ) (a n : ℕ) → ((k : ℕ) → a ≤ k → k < a + n → q k ≡ true → p k ≡ false)
      → last_or o (filter p (filter q (range_with_len a n))) ≡ o
  last_none o a zero none = refl
  last_none o a (suc n) none =
      ap (last_or o) (pass_over (q a) a (filter q (range_with_len (a + 1) n)) (none a (omega arith) (omega arith)))
      ∙ last_none o (a + 1) n (λ k from below. none k (omega arith) (omega arith))

  reach : (b c : Bool) (a t : ℕ) (xs : List ℕ) → ((o : Option ℕ) → last_or o (filter p xs) ≡ Some t) → p a ≡ c
      → (o : Option ℕ) → last_or o (filter p (cond b (a ∷ xs) xs)) ≡ Some t
  reach false c a t xs rest is o = rest o
  reach true true a t xs rest is o = rw is (rest (Some a))
  reach true false a t xs rest is o = rw is (rest o)

  pub last_some : (a n t : ℕ) → a ≤ t → t < a + n → q t ≡ true → p t ≡ true
      → ((k : ℕ) → t < k → k < a + n → q k ≡ true → p k ≡ false)
      → (o : Option ℕ) → last_or o (filter p (filter q (range_with_len a n))) ≡ Some t
  last_some a zero t from below is_q is_p later o = absurd (omega arith)
  last_some a (suc n) t from below is_q is_p later o =
      elim (eqb_tells a t) [
        | inl same ↦
            let here_q : q a ≡ true = rw same.1 is_q in
            let here_p : p a ≡ true = rw same.1 is_p in
            let found : filter p (filter q (range_with_len a (suc n)))
            ≡ a ∷ filter p (filter q (range_with_len (a + 1) n)) = rw (here_q, here_p) refl in
            ap (last_or o) found
            ∙ last_none (Some a) (a + 1) n (λ k after under. later k (omega (arith, same.1)) (omega arith))
            ∙ ap Some same.1
        | inr other ↦
            reach (q a) (p a) a t (filter q (range_with_len (a + 1) n))
            (last_some (a + 1) n t (omega (arith, other.1)) (omega arith) is_q is_p
            (λ k after under. later k after (omega arith)))
            refl o
      ]

-- ---- what a test keeps

module _ (p : ℕ → Bool) where
  found_next : (b : Bool) (a t : ℕ) (xs : List ℕ) → Contains xs t → Contains (cond b (a ∷ xs) xs) t
  found_next false a t xs has = has
  found_next true a t xs has = (suc has.0, omega (arith, has.1), has.2)

  pub kept : (a n t : ℕ) → a ≤ t → t < a + n → p t ≡ true → Contains (filter p (range_with_len a n)) t
  kept a zero t from below is = absurd (omega arith)
  kept a (suc n) t from below is =
      elim (eqb_tells a t) [
        | inl same ↦
            let here : p a ≡ true = rw same.1 is in
            let whole : filter p (range_with_len a (suc n)) ≡ a ∷ filter p (range_with_len (a + 1) n) = rw here refl in
            rw whole (0, omega arith, same.1)
        | inr other ↦
            found_next (p a) a t (filter p (range_with_len (a + 1) n))
            (kept (a + 1) n t (omega (arith, other.1)) (omega arith) is)
      ]

-- ---- an array that takes another list of its length

pub refilled : (xs ys : List ℕ) → length ys ≡ length xs → refill (length xs) xs ys ≡ ys
refilled xs ys same =
    let none : drop (length ys) xs ≡ [] = drop_all (length ys) xs (omega arith) in
    rw (none, append-nil ys) (take_all (length xs) ys (omega arith))
