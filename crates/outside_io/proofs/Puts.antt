-- Puts one after another.
use Rattle.std.proofs.Common.{◌≡◌, ℕ, ◌+◌, ◌≤◌, List, [], ◌++◌, length, take, Option, Some, None, option_map, refl, sym, ◌∙◌, ap, subst, arith, append_assoc, length-append}
use Rattle.std.proofs.lemmas.List.{append-nil}
use Rattle.std.proofs.Math.Seq.{take-append-add}
use Rattle.std.proofs.lemmas.List.{take-append-le}
use Rattle.outside_io.specs.Streams.{Adds, AddsFront}

pub adds_none : (got : Option (List ℕ)) → Adds [] got got
adds_none None = refl
adds_none (Some got) = ap (λ (g : List ℕ). Some g) (sym (append-nil got))

pub adds_both : (a b : List ℕ) (start mid now : Option (List ℕ)) → Adds a start mid → Adds b mid now → Adds (a ++ b) start now
adds_both a b None mid now first second = second ∙ ap (option_map (λ g. g ++ b)) first
adds_both a b (Some s) mid now first second = second ∙ ap (option_map (λ g. g ++ b)) first ∙ ap (λ (g : List ℕ). Some g) (append_assoc s a b)

-- a front of the whole was put, and the rest is left
pub record PutSoFar (whole : List ℕ) (start : Option (List ℕ)) (rest : List ℕ) (now : Option (List ℕ)) : Type 0 where
  pub front : List ℕ
  pub split : front ++ rest ≡ whole
  pub added : Adds front start now

pub nothing_put : (whole : List ℕ) (start : Option (List ℕ)) → PutSoFar whole start whole start
nothing_put whole start = record { front = []; split = refl; added = adds_none start }

pub one_put : (whole piece rest : List ℕ) (start mid now : Option (List ℕ)) → PutSoFar whole start (piece ++ rest) mid → Adds piece mid now → PutSoFar whole start rest now
one_put whole piece rest start mid now so_far more = record {
  front = so_far.front ++ piece;
  split = append_assoc so_far.front piece rest ∙ so_far.split;
  added = adds_both so_far.front piece start mid now so_far.added more;
}

pub all_put : (whole : List ℕ) (start now : Option (List ℕ)) → PutSoFar whole start [] now → Adds whole start now
all_put whole start now so_far = subst (λ w. Adds w start now) (sym (append-nil so_far.front) ∙ so_far.split) so_far.added

pub front_put : (whole piece rest : List ℕ) (start mid now : Option (List ℕ)) → PutSoFar whole start (piece ++ rest) mid → AddsFront piece mid now → AddsFront whole start now
front_put whole piece rest start mid now so_far part =
    let front = so_far.front in
    let n = part.0 in
    let cut : take (length front + n) whole ≡ front ++ take n piece =
    ap (λ (w : List ℕ). take (length front + n) w) (sym so_far.split) ∙ take-append-add front (piece ++ rest) n ∙ ap (λ (l : List ℕ). front ++ l) (take-append-le n piece rest part.1) in
    let size : length front + n ≤ length whole = omega (arith, ap length so_far.split, length-append front (piece ++ rest), length-append piece rest, part.1) in
    (length front + n, size, subst (λ w. Adds w start now) (sym cut) (adds_both front (take n piece) start mid now so_far.added part.2))
