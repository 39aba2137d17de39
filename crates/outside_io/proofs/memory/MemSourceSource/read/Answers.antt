use Rattle.std.proofs.Common.{◌≡◌, ℕ, ◌+◌, List, ◌++◌, length, take, drop, Some, ap, sym, ◌∙◌, arith, take-append-drop}
use Rattle.std.proofs.lemmas.List.{take_at, drop-drop}
use Rattle.std.proofs.lemmas.Grind.{common_steps}
use Rattle.outside_io.proofs.memory.MemSourceSource.read.Goals as goal

-- what was copied and what is left are what was left before
copied : (bytes xs into : List ℕ) (at n : ℕ) → xs ≡ take n (drop at bytes) → length xs ≡ n → drop at bytes ≡ take n (xs ++ drop n into) ++ drop (at + n) bytes
copied bytes xs into at n is size =
    let front : take n (xs ++ drop n into) ≡ xs = take_at xs (drop n into) n size in
    let whole : take n (drop at bytes) ++ drop (at + n) bytes ≡ drop at bytes = ap (λ (l : List ℕ). take n (drop at bytes) ++ l) (sym (drop-drop n at bytes)) ∙ take-append-drop n (drop at bytes) in
    sym (ap (λ (l : List ℕ). l ++ drop (at + n) bytes) (front ∙ is) ∙ whole)

pub returns-clause-taken : goal.returns-clause-taken
returns-clause-taken c =
    let bytes = c.self.inside.bytes.items in
    let is : c.copy_from_slice.new.self ≡ take c.min-n.result (drop c.self.inside.at bytes) = grind (arith, common_steps) in
    rw (← c.self.view_is)
    (record {
      taken = ap (λ (l : List ℕ). Some l) (copied bytes c.copy_from_slice.new.self c.args.into.now c.self.inside.at c.min-n.result is (grind (arith, common_steps)));
      ends = grind (arith, common_steps);
    })
