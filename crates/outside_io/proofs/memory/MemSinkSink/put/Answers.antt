use Rattle.std.proofs.Common.{◌≡◌, ℕ, ◌+◌, List, ◌++◌, length, take, ap, ◌∙◌, arith}
use Rattle.std.proofs.Math.Seq.{take-append-add}
use Rattle.std.proofs.lemmas.Grind.{common_steps}
use Rattle.outside_io.proofs.memory.MemSinkSink.put.Goals as goal

up_to : (xs ys : List ℕ) (n capacity : ℕ) → capacity ≡ length xs + n → take capacity (xs ++ ys) ≡ xs ++ take n ys
up_to xs ys n capacity is = ap (λ (k : ℕ). take k (xs ++ ys)) is ∙ take-append-add xs ys n

pub returns-clause-fits : goal.returns-clause-fits
returns-clause-fits c =
    let whole = up_to c.self.inside.bytes.items c.args.piece.now c.min-n.result c.self.inside.capacity (omega arith) in
    rw (← c.self.view_is) (λ _. grind (arith, common_steps, whole))
