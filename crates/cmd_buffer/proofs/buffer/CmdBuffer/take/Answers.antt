use Rattle.std.proofs.Common.{◌≡◌, ◌∙◌, sym, ap, ℕ, List, [], arith}
use Rattle.std.proofs.lemmas.Grind.{common_steps}
use Rattle.cmd_buffer.specs.Buffer.{cut, cut_after}
use Rattle.cmd_buffer.proofs.Cuts.{is_cut}
use Rattle.cmd_buffer.proofs.buffer.CmdBuffer.take.Goals as goal

cut_nothing : (text : List ℕ) → text ≡ [] → text ≡ (cut text).rest
unfolding cut
cut_nothing text none = none ∙ sym (ap (λ (t : List ℕ). (cut_after [] t).rest) none)

pub returns-then-is_empty-clause-rest : goal.returns-then-is_empty-clause-rest
returns-then-is_empty-clause-rest c =
    let none : c.args.self.now ≡ [] = grind (arith, common_steps) in
    cut_nothing c.args.self.now none

pub returns-then-is_empty-clause-shortest : goal.returns-then-is_empty-clause-shortest
returns-then-is_empty-clause-shortest c =
    let none : c.args.self.now ≡ [] = grind (arith, common_steps) in
    is_cut c.args.self.now c.args.self.now (cut_nothing c.args.self.now none)

pub returns-clause-shortest : goal.returns-clause-shortest
returns-clause-shortest c = is_cut c.args.self.now _ (grind (arith, common_steps))
