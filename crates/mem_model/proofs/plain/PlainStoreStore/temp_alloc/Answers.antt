use Rattle.std.proofs.Common.{◌≡◌, ◌∙◌, ◌*◌, ◌++◌, ◌∷◌, [], ap, Ok, ℕ, arith}
use Rattle.std.specs.Prelude.{codes}
use Rattle.std.specs.Int.{div_ceil}
use Rattle.mem_model.specs.Answer.{Answers}
use Rattle.mem_model.specs.Memory.{Memory, high_used}
use Rattle.mem_model.specs.Places.{round_up, hunk_need}
use Rattle.mem_model.specs.Hunk.{without_temp, hunk_block}
use Rattle.mem_model.specs.Operations.{high_taken}
use Rattle.mem_model.specs.PlainState.{state_of}
use Rattle.mem_model.proofs.Calling.{temp_alloc_taken, temp_alloc_without, high-high_taken}
use Rattle.mem_model.proofs.HighLaying.{Laid-with_temp, temp-without_temp}
use Rattle.mem_model.proofs.plain.PlainStoreStore.temp_alloc.Goals as goal

rounded : (n : ℕ) → div_ceil n 16 * 16 ≡ round_up n 16
rounded n = omega arith

pub take_high-requires-clause-no_temp : goal.take_high-requires-clause-no_temp
take_high-requires-clause-no_temp c = rw c.free_temp.ensures.freed (temp-without_temp c.args.self.now)

pub invariant_of-self : goal.invariant_of-self
invariant_of-self c =
    let used : c.self.inside.high_used ≡ high_used (without_temp c.args.self.now) = c.self.invariant.high_used ∙ ap high_used (c.self.view_is ∙ c.free_temp.ensures.freed) in
    let whole : c.div_ceil.result * 16 ≡ round_up c.args.size 16 = ap (λ n. n * 16) c.div_ceil.ensures ∙ rounded c.args.size in
    let taken : Answers (high_taken (without_temp c.args.self.now) (round_up c.args.size 16) (codes "temp")) (Ok c.in-Ok.place.0) (state_of c.self-2.inside) =
    rw (c.free_temp.ensures.freed, whole, ← c.self-2.view_is) at c.in-Ok.ensures.gives in
    let newest : c.self-2.inside.high.items ≡ (without_temp c.args.self.now).high ++ hunk_block (hunk_need (round_up c.args.size 16)) (codes "temp") ∷ [] =
    ap (λ (m : Memory). m.high) taken.after ∙ high-high_taken (without_temp c.args.self.now) (round_up c.args.size 16) c.in-Ok.place.0 (codes "temp") taken.answer in
    record {
      laid = Laid-with_temp (state_of c.self-2.inside) _ _ c.self.inside.high_used c.self-2.invariant.laid newest used;
      low_used = c.self-2.invariant.low_used;
      high_used = c.self-2.invariant.high_used;
      low_ends = c.self-2.invariant.low_ends;
      high_ends = c.self-2.invariant.high_ends;
    }

pub returns-in-Ok-clause-gives : goal.returns-in-Ok-clause-gives
returns-in-Ok-clause-gives c =
    let used : c.self.inside.high_used ≡ high_used (without_temp c.args.self.now) = c.self.invariant.high_used ∙ ap high_used (c.self.view_is ∙ c.free_temp.ensures.freed) in
    let whole : c.div_ceil.result * 16 ≡ round_up c.args.size 16 = ap (λ n. n * 16) c.div_ceil.ensures ∙ rounded c.args.size in
    let taken : Answers (high_taken (without_temp c.args.self.now) (round_up c.args.size 16) (codes "temp")) (Ok c.in-Ok.place.0) (state_of c.self-2.inside) =
    rw (c.free_temp.ensures.freed, whole, ← c.self-2.view_is) at c.in-Ok.ensures.gives in
    rw used (temp_alloc_taken c.args.self.now (state_of c.self-2.inside) c.args.size c.in-Ok.place.0 c.free_temp.ensures.quiet taken)

pub returns-in-Ok-clause-laid : goal.returns-in-Ok-clause-laid
returns-in-Ok-clause-laid c = (invariant_of-self c).laid

pub returns-in-Err-clause-gives : goal.returns-in-Err-clause-gives
returns-in-Err-clause-gives c =
    let whole : c.div_ceil.result * 16 ≡ round_up c.args.size 16 = ap (λ n. n * 16) c.div_ceil.ensures ∙ rounded c.args.size in
    temp_alloc_without c.args.self.now c.take_high.new.self c.args.size c.in-Err.error c.free_temp.ensures.quiet (rw (c.free_temp.ensures.freed, whole) at c.in-Err.ensures.gives)
