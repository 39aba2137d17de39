use Rattle.std.proofs.Common.{◌<◌, ◌-◌, refl, ap, sym, subst, arith, Ok}
use Rattle.std.specs.Prelude.{◌^◌}
use Rattle.std.proofs.lemmas.Result.{err_from_is_err_and}
use Rattle.mem_model.specs.Answer.{Answers}
use Rattle.mem_model.specs.Laid.{Laid}
use Rattle.mem_model.specs.Memory.{Memory}
use Rattle.mem_model.specs.Operations.{cache_alloc}
use Rattle.mem_model.specs.Plain.{IsGiven}
use Rattle.mem_model.specs.PlainState.{state_of}
use Rattle.mem_model.proofs.Adding.{block_is}
use Rattle.mem_model.proofs.CacheLaws.{Laid-cache_alloc}
use Rattle.mem_model.proofs.Moving.{alloc_given, alloc_refused}
use Rattle.mem_model.proofs.plain.PlainStoreStore.cache_alloc.Goals as goal

pub returns-in_err-need-clause-gives : goal.returns-in_err-need-clause-gives
returns-in_err-need-clause-gives c =
    let p = err_from_is_err_and c.from_residual.result c.from_residual.ensures.1 in
    rw (p.1, p.2) (alloc_refused c.args.self.now c.args.user c.args.size c.args.name.now _ _ c.in_err-need.field-0.0 (c.in_err-need.ensures.refused c.args.name.now))

pub add-requires-clause-block : goal.add-requires-clause-block
add-requires-clause-block c =
    let given = c.in_ok-need.ensures.need in
    rw c.in_ok-cell.ensures (block_is (2 ^ 32) c.in_ok-need.need c.args.user 0 c.args.name.now (omega (arith, given.is, given.some)) (omega (arith, given.is)) c.ranges.user.fits c.requires.name)

taken : (c : goal.In_ok-add) → Answers (cache_alloc (state_of c.self.inside) c.args.user c.args.size c.args.name.now) (Ok tt) (record (state_of c.self.inside) { cache = c.add.new.self })
taken c =
    let given : IsGiven (state_of c.self.inside) c.args.user c.args.size c.in_ok-need.need = rw (← c.self.view_is) at c.in_ok-need.ensures.need in
    let there = alloc_given (state_of c.self.inside) c.args.user c.args.size c.in_ok-need.need (c.self.inside.size - c.self.inside.high_used) c.args.name.now refl given (ap (λ n. c.self.inside.size - n) c.self.invariant.high_used) in
    rw (c.in_ok-add.ensures.ok, c.in_ok-cell.ensures, c.self.invariant.low_used) there

pub invariant_of-self-2 : goal.invariant_of-self-2
invariant_of-self-2 c = record {
  laid = subst Laid (sym (taken c).after) (Laid-cache_alloc (state_of c.self.inside) c.args.user c.args.size c.args.name.now c.self.invariant.laid (subst (λ (m : Memory). c.args.user < m.users) (sym c.self.view_is) c.requires.user) c.requires.name);
  low_used = c.self.invariant.low_used;
  high_used = c.self.invariant.high_used;
  low_ends = c.self.invariant.low_ends;
  high_ends = c.self.invariant.high_ends;
}

pub returns-clause-gives : goal.returns-clause-gives
returns-clause-gives c = rw (← c.self.view_is) (taken c)

pub returns-clause-laid : goal.returns-clause-laid
returns-clause-laid c = (invariant_of-self-2 c).laid
