use Rattle.std.proofs.Common.{◌≡◌, ◌∙◌, ◌+◌, ℕ, Option, Some, None, true, false, refl, ap, sym, subst}
use Rattle.std.specs.Prelude.{is_some}
use Rattle.std.specs.Option.{option_map}
use Rattle.mem_model.specs.Blocks.{CacheBlock}
use Rattle.mem_model.specs.Answer.{Answers}
use Rattle.mem_model.specs.Laid.{Laid}
use Rattle.mem_model.specs.Memory.{Memory}
use Rattle.mem_model.specs.Cache.{block_of, peek_place}
use Rattle.mem_model.specs.Operations.{check}
use Rattle.mem_model.specs.PlainState.{state_of}
use Rattle.mem_model.proofs.Calling.{check_some, check_none}
use Rattle.mem_model.proofs.CacheLaws.{Laid-check}
use Rattle.mem_model.proofs.plain.PlainStoreStore.check.Goals as goal

none_mapped : (f : CacheBlock → ℕ) (o : Option CacheBlock) → option_map f o ≡ None → is_some o ≡ false
none_mapped f None h = refl
none_mapped f (Some b) h = absurd (cc)

some_mapped : (f : CacheBlock → ℕ) (o : Option CacheBlock) (n : ℕ) → option_map f o ≡ Some n → is_some o ≡ true
some_mapped f None n h = absurd (cc)
some_mapped f (Some b) n h = refl

pub returns-in_err-place-clause-gives : goal.returns-in_err-place-clause-gives
returns-in_err-place-clause-gives c =
    let m = c.args.self.now in
    let quiet = ap (λ (m : Memory). m.event_room) (sym c.self.view_is) in
    let none : peek_place c.args.self.now.cache c.args.user ≡ None = sym c.in_err-place.ensures.place in
    rw (c.from_residual.ensures, ← none) (check_none c.args.self.now c.args.user quiet (none_mapped (λ b. b.place + 40) (block_of c.args.self.now.cache c.args.user) none))

checked : (c : goal.After-touch) → Answers (check (state_of c.self.inside) c.args.user) (Some c.in_ok-place.place.0) (record (state_of c.self.inside) { cache = c.touch.new.self })
checked c =
    let some : peek_place c.self.inside.cache c.args.user ≡ Some c.in_ok-place.place.0 = ap (λ (m : Memory). peek_place m.cache c.args.user) c.self.view_is ∙ sym c.in_ok-place.ensures.place in
    rw (c.touch.ensures, ← some) (check_some (state_of c.self.inside) c.args.user refl (some_mapped (λ b. b.place + 40) (block_of c.self.inside.cache c.args.user) c.in_ok-place.place.0 some))

pub invariant_of-self : goal.invariant_of-self
invariant_of-self c = record {
  laid = subst Laid (sym (checked c).after) (Laid-check (state_of c.self.inside) c.args.user c.self.invariant.laid);
  low_used = c.self.invariant.low_used;
  high_used = c.self.invariant.high_used;
  low_ends = c.self.invariant.low_ends;
  high_ends = c.self.invariant.high_ends;
}

pub returns-clause-gives : goal.returns-clause-gives
returns-clause-gives c = rw (← c.self.view_is) (checked c)

pub returns-clause-laid : goal.returns-clause-laid
returns-clause-laid c = (invariant_of-self c).laid
