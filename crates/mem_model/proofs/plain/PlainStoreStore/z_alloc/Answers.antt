use Rattle.std.proofs.Common.{◌≡◌, ◌+◌, Some, None, Ok, refl, sym, subst}
use Rattle.mem_model.specs.Answer.{Answers}
use Rattle.mem_model.specs.Laid.{Laid}
use Rattle.mem_model.specs.Places.{zone_need}
use Rattle.mem_model.specs.PlainState.{state_of}
use Rattle.mem_model.specs.Zone.{chosen, with_taken, place_at}
use Rattle.mem_model.specs.Operations.{z_alloc}
use Rattle.mem_model.proofs.Calling.{z_alloc_full, z_alloc_taken}
use Rattle.mem_model.proofs.ZoneLaying.{Laid-z_alloc}
use Rattle.mem_model.proofs.plain.PlainStoreStore.z_alloc.Goals as goal

pub returns-in_default-clause-gives : goal.returns-in_default-clause-gives
returns-in_default-clause-gives c =
    let none : chosen c.self.inside.zone (zone_need c.args.size) ≡ None = rw c.zone_need-asked.ensures at (sym c.in_default.ensures.chosen) in
    rw (c.zone_need-asked.ensures, ← c.self.view_is) (z_alloc_full (state_of c.self.inside) c.args.size refl none)

taken : (c : goal.In_ok-take) → Answers (z_alloc (state_of c.self.inside) c.args.size) (Ok (place_at c.self.inside.zone.blocks c.in-Some.at + 24)) (record (state_of c.self.inside) { zone = with_taken c.self.inside.zone c.in-Some.at (zone_need c.args.size) })
taken c =
    let some : chosen c.self.inside.zone (zone_need c.args.size) ≡ Some c.in-Some.at = rw c.zone_need-asked.ensures at (sym c.in-Some.ensures.chosen) in
    z_alloc_taken (state_of c.self.inside) c.args.size c.in-Some.at refl some

pub invariant_of-self-2 : goal.invariant_of-self-2
invariant_of-self-2 c = record {
  laid = rw (c.in_ok-take.ensures.taken, c.zone_need-asked.ensures) (subst Laid (sym (taken c).after) (Laid-z_alloc (state_of c.self.inside) c.args.size c.self.invariant.laid));
  low_used = c.self.invariant.low_used;
  high_used = c.self.invariant.high_used;
  low_ends = c.self.invariant.low_ends;
  high_ends = c.self.invariant.high_ends;
}

pub returns-clause-gives : goal.returns-clause-gives
returns-clause-gives c = rw (c.in_ok-take.ensures.place, c.in_ok-take.ensures.taken, c.zone_need-asked.ensures, ← c.self.view_is) (taken c)

pub returns-clause-laid : goal.returns-clause-laid
returns-clause-laid c = (invariant_of-self-2 c).laid
