use Rattle.std.proofs.Common.{◌≡◌, ◌+◌, ◌∷◌, [], ap, arith, refl}
use Rattle.mem_model.proofs.Laying.{Laid-new_memory}
use Rattle.mem_model.proofs.plain.PlainStore.create.Goals as goal

pub invariant_of-result : goal.invariant_of-result
invariant_of-result c =
    let low = c.in_ok-add.ensures.ok in
    record {
      laid = rw (low, c.new-low.ensures.items, c.bare.ensures, c.in_ok-create.ensures, c.new.ensures.items, c.create-2.ensures)
          (Laid-new_memory c.args.size c.args.zone c.args.users c.requires.zone.0 c.requires.zone.1 c.requires.size.1 (omega arith));
      low_used = rw (low, c.new-low.ensures.items, c.bare.ensures) (omega arith);
      high_used = rw c.new.ensures.items refl;
      low_ends = rw (low, c.in_ok-add-2.ensures.ok, c.new-low.ensures.items, c.new-low_ends.ensures.items, c.bare.ensures) (let e : c.args.zone + 16 ≡ 0 + (c.args.zone + 16) = omega arith in ap (λ n. n ∷ []) e);
      high_ends = rw (c.new.ensures.items, c.new-2.ensures.items) refl;
    }
