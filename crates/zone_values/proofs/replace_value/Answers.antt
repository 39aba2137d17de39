use Rattle.std.proofs.Common.{◌≡◌, ◌∙◌, refl, ap}
use Rattle.mem_model.specs.Memory.{Memory}
use Rattle.mem_model.specs.Keeps.{beside_zone}
use Rattle.mem_model.proofs.CacheLaws.{after_gives}
use Rattle.zone_values.proofs.Putting.{replaced_given, replaced_without}
use Rattle.zone_values.proofs.ValueLaws.{beside-replace_value}
use Rattle.zone_values.proofs.replace_value.Goals as goal

pub returns-in-Ok-clause-gives : goal.returns-in-Ok-clause-gives
returns-in-Ok-clause-gives g c = rw c.z_free.ensures.gives.after (replaced_given _ _ c.args.value.now c.args.old.0 c.in-Ok.place.0 c.in-Ok.ensures.gives)

pub returns-in-Err-clause-gives : goal.returns-in-Err-clause-gives
returns-in-Err-clause-gives g c = replaced_without _ _ c.args.value.now c.args.old.0 _ c.in-Err.refusal c.in-Err.ensures.gives

-- All beside the zone is as it was.
pub returns-in-Ok-clause-beside : goal.returns-in-Ok-clause-beside
returns-in-Ok-clause-beside g c = ap (λ (n : Memory). beside_zone n) (returns-in-Ok-clause-gives g c).after ∙ beside-replace_value _ c.args.value.now c.args.old.0

pub returns-in-Err-clause-beside : goal.returns-in-Err-clause-beside
returns-in-Err-clause-beside g c =
    let m = g.M.Store.state c.args.store.now in
    after_gives (λ n. beside_zone n ≡ beside_zone m) _ _ _ _ _ (returns-in-Err-clause-gives g c) (beside-replace_value m c.args.value.now c.args.old.0) refl
