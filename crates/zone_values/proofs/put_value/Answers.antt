use Rattle.std.proofs.Common.{◌≡◌, ◌+◌, ◌∙◌, length, refl, ap, arith}
use Rattle.mem_model.proofs.ZoneLaying.{Laid-with_zone_bytes}
use Rattle.mem_model.proofs.ZoneLaws.{some-z_new, length-z_new}
use Rattle.mem_model.specs.Memory.{Memory}
use Rattle.mem_model.specs.Keeps.{beside_zone}
use Rattle.mem_model.proofs.CacheLaws.{after_gives}
use Rattle.zone_values.proofs.Putting.{put_given, put_without}
use Rattle.zone_values.proofs.ValueLaws.{beside-put_value}
use Rattle.zone_values.proofs.put_value.Goals as goal

pub zone_bytes_mut-requires : goal.zone_bytes_mut-requires
zone_bytes_mut-requires g c =
    rw c.in-Ok.ensures.gives.after (some-z_new _ (length c.args.value.now + 1) c.in-Ok.place.0 c.z_alloc.ensures.was_laid c.in-Ok.ensures.gives.answer)

pub write_value-requires : goal.write_value-requires
write_value-requires g c =
    let there = rw c.in-Ok.ensures.gives.after at c.zone_bytes_mut.ensures.shows in
    omega (arith, length-z_new _ (length c.args.value.now + 1) c.in-Ok.place.0 c.zone_bytes_mut.result.now c.z_alloc.ensures.was_laid c.in-Ok.ensures.gives.answer there)

pub returns-in-Ok-clause-gives : goal.returns-in-Ok-clause-gives
returns-in-Ok-clause-gives g c =
    rw (g.met.M.Store.zone_writes, c.write_value.ensures) (put_given _ _ c.args.value.now c.zone_bytes_mut.result.now c.in-Ok.place.0 c.in-Ok.ensures.gives c.zone_bytes_mut.ensures.shows)

pub returns-in-Ok-clause-laid : goal.returns-in-Ok-clause-laid
returns-in-Ok-clause-laid g c = rw g.met.M.Store.zone_writes (Laid-with_zone_bytes _ _ _ c.z_alloc.ensures.laid)

pub returns-in-Err-clause-gives : goal.returns-in-Err-clause-gives
returns-in-Err-clause-gives g c = put_without _ _ c.args.value.now _ c.in-Err.error c.in-Err.ensures.gives

-- All beside the zone is as it was.
pub returns-in-Ok-clause-beside : goal.returns-in-Ok-clause-beside
returns-in-Ok-clause-beside g c = ap (λ (n : Memory). beside_zone n) (returns-in-Ok-clause-gives g c).after ∙ beside-put_value _ c.args.value.now

pub returns-in-Err-clause-beside : goal.returns-in-Err-clause-beside
returns-in-Err-clause-beside g c =
    let m = g.M.Store.state c.args.store.now in
    after_gives (λ n. beside_zone n ≡ beside_zone m) _ _ _ _ _ (returns-in-Err-clause-gives g c) (beside-put_value m c.args.value.now) refl
