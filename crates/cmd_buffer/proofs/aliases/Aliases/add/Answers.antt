use Rattle.std.proofs.Common.{◌≡◌, ◌≤◌, ◌∙◌, ℕ, List, Option, Some, length, refl, sym, ap, subst}
use Rattle.mem_model.specs.Hunk.{over}
use Rattle.mem_model.specs.Zone.{with_zone_bytes}
use Rattle.mem_model.proofs.ZoneLaying.{Laid-with_zone_bytes}
use Rattle.cmd_buffer.specs.Aliases.{spelled}
use Rattle.cmd_buffer.proofs.AliasAdding.{Stays, stays_added}
use Rattle.cmd_buffer.proofs.AliasAnswers.{from_zone, has_room, record_set, set_same, record_freed, not_recorded, stays_set, stays_told}
use Rattle.cmd_buffer.proofs.aliases.Aliases.add.Given.{Over}
use Rattle.cmd_buffer.proofs.aliases.Aliases.add.Goals as goal

pub returns-in_err-place-clause-gives : goal.returns-in_err-place-clause-gives
returns-in_err-place-clause-gives g c =
    let m = g.M.Store.state c.args.store.now in
    let is = from_zone c.from_residual.result c.in_err-place.field-0.0 c.from_residual.ensures.0 c.from_residual.ensures.1 in
    rw is (not_recorded m _ c.args.self.now c.args.name.now c.args.value.now _ c.in_err-place.field-0.0 c.in_err-place.ensures.gives)

stays_in_err : (g : Over) (c : goal.After-from_residual g) → Stays (g.M.Store.state c.args.store.now) (g.M.Store.state c.z_alloc.new.self) c.args.self.now c.args.self.now
stays_in_err g c =
    stays_told _ _ _ c.args.self.now c.args.self.now _ _ c.z_alloc.ensures.was_laid c.requires.holds
    (stays_added _ c.args.self.now c.args.name.now c.args.value.now c.z_alloc.ensures.was_laid c.requires.holds c.requires.texts.0 c.requires.fits)
    (returns-in_err-place-clause-gives g c)

pub returns-in_err-place-clause-holds : goal.returns-in_err-place-clause-holds
returns-in_err-place-clause-holds g c = (stays_in_err g c).holds

pub returns-in_err-place-clause-others : goal.returns-in_err-place-clause-others
returns-in_err-place-clause-others g c = (stays_in_err g c).others

pub zone_bytes_mut-requires : goal.zone_bytes_mut-requires
zone_bytes_mut-requires g c =
    let m = g.M.Store.state c.args.store.now in
    let room = has_room m _ c.args.self.now c.args.name.now c.args.value.now c.in_ok-place.place.0 c.in_ok-place.ensures.gives _ c.in-Ok.new.0 c.z_alloc.ensures.was_laid c.z_alloc.ensures.laid c.in-Ok.ensures.gives in
    rw room.2 refl

pub write_record-requires-clause-room : goal.write_record-requires-clause-room
write_record-requires-clause-room g c =
    let m = g.M.Store.state c.args.store.now in
    let room = has_room m _ c.args.self.now c.args.name.now c.args.value.now c.in_ok-place.place.0 c.in_ok-place.ensures.gives _ c.in-Ok.new.0 c.z_alloc.ensures.was_laid c.z_alloc.ensures.laid c.in-Ok.ensures.gives in
    let both : Some room.0 ≡ Some c.zone_bytes_mut.result.now = sym room.2 ∙ c.zone_bytes_mut.ensures.shows in
    let same : room.0 ≡ c.zone_bytes_mut.result.now = cc in
    subst (λ (bytes : List ℕ). 40 ≤ length bytes) same room.1

pub returns-in-Ok-clause-gives : goal.returns-in-Ok-clause-gives
returns-in-Ok-clause-gives g c =
    let m = g.M.Store.state c.args.store.now in
    let n2 = g.M.Store.state c.put_value.new.store in
    set_same _ _ _ _ _ (record_set m _ c.args.self.now c.args.name.now c.args.value.now c.in_ok-place.place.0 c.in_ok-place.ensures.gives n2 c.in-Ok.new.0 c.zone_bytes_mut.result.now c.in-Ok.ensures.gives c.zone_bytes_mut.ensures.shows)
    (g.met.M.Store.zone_writes c.put_value.new.store c.in_ok-place.place.0 c.write_record.new.bytes ∙ ap (with_zone_bytes n2 c.in_ok-place.place.0) c.write_record.ensures
    ∙ ap (λ (o : Option ℕ). with_zone_bytes n2 c.in_ok-place.place.0 (over c.zone_bytes_mut.result.now (spelled o c.args.name.now c.in-Ok.new.0))) c.self.view_is)

pub returns-in-Ok-clause-laid : goal.returns-in-Ok-clause-laid
returns-in-Ok-clause-laid g c = rw g.met.M.Store.zone_writes (Laid-with_zone_bytes _ _ _ c.put_value.ensures.laid)

pub returns-in-Err-clause-gives : goal.returns-in-Err-clause-gives
returns-in-Err-clause-gives g c =
    let m = g.M.Store.state c.args.store.now in
    rw c.z_free.ensures.gives.after
    (record_freed m _ c.args.self.now c.args.name.now c.args.value.now c.in_ok-place.place.0 c.in_ok-place.ensures.gives _ _ c.in-Err.error c.in-Err.ensures.gives)

stays_in_ok : (g : Over) (c : goal.After-self-1 g) → Stays (g.M.Store.state c.args.store.now) (g.M.Store.state (g.M.Store.zone_written c.put_value.new.store c.in_ok-place.place.0 c.write_record.new.bytes)) c.args.self.now (Some c.in_ok-place.place.0)
stays_in_ok g c =
    stays_set _ _ c.args.self.now _ _ _
    (stays_added _ c.args.self.now c.args.name.now c.args.value.now c.z_alloc.ensures.was_laid c.requires.holds c.requires.texts.0 c.requires.fits)
    (returns-in-Ok-clause-gives g c)

pub returns-in-Ok-clause-holds : goal.returns-in-Ok-clause-holds
returns-in-Ok-clause-holds g c = (stays_in_ok g c).holds

pub returns-in-Ok-clause-others : goal.returns-in-Ok-clause-others
returns-in-Ok-clause-others g c = (stays_in_ok g c).others

stays_in_Err : (g : Over) (c : goal.After-z_free g) → Stays (g.M.Store.state c.args.store.now) (g.M.Store.state c.z_free.new.self) c.args.self.now c.args.self.now
stays_in_Err g c =
    stays_told _ _ _ c.args.self.now c.args.self.now _ _ c.z_alloc.ensures.was_laid c.requires.holds
    (stays_added _ c.args.self.now c.args.name.now c.args.value.now c.z_alloc.ensures.was_laid c.requires.holds c.requires.texts.0 c.requires.fits)
    (returns-in-Err-clause-gives g c)

pub returns-in-Err-clause-holds : goal.returns-in-Err-clause-holds
returns-in-Err-clause-holds g c = (stays_in_Err g c).holds

pub returns-in-Err-clause-others : goal.returns-in-Err-clause-others
returns-in-Err-clause-others g c = (stays_in_Err g c).others
