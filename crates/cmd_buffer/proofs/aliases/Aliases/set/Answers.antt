use Rattle.std.proofs.Common.{◌≡◌, ◌≤◌, ◌∙◌, ℕ, List, Some, None, Ok, length, refl, sym, ap, subst, arith}
use Rattle.mem_model.specs.Zone.{with_zone_bytes}
use Rattle.mem_model.proofs.ZoneLaying.{Laid-with_zone_bytes}
use Rattle.std.specs.Prelude.{OnOk, OnErr}
use Rattle.cmd_buffer.specs.Aliases.{changed, alias_texts, IsReadBack}
use Rattle.cmd_buffer.proofs.AliasSetLaws.{reads_told, long_told, beside_told}
use Rattle.cmd_buffer.specs.AliasCalls.{IsSet}
use Rattle.cmd_buffer.specs.AliasRecords.{alias_in}
use Rattle.cmd_buffer.proofs.AliasAdding.{Stays}
use Rattle.cmd_buffer.proofs.AliasChanging.{is_found, stays_changed}
use Rattle.cmd_buffer.proofs.AliasAnswers.{given_same, set_of, from_zone, found_of, still_room, record_changed, set_same, not_changed, stays_set, stays_told, long_set, set_is_changed, set_is_added}
use Rattle.cmd_buffer.proofs.aliases.Aliases.set.Given.{Over}
use Rattle.cmd_buffer.proofs.aliases.Aliases.set.Goals as goal

pub returns-then-name-gt-LONGEST_NAME-clause-gives : goal.returns-then-name-gt-LONGEST_NAME-clause-gives
returns-then-name-gt-LONGEST_NAME-clause-gives g c = long_set _ c.args.self.now c.args.name.now c.args.value.now c.if-name-gt-LONGEST_NAME.true

pub returns-in_err-new-in-Some-clause-gives : goal.returns-in_err-new-in-Some-clause-gives
returns-in_err-new-in-Some-clause-gives g c =
    let m = g.M.Store.state c.args.store.now in
    let n = g.M.Store.state c.replace_value.new.store in
    let a = alias_in c.args.name.now c.in-Some.blocks in
    let fits : length c.args.name.now ≤ 31 = omega arith in
    let is = from_zone c.from_residual.result c.in_err-new-in-Some.field-0.0 c.from_residual.ensures.0 c.from_residual.ensures.1 in
    rw is (given_same _ _ _ m n c.args.self.now c.args.self.now _
    (set_is_changed m c.args.self.now c.args.name.now c.args.value.now a fits (found_of m _ _ c.args.name.now (Some a) c.self.view_is c.in-Some.ensures.found))
    (not_changed m n c.args.self.now c.args.name.now c.args.value.now a _ c.in_err-new-in-Some.field-0.0 c.in_err-new-in-Some.ensures.gives))

stays_in_err : (g : Over) (c : goal.After-from_residual g) → Stays (g.M.Store.state c.args.store.now) (g.M.Store.state c.replace_value.new.store) c.args.self.now c.args.self.now
stays_in_err g c =
    let m = g.M.Store.state c.args.store.now in
    let n = g.M.Store.state c.replace_value.new.store in
    let a = alias_in c.args.name.now c.in-Some.blocks in
    stays_told m n _ c.args.self.now c.args.self.now _ _ c.replace_value.ensures.was_laid c.requires.holds
    (stays_changed m c.args.self.now c.args.name.now c.args.value.now a c.replace_value.ensures.was_laid c.requires.holds (found_of m _ _ c.args.name.now (Some a) c.self.view_is c.in-Some.ensures.found))
    (not_changed m n c.args.self.now c.args.name.now c.args.value.now a _ c.in_err-new-in-Some.field-0.0 c.in_err-new-in-Some.ensures.gives)

pub returns-in_err-new-in-Some-clause-holds : goal.returns-in_err-new-in-Some-clause-holds
returns-in_err-new-in-Some-clause-holds g c = (stays_in_err g c).holds

pub returns-in_err-new-in-Some-clause-others : goal.returns-in_err-new-in-Some-clause-others
returns-in_err-new-in-Some-clause-others g c = (stays_in_err g c).others

pub zone_bytes_mut-requires : goal.zone_bytes_mut-requires
zone_bytes_mut-requires g c =
    let m = g.M.Store.state c.args.store.now in
    let a = alias_in c.args.name.now c.in-Some.blocks in
    let found = is_found m c.args.self.now c.args.name.now a c.requires.holds (found_of m _ _ c.args.name.now (Some a) c.self.view_is c.in-Some.ensures.found) in
    let room = still_room m _ c.args.self.now c.args.name.now c.args.value.now a c.in_ok-new-in-Some.new.0 c.replace_value.ensures.was_laid found c.in_ok-new-in-Some.ensures.gives in
    rw room.2 refl

pub put_u32-requires : goal.put_u32-requires
put_u32-requires g c =
    let m = g.M.Store.state c.args.store.now in
    let a = alias_in c.args.name.now c.in-Some.blocks in
    let found = is_found m c.args.self.now c.args.name.now a c.requires.holds (found_of m _ _ c.args.name.now (Some a) c.self.view_is c.in-Some.ensures.found) in
    let room = still_room m _ c.args.self.now c.args.name.now c.args.value.now a c.in_ok-new-in-Some.new.0 c.replace_value.ensures.was_laid found c.in_ok-new-in-Some.ensures.gives in
    let both : Some room.0 ≡ Some c.zone_bytes_mut.result.now = sym room.2 ∙ c.zone_bytes_mut.ensures.shows in
    let same : room.0 ≡ c.zone_bytes_mut.result.now = cc in
    subst (λ (bytes : List ℕ). 40 ≤ length bytes) same room.1

-- the record of the alias names the new value
was_changed : (g : Over) (c : goal.After-store-1 g) → IsSet (changed (g.M.Store.state c.args.store.now) c.args.self.now (alias_in c.args.name.now c.in-Some.blocks) c.args.value.now) (Ok tt)
    (g.M.Store.state (g.M.Store.zone_written c.replace_value.new.store c.in-Some.blocks.record_place.0 c.put_u32.new.bytes)) c.args.self.now
was_changed g c =
    let m = g.M.Store.state c.args.store.now in
    let n = g.M.Store.state c.replace_value.new.store in
    let a = alias_in c.args.name.now c.in-Some.blocks in
    set_same _ _ _ _ _ (record_changed m n c.args.self.now c.args.name.now c.args.value.now a c.in_ok-new-in-Some.new.0 c.zone_bytes_mut.result.now c.in_ok-new-in-Some.ensures.gives c.zone_bytes_mut.ensures.shows)
    (g.met.M.Store.zone_writes c.replace_value.new.store a.record_place c.put_u32.new.bytes ∙ ap (with_zone_bytes n a.record_place) c.put_u32.ensures)

stays_in_ok : (g : Over) (c : goal.After-store-1 g) →
    Stays (g.M.Store.state c.args.store.now) (g.M.Store.state (g.M.Store.zone_written c.replace_value.new.store c.in-Some.blocks.record_place.0 c.put_u32.new.bytes)) c.args.self.now c.args.self.now
stays_in_ok g c =
    let m = g.M.Store.state c.args.store.now in
    let a = alias_in c.args.name.now c.in-Some.blocks in
    stays_set m _ c.args.self.now c.args.self.now _ _
    (stays_changed m c.args.self.now c.args.name.now c.args.value.now a c.replace_value.ensures.was_laid c.requires.holds (found_of m _ _ c.args.name.now (Some a) c.self.view_is c.in-Some.ensures.found))
    (was_changed g c)

pub returns-in_ok-new-in-Some-clause-gives : goal.returns-in_ok-new-in-Some-clause-gives
returns-in_ok-new-in-Some-clause-gives g c =
    let m = g.M.Store.state c.args.store.now in
    let a = alias_in c.args.name.now c.in-Some.blocks in
    let fits : length c.args.name.now ≤ 31 = omega arith in
    set_of _ _ _ _ _ (set_is_changed m c.args.self.now c.args.name.now c.args.value.now a fits (found_of m _ _ c.args.name.now (Some a) c.self.view_is c.in-Some.ensures.found)) (was_changed g c)

pub returns-in_ok-new-in-Some-clause-holds : goal.returns-in_ok-new-in-Some-clause-holds
returns-in_ok-new-in-Some-clause-holds g c = (stays_in_ok g c).holds

pub returns-in_ok-new-in-Some-clause-others : goal.returns-in_ok-new-in-Some-clause-others
returns-in_ok-new-in-Some-clause-others g c = (stays_in_ok g c).others

pub returns-in_ok-new-in-Some-clause-laid : goal.returns-in_ok-new-in-Some-clause-laid
returns-in_ok-new-in-Some-clause-laid g c = λ laid. rw g.met.M.Store.zone_writes (Laid-with_zone_bytes _ _ _ c.replace_value.ensures.laid)

pub returns-in-None-clause-gives : goal.returns-in-None-clause-gives
returns-in-None-clause-gives g c =
    let m = g.M.Store.state c.args.store.now in
    let fits : length c.args.name.now ≤ 31 = omega arith in
    given_same _ _ _ m _ c.args.self.now c.add.new.self _
    (set_is_added m c.args.self.now c.args.name.now c.args.value.now fits (found_of m _ _ c.args.name.now None c.self.view_is c.in-None.ensures.found))
    c.add.ensures.gives

-- what was set is read back, and all else as before
reads_in_err : (g : Over) (c : goal.After-from_residual g) →
    OnOk c.from_residual.result (IsReadBack (alias_texts (g.M.Store.state c.args.store.now) c.args.self.now) (alias_texts (g.M.Store.state c.replace_value.new.store) c.args.self.now) c.args.name.now c.args.value.now)
    × OnErr c.from_residual.result (alias_texts (g.M.Store.state c.replace_value.new.store) c.args.self.now ≡ alias_texts (g.M.Store.state c.args.store.now) c.args.self.now)
reads_in_err g c =
    reads_told _ _ c.args.self.now c.args.self.now c.args.name.now c.args.value.now _ c.from_residual.result c.replace_value.ensures.was_laid c.requires.holds c.requires.texts.0 c.requires.texts.1 (returns-in_err-new-in-Some-clause-gives g c)

pub returns-in_err-new-in-Some-clause-read_back : goal.returns-in_err-new-in-Some-clause-read_back
returns-in_err-new-in-Some-clause-read_back g c = (reads_in_err g c).0

pub returns-in_err-new-in-Some-clause-unset_read : goal.returns-in_err-new-in-Some-clause-unset_read
returns-in_err-new-in-Some-clause-unset_read g c = (reads_in_err g c).1

pub returns-in_ok-new-in-Some-clause-read_back : goal.returns-in_ok-new-in-Some-clause-read_back
returns-in_ok-new-in-Some-clause-read_back g c =
    (reads_told _ _ c.args.self.now c.args.self.now c.args.name.now c.args.value.now g.M.Store.frugal (Ok tt) c.replace_value.ensures.was_laid c.requires.holds c.requires.texts.0 c.requires.texts.1 (returns-in_ok-new-in-Some-clause-gives g c)).0

pub returns-in-None-clause-read_back : goal.returns-in-None-clause-read_back
returns-in-None-clause-read_back g c =
    (reads_told _ _ c.args.self.now _ c.args.name.now c.args.value.now _ c.add.result c.add.ensures.was_laid c.requires.holds c.requires.texts.0 c.requires.texts.1 (returns-in-None-clause-gives g c)).0

pub returns-in-None-clause-unset_read : goal.returns-in-None-clause-unset_read
returns-in-None-clause-unset_read g c =
    (reads_told _ _ c.args.self.now _ c.args.name.now c.args.value.now _ c.add.result c.add.ensures.was_laid c.requires.holds c.requires.texts.0 c.requires.texts.1 (returns-in-None-clause-gives g c)).1

-- a name of 31 bytes at most is not told to be long
pub returns-in_err-new-in-Some-clause-long_name : goal.returns-in_err-new-in-Some-clause-long_name
returns-in_err-new-in-Some-clause-long_name g c = (
  long_told _ _ c.args.self.now c.args.self.now c.args.name.now c.args.value.now _ c.from_residual.result (returns-in_err-new-in-Some-clause-gives g c),
  λ long. absurd (omega arith),
)

pub returns-in_ok-new-in-Some-clause-long_name : goal.returns-in_ok-new-in-Some-clause-long_name
returns-in_ok-new-in-Some-clause-long_name g c = (λ told. absurd (cc), λ long. absurd (omega arith))

pub returns-in-None-clause-long_name : goal.returns-in-None-clause-long_name
returns-in-None-clause-long_name g c = (
  long_told _ _ c.args.self.now _ c.args.name.now c.args.value.now _ c.add.result (returns-in-None-clause-gives g c),
  λ long. absurd (omega arith),
)

-- Nothing beside the zone changed.
pub returns-in_err-new-in-Some-clause-beside : goal.returns-in_err-new-in-Some-clause-beside
returns-in_err-new-in-Some-clause-beside g c =
    beside_told _ _ c.args.self.now c.args.self.now c.args.name.now c.args.value.now _ _ (returns-in_err-new-in-Some-clause-gives g c)

pub returns-in_ok-new-in-Some-clause-beside : goal.returns-in_ok-new-in-Some-clause-beside
returns-in_ok-new-in-Some-clause-beside g c =
    beside_told _ _ c.args.self.now c.args.self.now c.args.name.now c.args.value.now g.M.Store.frugal (Some (Ok tt)) (returns-in_ok-new-in-Some-clause-gives g c)

pub returns-in-None-clause-beside : goal.returns-in-None-clause-beside
returns-in-None-clause-beside g c = beside_told _ _ c.args.self.now _ c.args.name.now c.args.value.now _ _ (returns-in-None-clause-gives g c)
