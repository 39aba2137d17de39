use Rattle.std.proofs.Common.{refl}
use Rattle.std.proofs.lemmas.Result.{err_from_is_err_and}
use Rattle.res_table.proofs.Acquiring.{absent_user, free_user, later_err, later_ok}
use Rattle.res_table.proofs.Holding.{held_kept, held_loaded}
use Rattle.res_table.proofs.Kept.{kept_but, kept_for, kept_more}
use Rattle.res_table.proofs.table.ResTable.acquire.Goals as goal

pub returns-in-Some-clause-table : goal.returns-in-Some-clause-table
returns-in-Some-clause-table g c = rw (rw c.in-Some.is at c.in_ok-res.ensures.old) refl

pub load-requires-clause-free : goal.load-requires-clause-free
load-requires-clause-free g c =
    let before = rw c.in_default.is at c.in_ok-res.ensures.before in
    let same = (rw c.in_default.is at c.in_ok-res.ensures.same) refl in
    let room = (rw c.in_default.is at c.in_ok-res.ensures.room) refl in
    rw (c.user-user.ensures, c.slot.ensures, c.slots.ensures, same) (free_user _ _ c.args.table c.args.name.now c.requires.held room before)

pub returns-in_err-res-2-clause-told : goal.returns-in_err-res-2-clause-told
returns-in_err-res-2-clause-told g c =
    let p = err_from_is_err_and c.from_residual-in_err-res-2.result c.from_residual-in_err-res-2.ensures.1 in
    let before = rw c.in_default.is at c.in_ok-res.ensures.before in
    let same = (rw c.in_default.is at c.in_ok-res.ensures.same) refl in
    rw (p.1, p.2) (later_err c.args.self.now c.args.table c.args.name.now _ _ _ before c.in_err-res-2.field-0.0 _ _ _
    c.in_err-res-2.ensures.makes (rw (c.speed.ensures, c.file.ensures, c.user-user.ensures, c.slot.ensures, c.slots.ensures) refl) (rw (c.file.ensures, same) refl))

pub returns-clause-told : goal.returns-clause-told
returns-clause-told g c =
    let before = rw c.in_default.is at c.in_ok-res.ensures.before in
    let same = (rw c.in_default.is at c.in_ok-res.ensures.same) refl in
    rw (c.enter.ensures, c.loaded_of.ensures) (later_ok c.args.self.now c.args.table c.args.name.now _ _ _ before c.in_ok-res-2.res _
    (rw (c.speed.ensures, c.file.ensures, c.user-user.ensures, c.slot.ensures, c.slots.ensures, same) at c.in_ok-res-2.ensures.makes))

pub returns-clause-table : goal.returns-clause-table
returns-clause-table g c = rw c.in_ok-res-2.ensures.fresh (rw c.loaded_of.ensures at c.enter.ensures)

pub returns-in_err-res-clause-held : goal.returns-in_err-res-clause-held
returns-in_err-res-clause-held g c = held_kept _ _ _ _ c.requires.held c.in_err-res.ensures.keeps

pub returns-in_err-res-clause-keeps : goal.returns-in_err-res-clause-keeps
returns-in_err-res-clause-keeps g c = kept_but _ c.in_err-res.ensures.keeps

pub returns-in-Some-clause-held : goal.returns-in-Some-clause-held
returns-in-Some-clause-held g c = held_kept _ _ _ _ c.requires.held c.in_ok-res.ensures.keeps

pub returns-in-Some-clause-keeps : goal.returns-in-Some-clause-keeps
returns-in-Some-clause-keeps g c = kept_but _ c.in_ok-res.ensures.keeps

pub returns-in_err-res-2-clause-held : goal.returns-in_err-res-2-clause-held
returns-in_err-res-2-clause-held g c =
    rw c.in_err-res-2.ensures.same.mounts (held_kept _ _ _ _ c.requires.held (kept_more c.in_ok-res.ensures.keeps c.in_err-res-2.ensures.keeps))

pub returns-in_err-res-2-clause-keeps : goal.returns-in_err-res-2-clause-keeps
returns-in_err-res-2-clause-keeps g c = kept_but _ (kept_more c.in_ok-res.ensures.keeps c.in_err-res-2.ensures.keeps)

pub returns-clause-held : goal.returns-clause-held
returns-clause-held g c =
    let before = rw c.in_default.is at c.in_ok-res.ensures.before in
    let same = (rw c.in_default.is at c.in_ok-res.ensures.same) refl in
    let room = (rw c.in_default.is at c.in_ok-res.ensures.room) refl in
    let absent = absent_user _ _ c.args.table c.args.name.now c.requires.held before in
    rw (c.in_ok-res-2.ensures.same.mounts, c.enter.ensures, c.loaded_of.ensures)
    (held_loaded _ c.args.self.now _ _ c.args.table c.args.name.now c.in_ok-res-2.res c.requires.held room absent
    (rw (c.user-user.ensures, c.slot.ensures, c.slots.ensures, same) at c.in_ok-res-2.ensures.keeps)
    (rw (c.speed.ensures, c.file.ensures, c.user-user.ensures, c.slot.ensures, c.slots.ensures) at c.in_ok-res-2.ensures.built))

pub returns-in_err-res-clause-asked : goal.returns-in_err-res-clause-asked
returns-in_err-res-clause-asked g c = λ needed. (let before = c.in_err-res.ensures.before in absurd (cc))

pub returns-in-Some-clause-asked : goal.returns-in-Some-clause-asked
returns-in-Some-clause-asked g c = λ needed. (let before = rw c.in-Some.is at c.in_ok-res.ensures.before in absurd (cc))

pub returns-in_err-res-2-clause-asked : goal.returns-in_err-res-2-clause-asked
returns-in_err-res-2-clause-asked g c = λ needed.
    let p = err_from_is_err_and c.from_residual-in_err-res-2.result c.from_residual-in_err-res-2.ensures.1 in
    rw (p.1, p.2) (rw c.file.ensures at c.in_err-res-2.ensures.asked)

pub returns-clause-asked : goal.returns-clause-asked
returns-clause-asked g c = λ needed. rw c.file.ensures at c.in_ok-res-2.ensures.asked

pub returns-clause-keeps : goal.returns-clause-keeps
returns-clause-keeps g c =
    kept_more (kept_but _ c.in_ok-res.ensures.keeps) (kept_for c.in_ok-res-2.res.kind _ (rw (c.user-user.ensures, c.slot.ensures, c.slots.ensures) at c.in_ok-res-2.ensures.keeps))
