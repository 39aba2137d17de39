use Rattle.std.proofs.Common.{refl}
use Rattle.res_table.proofs.Rows.{is_added}
use Rattle.res_table.proofs.slots.Slots.add.Goals as goal

pub invariant_of-self : goal.invariant_of-self
invariant_of-self c =
    let added = is_added c.self.inside.most c.self.inside.names c.insert.new.self c.args.name.now c.args.loaded c.insert.result (rw (← c.self.view_is) at c.requires.new) (rw (← c.self.view_is) at c.requires.room) c.self.invariant.1 c.insert.ensures.succeeds (rw c.copied.ensures at c.insert.ensures.entries) c.insert.ensures.spare in
    (added.fits, added.room)

pub returns : goal.returns
returns c =
    let added = is_added c.self.inside.most c.self.inside.names c.insert.new.self c.args.name.now c.args.loaded c.insert.result (rw (← c.self.view_is) at c.requires.new) (rw (← c.self.view_is) at c.requires.room) c.self.invariant.1 c.insert.ensures.succeeds (rw c.copied.ensures at c.insert.ensures.entries) c.insert.ensures.spare in
    rw (added.rows, ← c.self.view_is) refl
