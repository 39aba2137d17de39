use Rattle.bsp29_build.proofs.ParentLaws.{parents_put}
use Rattle.bsp29_build.proofs.parents.put_children.Goals as goal

pub returns : goal.returns
returns c =
    parents_put c.args.kind c.args.nodes.now c.args.table.now c.put_rows.new.out c.put_parents.new.out
    (rw c.size.ensures.size at c.put_rows.ensures) c.put_parents.auto.out c.put_parents.ensures
