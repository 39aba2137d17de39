use Rattle.std.proofs.Common.{◌≡◌, ◌-◌, ◌+◌, ◌*◌, ◌/◌, length, sym, ◌∙◌, arith}
use Rattle.std.proofs.lemmas.List.{length-take, length-drop}
use Rattle.bsp29_build.specs.declared.parents.ChildKind.TheVariants.{Leaf}
use Rattle.bsp29_build.proofs.RowEdits.{IsWritten, written_more, written_all}
use Rattle.bsp29_build.proofs.ChildLaws.{front_among, back_among}
use Rattle.bsp29_build.proofs.HullLaws.{clipnode_at, hull_rows_by_number}
use Rattle.bsp29_build.proofs.hull.put_hull.Goals as goal

pub put_clipnode-requires-clause-front : goal.put_clipnode-requires-clause-front
put_clipnode-requires-clause-front c =
    let count = length c.args.leafs.now / 28 in
    front_among Leaf c.args.nodes.now count c.loop-n.n c.requires.children c.loop-n-test.true

pub put_clipnode-requires-clause-back : goal.put_clipnode-requires-clause-back
put_clipnode-requires-clause-back c =
    let count = length c.args.leafs.now / 28 in
    back_among Leaf c.args.nodes.now count c.loop-n.n c.requires.children c.loop-n-test.true

pub loop-n-preserved : goal.loop-n-preserved
loop-n-preserved c =
    let n = c.loop-n.n in
    let width : n * 24 + 24 - n * 24 ≡ 24 = omega arith in
    let is : c.put_clipnode.new.out ≡ clipnode_at c.args.leafs.now c.args.nodes.now n =
    rw width at c.put_clipnode.ensures in
    let long : length c.put_clipnode.new.out ≡ 8 =
    c.put_clipnode.auto.out ∙ simp (length-take, length-drop) (omega (arith, c.loop-n.auto.out)) in
    written_more c.put_clipnode.new.out c.loop-n.invariant is long (omega (arith, c.loop-n.auto.out))

pub returns : goal.returns
returns c =
    let nodes = c.args.nodes.now in
    let leafs = c.args.leafs.now in
    let done : c.loop-n.n ≡ length nodes / 24 = omega (arith, c.loop-n.auto.n-end) in
    let all : IsWritten (clipnode_at leafs nodes) 8 c.loop-n.out (length nodes / 24) = rw done at c.loop-n.invariant in
    written_all all (omega (arith, c.loop-n.auto.out)) ∙ sym (hull_rows_by_number nodes leafs)
