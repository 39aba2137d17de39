use Rattle.std.proofs.Common.{◌≡◌, ◌<◌, ◌-◌, ◌+◌, ◌/◌, length, ℤ, IfSome, sym, ◌∙◌, subst, rules, arith}
use Rattle.std.specs.Int.{w16}
use Rattle.std.specs.Int.RustNames.{FitsSigned}
use Rattle.std.proofs.lemmas.Int.{to_z-of_z}
use Rattle.bsp29_build.specs.Parents.{HasRows, child_size, number_in, PutsParents}
use Rattle.bsp29_build.proofs.ChildLaws.{front_among, back_among}
use Rattle.bsp29_build.proofs.ParentLaws.{only_of, IsParented, parented_none, parented_more, parented_all}
use Rattle.bsp29_build.proofs.parents.put_parents.Goals as goal

pub loop-n-init : goal.loop-n-init
loop-n-init c = parented_none c.args.kind c.args.nodes.now c.args.out.now

pub put_parent-requires : goal.put_parent-requires
put_parent-requires c =
    let kind = c.args.kind in
    let nodes = c.args.nodes.now in
    let n = c.loop-n.n - 1 in
    let count = length c.loop-n.out / (child_size kind + 4) in
    let lt : n < length nodes / 24 = omega (arith, c.loop-n.auto.n) in
    let has : HasRows kind nodes count = rw c.loop-n.auto.out c.requires.children in
    let child = c.i16_at.result in
    let fits : FitsSigned w16 child = search rules in
    let is = to_z-of_z w16 child fits ∙ c.i16_at.ensures in
    subst (λ (z : ℤ). IfSome (number_in kind z) (λ k. k < count)) (sym is) (front_among kind nodes count n has lt)

pub put_parent-requires-in-loop-n : goal.put_parent-requires-in-loop-n
put_parent-requires-in-loop-n c =
    let kind = c.args.kind in
    let nodes = c.args.nodes.now in
    let n = c.loop-n.n - 1 in
    let count = length c.put_parent.new.out / (child_size kind + 4) in
    let lt : n < length nodes / 24 = omega (arith, c.loop-n.auto.n) in
    let same : length c.put_parent.new.out ≡ length c.args.out.now = c.put_parent.auto.out ∙ c.loop-n.auto.out in
    let has : HasRows kind nodes count = rw same c.requires.children in
    let child = c.i16_at-in-loop-n.result in
    let fits : FitsSigned w16 child = search rules in
    let is = to_z-of_z w16 child fits ∙ c.i16_at-in-loop-n.ensures in
    subst (λ (z : ℤ). IfSome (number_in kind z) (λ k. k < count)) (sym is) (back_among kind nodes count n has lt)

pub loop-n-preserved : goal.loop-n-preserved
loop-n-preserved c =
    let kind = c.args.kind in
    let size = child_size kind in
    let nodes = c.args.nodes.now in
    let n = c.loop-n.n - 1 in
    let none = c.loop-n.out in
    let one = c.put_parent.new.out in
    let two = c.put_parent-in-loop-n.new.out in
    let lt : n < length nodes / 24 = omega (arith, c.loop-n.auto.n) in
    let last : c.loop-n.n ≡ n + 1 = omega arith in
    let so : IsParented kind nodes c.args.out.now none (n + 1) = rw last at c.loop-n.invariant in
    let front_fits : FitsSigned w16 c.i16_at.result = search rules in
    let back_fits : FitsSigned w16 c.i16_at-in-loop-n.result = search rules in
    let front_is = to_z-of_z w16 c.i16_at.result front_fits ∙ c.i16_at.ensures in
    let back_is = to_z-of_z w16 c.i16_at-in-loop-n.result back_fits ∙ c.i16_at-in-loop-n.ensures in
    parented_more one two n so lt c.loop-n.auto.out (c.put_parent.auto.out ∙ c.loop-n.auto.out)
    (subst (λ (z : ℤ). PutsParents size (only_of kind z n) none one) front_is c.put_parent.ensures)
    (subst (λ (z : ℤ). PutsParents size (only_of kind z n) one two) back_is c.put_parent-in-loop-n.ensures)

pub returns : goal.returns
returns c =
    let done : c.loop-n.n ≡ 0 = omega arith in
    parented_all (rw done at c.loop-n.invariant)
