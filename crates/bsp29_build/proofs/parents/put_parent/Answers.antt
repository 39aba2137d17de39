use Rattle.std.proofs.Common.{◌≡◌, ◌<◌, ◌/◌, ◌+◌, length, Some, sym, rules}
use Rattle.std.specs.Int.{w16}
use Rattle.std.specs.Int.RustNames.{FitsSigned}
use Rattle.std.proofs.lemmas.Int.{to_z-of_z}
use Rattle.bsp29_build.specs.Parents.{child_size, number_in}
use Rattle.bsp29_build.proofs.ParentLaws.{puts_one}
use Rattle.bsp29_build.proofs.parents.put_parent.Goals as goal

pub returns-in-Some : goal.returns-in-Some
returns-in-Some c =
    let kind = c.args.kind in
    let child = c.args.child in
    let fits : FitsSigned w16 child = search rules in
    let is : number_in kind child ≡ Some c.in-Some.number =
    rw (to_z-of_z w16 child fits) at (sym c.in-Some.ensures) in
    let below : c.in-Some.number < length c.args.out.now / (child_size kind + 4) = rw is at c.requires in
    rw (c.put_u32.ensures, c.size-size.ensures.size)
    (puts_one kind c.args.out.now c.in-Some.number c.args.parent child below is)
