use Rattle.std.proofs.Common.{rules, ◌≡◌, ◌+◌, ◌-◌, ◌*◌, ◌≤◌, length, ap, ◌∙◌, arith}
use Rattle.base_fields.specs.Fields.{field}
use Rattle.bsp29_build.specs.Readers.{texture_in}
use Rattle.bsp29_build.proofs.ReaderLaws.{texture_inside}
use Rattle.bsp29_build.proofs.readers.texture.Goals as goal

pub slice_bounds-read_texture-end : goal.slice_bounds-read_texture-end
slice_bounds-read_texture-end c =
    let inside = texture_inside c.args.image.now c.args.number c.requires.image c.requires.below in
    let enough : c.offset.result + 68 * c.args.number + 68 ≤ length c.args.image.now =
    omega (arith, inside, c.offset.ensures.place) in
    search rules

pub returns : goal.returns
returns c =
    let start = c.offset.result + 68 * c.args.number in
    let width : start + 68 - start ≡ 68 = omega arith in
    rw width at c.read_texture.ensures
    ∙ ap (λ place. texture_in (field 68 c.args.image.now (place + 68 * c.args.number))) c.offset.ensures.place
