use Rattle.std.proofs.Common.{rules, ◌≡◌, ◌+◌, ◌-◌, ◌≤◌, length, refl, arith}
use Rattle.std.specs.Prelude.{◌==◌, slice_get, None, false}
use Rattle.std.proofs.lemmas.Bool.Decides.{nat_tests}
use Rattle.std.proofs.lemmas.Option.{slice_get_past}
use Rattle.bsp29_tables.specs.Textures.{texture_offsets, missing, HasTexture}
use Rattle.bsp29_tables.proofs.Cutting.{length-texture_offsets}
use Rattle.bsp29_build.specs.Rows.{texture_kind}
use Rattle.bsp29_build.proofs.TextureLaws.{is_there, offset_there, offset_told}
use Rattle.bsp29_build.proofs.faces.texture_kind.Goals as goal

pub returns-then-texture-texture_count : goal.returns-then-texture-texture_count
unfolding texture_kind
returns-then-texture-texture_count c =
    let offsets = texture_offsets c.args.textures.now in
    let past : slice_get offsets c.args.texture ≡ None =
    slice_get_past offsets c.args.texture (rw (length-texture_offsets, ← c.texture_count.ensures.count) (omega arith)) in
    rw past refl

pub returns-then-at : goal.returns-then-at
unfolding texture_kind
returns-then-at c =
    rw (offset_told c.args.textures.now c.args.texture (omega arith), ← c.texture_offset-at.ensures, c.if-at.true) refl

pub slice_bounds-kind_named-end : goal.slice_bounds-kind_named-end
slice_bounds-kind_named-end c =
    let has : HasTexture c.args.textures.now c.texture_offset-at.result =
    rw c.texture_offset-at.ensures (offset_there c.args.textures.now c.args.texture c.requires (omega arith)) in
    let there = is_there c.args.textures.now c.texture_offset-at.result has c.if-at.false in
    let enough : c.texture_offset-at.result + 16 ≤ length c.args.textures.now = omega (arith, there.room) in
    search rules

pub returns : goal.returns
unfolding texture_kind
returns c =
    let at = c.texture_offset-at.result in
    let width : at + 16 - at ≡ 16 = omega arith in
    let some : (at == missing) ≡ false = grind (arith, nat_tests, c.if-at.false) in
    rw (offset_told c.args.textures.now c.args.texture (omega arith), ← c.texture_offset-at.ensures, some)
    (rw width at c.kind_named.ensures)
