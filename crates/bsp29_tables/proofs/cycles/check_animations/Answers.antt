use Rattle.std.proofs.Common.{◌<◌, length, sym, ◌∙◌, arith}
use Rattle.std.proofs.lemmas.Result.{err_from_is_err_and}
use Rattle.bsp29_tables.specs.Textures.{texture_offsets}
use Rattle.bsp29_tables.proofs.Checking.{passed_more, failed_here, passed_all}
use Rattle.bsp29_tables.proofs.Cutting.{length-texture_offsets}
use Rattle.bsp29_tables.proofs.TextureLaws.{texture_inside}
use Rattle.bsp29_tables.proofs.cycles.check_animations.Goals as goal

pub check_animation-requires : goal.check_animation-requires
check_animation-requires c =
    rw c.texture_offset.ensures (texture_inside c.args.lump.now c.loop-texture.texture c.requires.textures (omega arith))

pub returns-in_err-check_animation : goal.returns-in_err-check_animation
returns-in_err-check_animation c =
    let p = err_from_is_err_and c.from_residual.result c.from_residual.ensures.1 in
    let offsets = texture_offsets c.args.lump.now in
    let below : c.loop-texture.texture < length offsets = rw length-texture_offsets (omega arith) in
    rw (p.1, p.2)
    (sym (failed_here 0 _ c.loop-texture.invariant below
    (rw (← c.texture_offset.ensures) (sym c.check_animation.ensures ∙ c.in_err-check_animation.was))))

pub loop-texture-preserved : goal.loop-texture-preserved
loop-texture-preserved c =
    let offsets = texture_offsets c.args.lump.now in
    let below : c.loop-texture.texture < length offsets = rw length-texture_offsets (omega arith) in
    passed_more 0 c.loop-texture.invariant below
    (rw (← c.texture_offset.ensures) (sym c.check_animation.ensures ∙ c.in_ok-check_animation.was))

pub returns : goal.returns
returns c = sym (passed_all c.loop-texture.invariant (rw length-texture_offsets (omega arith)))
