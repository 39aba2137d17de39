use Rattle.sprite_load.specs.Images.{image_of}
use Rattle.sprite_load.proofs.SpriteLaws.{header_refused, is_read, body_refused, refuted}
use Rattle.sprite_load.proofs.Joining.{room_is, image_made}
use Rattle.sprite_load.proofs.builder.put_image.Goals as goal

pub unreachable-requires : goal.unreachable-requires
unreachable-requires c = refuted (image_of c.args.source.now) _ _ (header_refused c.args.source.now c.in-Err.field-0 c.in-Err.ensures.value) c.requires.image

pub unreachable-requires-in-Err-measure_frames : goal.unreachable-requires-in-Err-measure_frames
unreachable-requires-in-Err-measure_frames c =
    refuted (image_of c.args.source.now) _ _ (body_refused c.args.source.now c.in-Ok.read.0.now c.in-Ok.read.1.now c.u32_at-count.result c.in-Err-measure_frames.field-0 c.in-Ok.ensures.value c.u32_at-count.ensures c.in-Err-measure_frames.ensures.value) c.requires.image

pub put_parts-requires-clause-sized : goal.put_parts-requires-clause-sized
put_parts-requires-clause-sized c =
    let m = c.in-Ok-measure_frames.measured in
    let r = is_read c.args.source.now c.in-Ok.read.0.now c.in-Ok.read.1.now c.u32_at-count.result m.0 _ c.in-Ok.ensures.value c.u32_at-count.ensures c.in-Ok-measure_frames.ensures.value in
    room_is c.args.source.now c.in-Ok.read.0.now c.in-Ok.read.1.now m.0 c.u32_at-count.result _ r c.requires.image

pub returns : goal.returns
returns c =
    let m = c.in-Ok-measure_frames.measured in
    let r = is_read c.args.source.now c.in-Ok.read.0.now c.in-Ok.read.1.now c.u32_at-count.result m.0 _ c.in-Ok.ensures.value c.u32_at-count.ensures c.in-Ok-measure_frames.ensures.value in
    image_made c.args.source.now c.in-Ok.read.0.now c.in-Ok.read.1.now m.0 c.u32_at-count.result _ r c.put_parts.ensures
