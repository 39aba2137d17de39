use Rattle.std.proofs.Common.{arith}
use Rattle.sprite_load.proofs.FrameLaws.{picture_more}
use Rattle.sprite_load.proofs.sizes.skip_pictures.Goals as goal

pub loop-preserved : goal.loop-preserved
loop-preserved c =
    let p = c.in_ok-picture.picture in
    record {
      same = picture_more c.args.row c.loop.pixels c.args.count c.loop.counter c.loop.rest.now (record { head = p.head.now; pixels = p.pixels.now }) c.in_ok-picture.after.now _ c.loop-test.true c.in_ok-picture.ensures.value c.loop.invariant.same;
      room = omega (arith, c.in_ok-picture.ensures.taken);
    }
