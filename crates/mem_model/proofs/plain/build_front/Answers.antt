use Rattle.std.proofs.Common.{◌≡◌, length, sym}
use Rattle.mem_model.proofs.Laying.{over_front}
use Rattle.mem_model.proofs.plain.build_front.Goals as goal

pub returns : goal.returns
returns g c =
    let image = c.build.new.block in
    let size : c.length-size.result ≡ length image = rw c.build.ensures at c.length-size.ensures in
    rw (c.build.ensures, size) (sym (over_front c.args.bytes.now image (rw c.build.ensures at c.requires.image)))
