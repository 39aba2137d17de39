use Rattle.std.proofs.Common.{◌≡◌}
use Rattle.info_text.proofs.wads.put_lump.Goals as goal

pub returns : goal.returns
returns g c =
    let number : c.from.result ≡ c.args.number = c.from.ensures in
    let kind : c.from-2.result ≡ c.args.row.now.kind = c.from-2.ensures in
    let size : c.from-3.result ≡ c.args.row.now.size = c.from-3.ensures in
    let compression : c.from-4.result ≡ c.args.row.now.compression = c.from-4.ensures in
    rw (number, kind, size, compression, c.deref.ensures.0, c.shown-name.ensures) at c.put_all.ensures
