use Rattle.std.proofs.Common.{◌∙◌, ◌-◌, ◌≡◌, ◌++◌, length, take, replicate, ap, sym, arith}
use Rattle.mem_model.specs.Hunk.{over}
use Rattle.mem_model.proofs.Moving.{over_zeros}
use Rattle.mem_model.proofs.cells.CacheCell.filled.Goals as goal

pub returns : goal.returns
returns c =
    let long : length c.args.bytes.items ≡ c.args.bytes.len = omega (arith, c.args.bytes.ok.0) in
    let resized = rw (c.reserve_exact.ensures.items, c.reserve_exact.ensures.len) at c.in_ok-resize.ensures.items in
    let same : over (replicate (c.args.size - 40) 0) c.args.bytes.items ≡ c.resize.new.self.items =
    over_zeros (c.args.size - 40) c.args.bytes.items ∙ ap (λ k. take (c.args.size - 40) c.args.bytes.items ++ replicate ((c.args.size - 40) - k) 0) long ∙ sym resized in
    rw same c.holding.ensures
