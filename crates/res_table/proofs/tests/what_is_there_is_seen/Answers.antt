use Rattle.std.proofs.Common.{ap, arith}
use Rattle.mem_model.specs.Memory.{Memory}
use Rattle.res_table.proofs.Holding.{AreHeld-new}
use Rattle.res_table.proofs.tests.what_is_there_is_seen.Goals as goal

pub first_unlike-requires : goal.first_unlike-requires
first_unlike-requires g c =
    let users = ap (λ (m : Memory). m.users) c.in_ok-store.ensures.ok in
    rw c.in_ok-table.ensures (AreHeld-new _ 11_025 _ (ap (λ (m : Memory). m.cache.blocks) c.in_ok-store.ensures.ok) (omega (arith, users)))
