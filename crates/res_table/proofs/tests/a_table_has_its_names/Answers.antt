use Rattle.std.proofs.Common.{ap, arith}
use Rattle.mem_model.specs.Memory.{Memory}
use Rattle.res_table.proofs.Holding.{AreHeld-new}
use Rattle.res_table.proofs.tests.a_table_has_its_names.Goals as goal

pub first_refused-requires : goal.first_refused-requires
first_refused-requires g c =
    let users = ap (λ (m : Memory). m.users) c.in_ok-store.ensures.ok in
    rw c.in_ok-table.ensures (AreHeld-new _ 11_025 _ (ap (λ (m : Memory). m.cache.blocks) c.in_ok-store.ensures.ok) (omega (arith, users)))
