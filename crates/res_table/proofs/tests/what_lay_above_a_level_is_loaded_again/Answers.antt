use Rattle.std.proofs.Common.{ap, arith}
use Rattle.mem_model.specs.Memory.{Memory}
use Rattle.res_table.proofs.Holding.{AreHeld-new}
use Rattle.res_table.proofs.tests.what_lay_above_a_level_is_loaded_again.Goals as goal

pub freed_between-requires : goal.freed_between-requires
freed_between-requires g c =
    let users = ap (λ (m : Memory). m.users) c.in_ok-store.ensures.ok in
    rw c.in_ok-table.ensures (AreHeld-new _ 11_025 _ (ap (λ (m : Memory). m.cache.blocks) c.in_ok-store.ensures.ok) (omega (arith, users)))
