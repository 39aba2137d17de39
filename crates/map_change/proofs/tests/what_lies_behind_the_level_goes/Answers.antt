use Rattle.std.proofs.Common.{ap, arith}
use Rattle.mem_model.specs.Memory.{Memory}
use Rattle.res_table.proofs.Holding.{AreHeld-new}
use Rattle.map_change.proofs.tests.what_lies_behind_the_level_goes.Goals as goal

pub first_wrong-requires-clause-held : goal.first_wrong-requires-clause-held
first_wrong-requires-clause-held g c =
    let users = ap (λ (m : Memory). m.users) c.in_ok-store.ensures.ok in
    rw c.in_ok-table.ensures (AreHeld-new _ 11_025 _ (ap (λ (m : Memory). m.cache.blocks) c.in_ok-store.ensures.ok) (omega (arith, users)))
