use Rattle.std.proofs.Common.{arith, refl}
use Rattle.console_session.proofs.tests.session.Goals as goal

pub start-requires : goal.start-requires
start-requires c = record {
  new = record { size = 1048576; zone = 49152; event_room = 0; is = c.in_ok-store.ensures.ok; large = omega arith };
  empty = rw c.in_ok-table.ensures refl;
}
