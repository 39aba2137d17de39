use Rattle.std.proofs.Common.{Some, ap, arith}
use Rattle.example_server.proofs.Booting.{has_started, mounted_is}
use Rattle.example_server.proofs.boot.start.Goals as goal

pub start-requires-clause-new : goal.start-requires-clause-new
start-requires-clause-new c = record { size = 1048576; zone = 49152; event_room = 0; is = c.in_ok-store.ensures.ok; large = omega arith }

pub returns : goal.returns
returns c =
    has_started _ _ _ _ c.in_ok-start.ensures.going c.in_ok-start.ensures.state c.in_ok-store.ensures.ok (ap (λ table. table.speed) c.in_ok-table.ensures)
    (mounted_is _ _ _ _ c.in_ok-paths.ensures (ap Some c.in_ok-game_folder.ensures) c.in_ok-mount.ensures.mounted)
