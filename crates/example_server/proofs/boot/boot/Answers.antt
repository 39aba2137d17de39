use Rattle.example_server.proofs.Booting.{booted}
use Rattle.example_server.proofs.boot.boot.Goals as goal

pub returns-in-Went-clause-text : goal.returns-in-Went-clause-text
returns-in-Went-clause-text c = booted _ _ _ _ c.in_ok-session.ensures c.in-Went.ensures.told
