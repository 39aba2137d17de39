use Rattle.std.proofs.Common.{refl}
use Rattle.console_session.proofs.session.Session.z_free.Goals as goal

pub returns-clause-rest : goal.returns-clause-rest
returns-clause-rest g c = rw (c.z_free.ensures.rest, ← c.self.view_is) refl
