use Rattle.std.proofs.Common.{refl}
use Rattle.console_session.proofs.session.Session.temp_alloc.Goals as goal

pub returns-clause-rest : goal.returns-clause-rest
returns-clause-rest g c = rw (c.temp_alloc.ensures.rest, ← c.self.view_is) refl
