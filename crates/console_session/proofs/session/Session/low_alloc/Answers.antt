use Rattle.std.proofs.Common.{refl}
use Rattle.console_session.proofs.session.Session.low_alloc.Goals as goal

pub returns-clause-rest : goal.returns-clause-rest
returns-clause-rest g c = rw (c.low_alloc.ensures.rest, ← c.self.view_is) refl
