use Rattle.std.proofs.Common.{refl}
use Rattle.console_session.proofs.session.Session.high_mark.Goals as goal

pub returns-clause-rest : goal.returns-clause-rest
returns-clause-rest g c = rw (c.high_mark.ensures.rest, ← c.self.view_is) refl
