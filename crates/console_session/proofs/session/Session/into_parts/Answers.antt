use Rattle.std.proofs.Common.{refl}
use Rattle.console_session.proofs.session.Session.into_parts.Goals as goal

pub returns-clause-path : goal.returns-clause-path
returns-clause-path g c = rw (← c.self.view_is, c.into_parts.ensures.paths) refl
