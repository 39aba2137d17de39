use Rattle.console_session.specs.Serving.{seen}
use Rattle.console_session.proofs.Hosts.{host_high_free}
use Rattle.console_session.proofs.console.Console.high_free.Goals as goal

pub returns-clause-holds : goal.returns-clause-holds
returns-clause-holds g c =
    host_high_free (seen g.M.Store g.F.Folder c.args.self.now) _ c.args.mark _ c.requires.holds c.high_free.ensures.laid c.high_free.ensures.gives
