use Rattle.console_session.specs.Serving.{seen}
use Rattle.console_session.proofs.Hosts.{host_high_mark}
use Rattle.console_session.proofs.console.Console.high_mark.Goals as goal

pub returns-clause-holds : goal.returns-clause-holds
returns-clause-holds g c =
    host_high_mark (seen g.M.Store g.F.Folder c.args.self.now) _ _ c.requires.holds c.high_mark.ensures.laid c.high_mark.ensures.gives
