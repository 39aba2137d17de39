use Rattle.console_session.specs.Serving.{seen}
use Rattle.console_session.proofs.Hosts.{host_temp}
use Rattle.console_session.proofs.console.Console.temp_alloc.Goals as goal

pub returns-clause-holds : goal.returns-clause-holds
returns-clause-holds g c =
    host_temp (seen g.M.Store g.F.Folder c.args.self.now) _ c.args.size g.M.Store.frugal _ c.requires.holds c.temp_alloc.ensures.laid c.temp_alloc.ensures.gives
