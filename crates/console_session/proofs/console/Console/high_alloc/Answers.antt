use Rattle.console_session.specs.Serving.{seen}
use Rattle.console_session.proofs.Hosts.{host_high}
use Rattle.console_session.proofs.console.Console.high_alloc.Goals as goal

pub returns-clause-holds : goal.returns-clause-holds
returns-clause-holds g c =
    host_high (seen g.M.Store g.F.Folder c.args.self.now) _ c.args.size c.args.name.now g.M.Store.frugal _ c.requires.holds c.requires.name c.high_alloc.ensures.laid c.high_alloc.ensures.gives
