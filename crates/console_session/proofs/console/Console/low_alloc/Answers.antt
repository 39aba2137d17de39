use Rattle.console_session.specs.Serving.{seen}
use Rattle.console_session.proofs.Hosts.{host_low, low_own}
use Rattle.console_session.proofs.console.Console.low_alloc.Goals as goal

pub returns-clause-own : goal.returns-clause-own
returns-clause-own g c =
    low_own (seen g.M.Store g.F.Folder c.args.self.now) _ c.args.size c.args.name.now g.M.Store.frugal c.low_alloc.result c.requires.holds c.low_alloc.ensures.gives

pub returns-clause-holds : goal.returns-clause-holds
returns-clause-holds g c =
    host_low (seen g.M.Store g.F.Folder c.args.self.now) _ c.args.size c.args.name.now g.M.Store.frugal _ c.requires.holds c.requires.name c.low_alloc.ensures.laid c.low_alloc.ensures.gives
