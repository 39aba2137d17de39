use Rattle.console_session.specs.Serving.{seen}
use Rattle.console_session.proofs.Hosts.{host_z_alloc, zone_own}
use Rattle.console_session.proofs.console.Console.z_alloc.Goals as goal

pub returns-clause-own : goal.returns-clause-own
returns-clause-own g c =
    zone_own (seen g.M.Store g.F.Folder c.args.self.now) _ c.args.size g.M.Store.frugal c.z_alloc.result c.requires.holds c.z_alloc.ensures.gives

pub returns-clause-holds : goal.returns-clause-holds
returns-clause-holds g c =
    host_z_alloc (seen g.M.Store g.F.Folder c.args.self.now) _ c.args.size c.requires.holds g.M.Store.frugal _ c.z_alloc.ensures.laid c.z_alloc.ensures.gives
