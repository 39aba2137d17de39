use Rattle.console_session.specs.Serving.{seen}
use Rattle.console_session.proofs.Hosts.{host_z_free}
use Rattle.console_session.proofs.console.Console.z_free.Goals as goal

pub returns-clause-holds : goal.returns-clause-holds
returns-clause-holds g c =
    host_z_free (seen g.M.Store g.F.Folder c.args.self.now) _ c.args.place.0 _ c.requires.holds c.requires.own c.z_free.ensures.laid c.z_free.ensures.gives
