use Rattle.console_session.specs.Serving.{seen}
use Rattle.console_session.proofs.Holding.{holds_cvars}
use Rattle.console_session.proofs.console.Console.set_cvar.Goals as goal

pub returns-clause-holds : goal.returns-clause-holds
returns-clause-holds g c =
    holds_cvars (seen g.M.Store g.F.Folder c.args.self.now) _ _ c.requires.holds (c.set.ensures.laid c.requires.holds.laid) c.set.ensures.beside c.set.ensures.holds c.set.ensures.others
