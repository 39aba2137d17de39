use Rattle.std.proofs.lemmas.Result.{err_from_is_err_and}
use Rattle.console_session.specs.Serving.{seen}
use Rattle.console_session.proofs.Hosts.{host_freed}
use Rattle.console_session.proofs.console.Console.low_free.Goals as goal

pub returns-in_err-low_free-clause-freed : goal.returns-in_err-low_free-clause-freed
returns-in_err-low_free-clause-freed g c =
    let p = err_from_is_err_and c.from_residual.result c.from_residual.ensures.1 in
    rw (p.1, p.2) ((host_freed (seen g.M.Store g.F.Folder c.args.self.now) c.args.mark _ _ c.requires.holds c.if-mark-self.false c.in_err-low_free.ensures.gives).0)

pub returns-in_err-low_free-clause-holds : goal.returns-in_err-low_free-clause-holds
returns-in_err-low_free-clause-holds g c =
    (host_freed (seen g.M.Store g.F.Folder c.args.self.now) c.args.mark _ _ c.requires.holds c.if-mark-self.false c.in_err-low_free.ensures.gives).1

pub returns-clause-freed : goal.returns-clause-freed
returns-clause-freed g c =
    rw c.forget_low.ensures ((host_freed (seen g.M.Store g.F.Folder c.args.self.now) c.args.mark _ _ c.requires.holds c.if-mark-self.false c.in_ok-low_free.ensures.gives).0)

pub returns-clause-holds : goal.returns-clause-holds
returns-clause-holds g c =
    rw c.forget_low.ensures ((host_freed (seen g.M.Store g.F.Folder c.args.self.now) c.args.mark _ _ c.requires.holds c.if-mark-self.false c.in_ok-low_free.ensures.gives).1)
