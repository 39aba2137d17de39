use Rattle.std.proofs.Common.{refl}
use Rattle.console_session.specs.Serving.{seen}
use Rattle.console_session.specs.Commands.{make_cvar}
use Rattle.console_session.proofs.Holding.{holds_cvars}
use Rattle.console_session.proofs.Serving.{does_cvar}
use Rattle.console_session.proofs.console.Console.make_cvar.Goals as goal

pub returns : goal.returns
returns g c =
    let s = seen g.M.Store g.F.Folder c.args.self.now in
    does_cvar g.M.Store g.F.Folder g.O.Sink c.args.self.now _ c.args.out.now _ _ (make_cvar c.args.words.now) _ s.memory c.set-set.result refl
    (rw (c.word.ensures, c.word-2.ensures) at c.set-set.ensures.gives) (rw (c.word.ensures, c.word-2.ensures) at c.set-set.ensures.cvars) refl refl
    (holds_cvars s _ _ c.requires.holds (c.set-set.ensures.laid c.requires.holds.laid) c.set-set.ensures.beside c.set-set.ensures.holds c.set-set.ensures.others) c.put_cvar_set.ensures
