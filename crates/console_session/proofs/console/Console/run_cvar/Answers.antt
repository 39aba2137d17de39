use Rattle.std.proofs.Common.{List, ℕ, Option, ap, refl}
use Rattle.console_session.specs.Serving.{seen}
use Rattle.console_session.specs.Commands.{by_cvar, cvar_or_unknown}
use Rattle.console_session.proofs.Serving.{does_says}
use Rattle.console_session.proofs.console.Console.run_cvar.Goals as goal

pub returns-in-None : goal.returns-in-None
returns-in-None g c =
    let s = seen g.M.Store g.F.Folder c.args.self.now in
    let words = c.args.words.now in
    does_says g.M.Store g.F.Folder g.O.Sink c.args.self.now _ c.args.out.now _ _ (cvar_or_unknown words) _
    (ap (λ (o : Option (List ℕ)). by_cvar words o s) (rw c.word.ensures at c.in-None.ensures.value)) refl c.requires.holds (rw c.word-in-None.ensures at c.put_unknown.ensures)
