use Rattle.std.proofs.Common.{refl}
use Rattle.console_session.specs.Serving.{seen}
use Rattle.console_session.specs.Commands.{make_alias}
use Rattle.console_session.proofs.Holding.{holds_aliases}
use Rattle.console_session.proofs.Serving.{does_alias}
use Rattle.console_session.proofs.Valuing.{word_text, value_text}
use Rattle.console_session.proofs.console.Console.make_alias.Goals as goal

pub set-set-requires-clause-texts : goal.set-set-requires-clause-texts
set-set-requires-clause-texts g c = (rw c.word.ensures (word_text c.args.words.now 1 c.requires.short.texts), rw (c.as_slice.ensures.value, c.value_of-value.ensures) (value_text c.args.words.now c.requires.short.texts))

pub returns : goal.returns
returns g c =
    let s = seen g.M.Store g.F.Folder c.args.self.now in
    does_alias g.M.Store g.F.Folder g.O.Sink c.args.self.now _ c.args.out.now _ _ (make_alias c.args.words.now) _ c.set-set.result refl
    (rw (c.word.ensures, c.as_slice.ensures.value, c.value_of-value.ensures) at c.set-set.ensures.gives) refl refl
    (holds_aliases s _ _ c.requires.holds (c.set-set.ensures.laid c.requires.holds.laid) c.set-set.ensures.beside c.set-set.ensures.holds c.set-set.ensures.others) c.put_alias_set.ensures
