use Rattle.std.proofs.Common.{◌≢◌, [], ◌∷◌, arith}
use Rattle.std.proofs.lemmas.List.Elements.{All-cons, All-nil}
use Rattle.mem_model.specs.Laid.{IsText}
use Rattle.mem_model.proofs.Keeping.{Keeps-all, Keeps-gives, Keeps-low_alloc}
use Rattle.res_table.specs.Held.{lows_of}
use Rattle.res_table.proofs.Holding.{AreHeld-Keeps}
use Rattle.map_change.proofs.Marking.{mark_below, mark_given}
use Rattle.map_change.proofs.tests.answer.Goals as goal

text : IsText (120 ∷ [])
text = All-cons (λ byte. byte ≢ 0) 120 [] (λ e. omega (arith, e)) (All-nil (λ byte. byte ≢ 0))

pub returns-in_ok-name-in-Model-clause-level : goal.returns-in_ok-name-in-Model-clause-level
returns-in_ok-name-in-Model-clause-level g c =
    let low = c.acquire.ensures.low in
    rw low.1 (mark_below _ low.0 c.args.level c.requires.level)

pub returns-in-Reserve-clause-held : goal.returns-in-Reserve-clause-held
returns-in-Reserve-clause-held g c =
    let lows = lows_of c.args.table.now in
    AreHeld-Keeps _ c.args.table.now (g.M.Store.state c.args.store.now) _ c.requires.held
    (Keeps-gives _ _ _ c.low_alloc.ensures.gives (Keeps-low_alloc lows [] _ 100 (120 ∷ []) c.requires.laid text) (Keeps-all lows [] _))

pub returns-in-Reserve-clause-level : goal.returns-in-Reserve-clause-level
returns-in-Reserve-clause-level g c = mark_given _ _ 100 c.args.level (120 ∷ []) _ _ c.low_alloc.ensures.gives c.requires.level
