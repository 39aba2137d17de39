use Rattle.std.proofs.Common.{Ok, refl, ◌∙◌, arith}
use Rattle.std.proofs.lemmas.List.{length-set}
use Rattle.mem_model.specs.Answer.{Answers}
use Rattle.mem_model.specs.declared.answers.Place.{Place}
use Rattle.cvar_table.specs.Cvars.{defaults, created}
use Rattle.cvar_table.specs.Told.{listed}
use Rattle.cvar_table.proofs.Creating.{created-none, created-more, created-stops, created-whole, laid_start}
use Rattle.cvar_table.proofs.CreatedLaws.{HoldsCvars-created, Laid-created}
use Rattle.cvar_table.proofs.Cvars.create.Goals as goal
use Rattle.cvar_table.proofs.Cvars.create.Goals.{After-loop-at}
use Rattle.cvar_table.proofs.Cvars.create.Given.{Over}

pub loop-at-init : goal.loop-at-init
loop-at-init g c = record { eight = refl; so_far = created-none _; beside = refl; same = λ none. refl; laid = λ low. absurd (omega arith) }

pub loop-at-preserved : goal.loop-at-preserved
loop-at-preserved g c = record {
  eight = omega (arith, c.loop-at.invariant.eight, length-set {A = Place});
  so_far = created-more _ _ _ defaults c.loop-at.places c.loop-at.at c.in-Ok.place _ c.loop-at.invariant.eight c.first_value.ensures c.loop-at.invariant.so_far c.in-Ok.ensures.gives;
  beside = c.in-Ok.ensures.beside ∙ c.loop-at.invariant.beside;
  same = λ none. absurd (omega arith);
  laid = λ low. laid_start _ _ c.loop-at.at c.loop-at.invariant.same c.loop-at.invariant.laid c.in-Ok.ensures.was_laid;
}

pub returns-in-Err-clause-gives : goal.returns-in-Err-clause-gives
returns-in-Err-clause-gives g c =
    created-stops _ _ _ defaults _ c.loop-at.at _ _ c.in-Err.error c.first_value.ensures c.loop-at.invariant.so_far c.in-Err.ensures.gives

pub returns-in-Err-clause-was_laid : goal.returns-in-Err-clause-was_laid
returns-in-Err-clause-was_laid g c = laid_start _ _ c.loop-at.at c.loop-at.invariant.same c.loop-at.invariant.laid c.in-Err.ensures.was_laid

-- all are created where the loop ends
whole : (g : Over) (c : After-loop-at g) → Answers (created (g.M.Store.state c.args.store.now) defaults) (Ok (listed defaults c.loop-at.places)) (g.M.Store.state c.loop-at.store)
whole g c = created-whole _ _ defaults c.loop-at.places c.loop-at.at c.loop-at.invariant.eight c.loop-at-test.false c.loop-at.invariant.so_far

pub returns-clause-gives : goal.returns-clause-gives
returns-clause-gives g c = (8, whole g c)

pub returns-clause-holds : goal.returns-clause-holds
returns-clause-holds g c =
    let all = whole g c in
    rw all.after (HoldsCvars-created _ defaults (listed defaults c.loop-at.places) (c.loop-at.invariant.laid (omega (arith, c.loop-at-test.false))) all.answer)

pub returns-clause-laid : goal.returns-clause-laid
returns-clause-laid g c = rw (whole g c).after (Laid-created _ defaults (c.loop-at.invariant.laid (omega (arith, c.loop-at-test.false))))
