use Rattle.std.proofs.Common.{[], rules}
use Rattle.mem_model.proofs.Keeping.{Keeps-all, Keeps-answer, Keeps-build_low, Keeps-gives, Keeps-low_alloc, Keeps-more, low_new-apart}
use Rattle.mem_model.proofs.tests.builds_low.Goals as goal

pub returns-in_default-clause-kept : goal.returns-in_default-clause-kept
returns-in_default-clause-kept g c = λ lows low.
    let given = c.low_alloc.ensures in
    Keeps-gives _ _ _ given.gives (Keeps-low_alloc lows [] _ _ _ given.was_laid (search rules)) (Keeps-all lows [] _)

pub returns-clause-kept : goal.returns-clause-kept
returns-clause-kept g c = λ lows low.
    let given = c.in-Ok.ensures in
    Keeps-more (Keeps-answer given.gives (Keeps-low_alloc lows [] _ _ _ given.was_laid (search rules)))
    (Keeps-answer c.build_low.ensures.gives (Keeps-build_low lows [] _ _ _ _ (low_new-apart _ _ _ _ lows given.was_laid given.gives.answer low)))
