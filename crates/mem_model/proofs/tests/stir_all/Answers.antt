use Rattle.std.proofs.Common.{[], rules}
use Rattle.mem_model.proofs.Keeping.{Keeps-all, Keeps-answer, Keeps-cache_free, Keeps-check, Keeps-gives, Keeps-high_alloc, Keeps-low_alloc, Keeps-more, Keeps-temp_alloc, Keeps-without_temp, Keeps-z_alloc, none_excepted, peek_bytes-Keeps}
use Rattle.mem_model.proofs.tests.stir_all.Goals as goal

pub returns-clause-kept : goal.returns-clause-kept
returns-clause-kept g c = λ lows.
    let low = c.low_alloc.ensures in
    let high = c.high_alloc.ensures in
    let temp = c.temp_alloc.ensures in
    let zone = c.z_alloc.ensures in
    let a = Keeps-gives _ _ _ low.gives (Keeps-low_alloc lows [] _ _ _ low.was_laid (search rules)) (Keeps-all lows [] _) in
    let b = Keeps-gives _ _ _ high.gives (Keeps-high_alloc lows [] _ _ _ high.was_laid (search rules)) (Keeps-without_temp lows [] _ high.was_laid) in
    let d = Keeps-gives _ _ _ temp.gives (Keeps-temp_alloc lows [] _ _ temp.was_laid) (Keeps-without_temp lows [] _ temp.was_laid) in
    let e = Keeps-gives _ _ _ zone.gives (Keeps-z_alloc lows [] _ _) (Keeps-all lows [] _) in
    let f = Keeps-answer c.check.ensures.gives (Keeps-check lows [] _ _ zone.laid) in
    Keeps-more (Keeps-more (Keeps-more (Keeps-more (Keeps-more a b) d) e) f) (Keeps-answer c.cache_free.ensures.gives (Keeps-cache_free lows [] _ _ c.check.ensures.laid))

pub returns-clause-bytes : goal.returns-clause-bytes
returns-clause-bytes g c = λ other bytes. peek_bytes-Keeps [] [] _ _ other bytes (returns-clause-kept g c []) (none_excepted other)
