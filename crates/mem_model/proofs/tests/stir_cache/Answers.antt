use Rattle.std.proofs.Common.{◌≡◌, ◌∙◌, ap, refl}
use Rattle.mem_model.specs.Keeps.{beside_cache}
use Rattle.mem_model.proofs.CacheLaws.{after_gives, beside-cache_alloc, beside-check, beside-cache_free, beside-flush, low_bytes-beside_cache, temp_bytes-beside_cache, zone_bytes-beside_cache}
use Rattle.mem_model.proofs.tests.stir_cache.Goals as goal
use Rattle.mem_model.proofs.tests.stir_cache.Goals.{After-flush}
use Rattle.mem_model.proofs.tests.stir_cache.Given.{Over}

beside : (g : Over) (c : After-flush g) → beside_cache (g.M.Store.state c.flush.new.self) ≡ beside_cache (g.M.Store.state c.args.store.now)
beside g c =
    let m = g.M.Store.state c.args.store.now in
    ap beside_cache c.flush.ensures.gives.after ∙ beside-flush _
    ∙ ap beside_cache c.cache_free.ensures.gives.after ∙ beside-cache_free _ _
    ∙ ap beside_cache c.check.ensures.gives.after ∙ beside-check _ _
    ∙ after_gives (λ n. beside_cache n ≡ beside_cache m) _ _ _ _ _ c.cache_alloc.ensures.gives (beside-cache_alloc _ _ _ _) refl

pub returns-clause-low : goal.returns-clause-low
returns-clause-low g c = λ place. low_bytes-beside_cache _ _ place (beside g c)

pub returns-clause-temp : goal.returns-clause-temp
returns-clause-temp g c = temp_bytes-beside_cache _ _ (beside g c)

pub returns-clause-zone : goal.returns-clause-zone
returns-clause-zone g c = λ place. zone_bytes-beside_cache _ _ place (beside g c)
