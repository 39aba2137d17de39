use Rattle.std.proofs.Common.{◌≡◌, ◌∙◌, ◌<◌, ◌≤◌, [], ◌∷◌, List, ℕ, ap, sym, subst, rules, arith}
use Rattle.std.specs.Prelude.{All}
use Rattle.mem_model.specs.Memory.{Memory}
use Rattle.mem_model.specs.Hunk.{low_bytes}
use Rattle.mem_model.specs.Images.{HasBytes}
use Rattle.mem_model.specs.Keeps.{AreLow, Keeps}
use Rattle.mem_model.proofs.CacheLaws.{after_gives, beside-cache_alloc, low_bytes-beside_cache, users-build_low, users-low_alloc}
use Rattle.mem_model.proofs.Keeping.{Keeps-all, Keeps-answer, Keeps-build_low, Keeps-cache_alloc, Keeps-copy_low_to_cache, Keeps-gives, Keeps-low_alloc, Keeps-low_free, Keeps-more, is_excepted, low-below_end, low_new-apart}
use Rattle.mem_model.proofs.Laws.{has-build_low, has-low_new}
use Rattle.mem_model.proofs.tests.builds_through_low.Given.{Over}
use Rattle.mem_model.proofs.tests.builds_through_low.Goals as goal
use Rattle.mem_model.proofs.tests.builds_through_low.Goals.{After-cache_alloc}

pub returns-in_default : goal.returns-in_default
returns-in_default g c = record {
  kept = λ lows low.
      let given = c.low_alloc.ensures in
      Keeps-gives _ _ _ given.gives (Keeps-low_alloc lows (c.args.user ∷ []) _ _ _ given.was_laid (search rules)) (Keeps-all lows (c.args.user ∷ []) _);
}

-- up to the new block of the user
stored : (g : Over) (c : After-cache_alloc g) (lows : List ℕ) → AreLow (g.M.Store.state c.args.store.now) lows → Keeps lows (c.args.user ∷ []) (g.M.Store.state c.args.store.now) (g.M.Store.state c.cache_alloc.new.self)
stored g c lows low =
    let user = c.args.user ∷ [] in
    let given = c.in-Ok.ensures in
    let built = c.build_low.ensures in
    let users : (g.M.Store.state c.build_low.new.self).users ≡ (g.M.Store.state c.args.store.now).users =
    ap (λ (m : Memory). m.users) built.gives.after ∙ users-build_low _ _ _ _ ∙ ap (λ (m : Memory). m.users) given.gives.after ∙ users-low_alloc _ _ _ in
    let known : c.args.user < (g.M.Store.state c.build_low.new.self).users = rw users c.requires.user in
    Keeps-more (Keeps-answer given.gives (Keeps-low_alloc lows user _ _ _ given.was_laid (search rules)))
    (Keeps-more (Keeps-answer built.gives (Keeps-build_low lows user _ _ _ _ (low_new-apart _ _ _ _ lows given.was_laid given.gives.answer low)))
    (Keeps-gives _ _ _ c.cache_alloc.ensures.gives (Keeps-cache_alloc lows user _ _ _ _ built.laid known (search rules) (is_excepted c.args.user)) (Keeps-all lows user _)))

pub copy_low_to_cache-requires-clause-low : goal.copy_low_to_cache-requires-clause-low
copy_low_to_cache-requires-clause-low g c =
    let given = c.in-Ok.ensures in
    let size = c.in_ok-size.size in
    let P = λ (m : Memory). HasBytes (low_bytes m c.in-Ok.place.0) size in
    let new = subst P (sym given.gives.after) (has-low_new _ size c.in-Ok.place.0 size _ given.was_laid given.gives.answer (omega arith)) in
    let built = subst P (sym c.build_low.ensures.gives.after) (has-build_low _ c.in-Ok.place.0 c.in-Ok.place.0 _ size _ new) in
    after_gives P _ _ _ _ _ c.cache_alloc.ensures.gives (subst (λ o. HasBytes o size) (sym (low_bytes-beside_cache _ _ c.in-Ok.place.0 (beside-cache_alloc _ _ _ _))) built) built

below : (g : Over) (c : After-cache_alloc g) (lows : List ℕ) → AreLow (g.M.Store.state c.args.store.now) lows → All (λ place. place ≤ c.low_mark-mark.result) lows
below g c lows low = subst (λ n. All (λ place. place ≤ n) lows) (sym c.low_mark-mark.ensures.mark) (low-below_end _ lows c.low_mark-mark.ensures.laid low)

pub returns-then-is_err : goal.returns-then-is_err
returns-then-is_err g c = record {
  kept = λ lows low.
      let d = (goal.at.returns-then-is_err g c).After-cache_alloc in
      Keeps-more (stored g d lows low) (Keeps-answer c.low_free.ensures.gives (Keeps-low_free lows (c.args.user ∷ []) _ _ c.cache_alloc.ensures.laid (below g d lows low)));
}

pub returns : goal.returns
returns g c = record {
  kept = λ lows low.
      let d = (goal.at.returns g c).After-cache_alloc in
      let user = c.args.user ∷ [] in
      Keeps-more (stored g d lows low)
      (Keeps-more (Keeps-answer c.copy_low_to_cache.ensures.gives (Keeps-copy_low_to_cache lows user _ _ _ _ (is_excepted c.args.user)))
      (Keeps-answer c.low_free-2.ensures.gives (Keeps-low_free lows user _ _ c.copy_low_to_cache.ensures.laid (below g d lows low))));
}
