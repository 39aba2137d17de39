use Rattle.std.proofs.Common.{◌≡◌, ◌∙◌, ◌+◌, ◌<◌, ◌≤◌, [], ◌∷◌, ap, sym, subst, rules, arith}
use Rattle.std.specs.Prelude.{All}
use Rattle.mem_model.specs.Memory.{Memory}
use Rattle.mem_model.specs.Hunk.{low_bytes}
use Rattle.mem_model.specs.Images.{HasBytes}
use Rattle.mem_model.proofs.CacheLaws.{users-build_low, users-low_alloc}
use Rattle.mem_model.proofs.Keeping.{Keeps-all, Keeps-answer, Keeps-build_low, Keeps-gives, Keeps-low_alloc, Keeps-low_free, Keeps-more, Keeps-move_low_to_cache, is_excepted, low-below_end, low_new-apart}
use Rattle.mem_model.proofs.Laws.{has-build_low, has-low_new, low-low_alloc}
use Rattle.mem_model.proofs.tests.moves_through_low.Goals as goal

pub returns-in_default : goal.returns-in_default
returns-in_default g c = record {
  kept = λ lows low.
      let given = c.low_alloc.ensures in
      Keeps-gives _ _ _ given.gives (Keeps-low_alloc lows (c.args.user ∷ []) _ _ _ given.was_laid (search rules)) (Keeps-all lows (c.args.user ∷ []) _);
}

pub move_low_to_cache-requires-clause-low : goal.move_low_to_cache-requires-clause-low
move_low_to_cache-requires-clause-low g c =
    let given = c.in-Ok.ensures in
    let size = c.in_ok-size.size in
    let P = λ (m : Memory). HasBytes (low_bytes m c.in-Ok.place.0) size in
    let new = subst P (sym given.gives.after) (has-low_new _ size c.in-Ok.place.0 size _ given.was_laid given.gives.answer (omega arith)) in
    let built = subst P (sym c.build_low.ensures.gives.after) (has-build_low _ c.in-Ok.place.0 c.in-Ok.place.0 _ size _ new) in
    let there : c.in-Ok.place.0 ≡ c.low_mark-mark.result + 16 = (low-low_alloc _ _ _ _ given.gives.answer).1 ∙ ap (λ n. n + 16) (sym c.low_mark-mark.ensures.mark) in
    subst (λ n. HasBytes (low_bytes (g.M.Store.state c.build_low.new.self) n) size) there built

pub returns : goal.returns
returns g c = record {
  kept = λ lows low.
      let user = c.args.user ∷ [] in
      let given = c.in-Ok.ensures in
      let built = c.build_low.ensures in
      let users : (g.M.Store.state c.build_low.new.self).users ≡ (g.M.Store.state c.args.store.now).users =
      ap (λ (m : Memory). m.users) built.gives.after ∙ users-build_low _ _ _ _ ∙ ap (λ (m : Memory). m.users) given.gives.after ∙ users-low_alloc _ _ _ in
      let known : c.args.user < (g.M.Store.state c.build_low.new.self).users = rw users c.requires.user in
      let below = subst (λ n. All (λ place. place ≤ n) lows) (sym c.low_mark-mark.ensures.mark) (low-below_end _ lows c.low_mark-mark.ensures.laid low) in
      Keeps-more (Keeps-answer given.gives (Keeps-low_alloc lows user _ _ _ given.was_laid (search rules)))
      (Keeps-more (Keeps-answer built.gives (Keeps-build_low lows user _ _ _ _ (low_new-apart _ _ _ _ lows given.was_laid given.gives.answer low)))
      (Keeps-gives _ _ _ c.move_low_to_cache.ensures.gives (Keeps-move_low_to_cache lows user _ _ _ _ _ built.laid known (search rules) (is_excepted c.args.user) below) (Keeps-low_free lows user _ _ built.laid below)));
}
