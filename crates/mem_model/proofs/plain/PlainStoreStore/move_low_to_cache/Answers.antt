use Rattle.std.proofs.Common.{◌≡◌, ◌∙◌, ◌+◌, ◌<◌, ◌-◌, Some, false, refl, ap, sym, subst, arith, take, Ok, Err}
use Rattle.std.proofs.lemmas.Result.{err_from_is_err_and}
use Rattle.mem_model.specs.Answer.{Answers, Gives, RanOut}
use Rattle.mem_model.specs.Blocks.{CacheBlock}
use Rattle.mem_model.specs.Laid.{Laid}
use Rattle.mem_model.specs.Cache.{new_block, with_fitted}
use Rattle.mem_model.specs.Hunk.{cut_above, low_bytes}
use Rattle.mem_model.specs.Images.{with_contents}
use Rattle.mem_model.specs.Memory.{Cache, Memory, low_used}
use Rattle.mem_model.specs.Told.{cache_answer}
use Rattle.mem_model.specs.Operations.{low_free, move_low_to_cache}
use Rattle.mem_model.specs.Plain.{IsGiven}
use Rattle.mem_model.specs.PlainState.{state_of}
use Rattle.mem_model.proofs.Calling.{low_free_cut}
use Rattle.mem_model.proofs.CacheLaws.{Laid-move_low_to_cache}
use Rattle.mem_model.proofs.Moving.{filled_is, move_given, move_refused}
use Rattle.mem_model.proofs.plain.PlainStoreStore.move_low_to_cache.Goals as goal
use Rattle.mem_model.proofs.plain.PlainStoreStore.move_low_to_cache.Goals.{After-take_low-bytes}

quiet : (c : After-take_low-bytes) → c.args.self.now.event_room ≡ 0
quiet c = ap (λ (m : Memory). m.event_room) (sym c.self.view_is)

-- want of memory, with the low hunk freed
ended : (c : After-take_low-bytes) → RanOut false (low_free c.args.self.now c.args.mark).after c.take_low-bytes.new.self
ended c = record {
  not_frugal = refl;
  after = c.take_low-bytes.ensures.rest ∙ (low_free_cut c.args.self.now c.args.mark c.take_low-bytes.new.self.low (quiet c) c.take_low-bytes.ensures.cut).after;
}

pub returns-in_err-need-clause-gives : goal.returns-in_err-need-clause-gives
returns-in_err-need-clause-gives c =
    let p = err_from_is_err_and c.from_residual.result c.from_residual.ensures.1 in
    let d = (goal.at.returns-in_err-need-clause-gives c).After-take_low-bytes in
    let m : Memory = c.args.self.now in
    let left : Memory = (low_free m c.args.mark).after in
    let given = rw c.from.ensures at (c.in_err-need.ensures.refused c.args.name.now) in
    let moves = move_refused m c.args.user c.args.size c.args.name.now false left c.args.mark c.take_low-bytes.new.self.low (quiet d) c.take_low-bytes.ensures.cut c.in_err-need.field-0.0 given in
    rw (p.1, p.2) (subst (λ n. Gives (move_low_to_cache m c.args.mark c.args.user c.args.size c.args.name.now) false left (cache_answer (Err c.in_err-need.field-0.0)) n) (sym c.take_low-bytes.ensures.rest) moves)

pub returns-in_err-cell-clause-gives : goal.returns-in_err-cell-clause-gives
returns-in_err-cell-clause-gives c =
    let p = err_from_is_err_and c.from_residual-in_err-cell.result c.from_residual-in_err-cell.ensures.1 in
    rw (p.1, p.2) (ended (goal.at.returns-in_err-cell-clause-gives c).After-take_low-bytes)

pub add-requires-clause-block : goal.add-requires-clause-block
add-requires-clause-block c =
    let given = c.in_ok-need.ensures.need in
    rw c.in_ok-cell.ensures
    (filled_is c.in_ok-need.field-0 c.args.user c.args.name.now c.truncate.new.self.items (omega (arith, given.is, given.some)) (omega (arith, given.is)) c.ranges.user.fits c.requires.name)

pub returns-in_err-add-clause-gives : goal.returns-in_err-add-clause-gives
returns-in_err-add-clause-gives c =
    let p = err_from_is_err_and c.from_residual-in_err-add.result c.from_residual-in_err-add.ensures.1 in
    let d = (goal.at.returns-in_err-add-clause-gives c).After-take_low-bytes in
    rw (p.1, p.2, c.in_err-add.ensures.err) (record { not_frugal = refl; after = c.self-2.view_is ∙ (ended d).after })

-- the memory between, which differs by its low blocks
cut : (c : goal.In_ok-add) → state_of c.self-2.inside ≡ record (state_of c.self.inside) { low = c.take_low-bytes.new.self.low }
cut c = c.self-2.view_is ∙ c.take_low-bytes.ensures.rest ∙ ap (λ (n : Memory). record n { low = c.take_low-bytes.new.self.low }) (sym c.self.view_is)

taken : (c : goal.In_ok-add) → Answers (move_low_to_cache (state_of c.self.inside) c.args.mark c.args.user c.args.size c.args.name.now) (Ok tt) (record (state_of c.self-2.inside) { cache = c.add.new.self })
taken c =
    let m : Memory = state_of c.self.inside in
    let bytes = c.take_low-bytes.result.items in
    let kept = c.take_low-bytes.new.self.low in
    let top = c.self.inside.size - c.self.inside.high_used in
    let shows : low_bytes m (c.args.mark + 16) ≡ Some bytes = rw (← c.self.view_is) at c.take_low-bytes.ensures.bytes in
    let cuts : cut_above m.low c.args.mark ≡ Some kept = rw (← c.self.view_is) at c.take_low-bytes.ensures.cut in
    let given : IsGiven m c.args.user c.args.size c.in_ok-need.field-0 = rw (← c.self.view_is, c.from.ensures) at c.in_ok-need.ensures.need in
    let b : CacheBlock = with_contents (new_block 0 c.in_ok-need.field-0 c.args.user c.args.name.now) (take c.args.size bytes) in
    let moves = move_given m c.args.mark c.args.user c.args.size c.in_ok-need.field-0 top c.args.name.now bytes kept refl shows cuts given (ap (λ n. c.self.inside.size - n) c.self.invariant.high_used) in
    let added : c.add.new.self ≡ with_fitted c.self.inside.cache (low_used m) top b = rw (ap (λ (n : Memory). n.cache) (cut c), c.in_ok-cell.ensures, c.truncate.ensures.items, c.self.invariant.low_used) at c.in_ok-add.ensures.ok in
    record {
      answer = moves.answer;
      after = ap (λ (n : Memory). record n { cache = c.add.new.self }) (cut c) ∙ ap (λ (k : Cache). record m { low = kept; cache = k }) added ∙ moves.after;
    }

pub invariant_of-self-2 : goal.invariant_of-self-2
invariant_of-self-2 c =
    let m : Memory = state_of c.self.inside in
    let known : c.args.user < m.users = subst (λ (n : Memory). c.args.user < n.users) (sym c.self.view_is) c.requires.user in
    record {
      laid = subst Laid (sym (taken c).after) (Laid-move_low_to_cache m c.args.mark c.args.user c.args.size c.args.name.now c.self.invariant.laid known c.requires.name);
      low_used = c.self-2.invariant.low_used;
      high_used = c.self-2.invariant.high_used;
      low_ends = c.self-2.invariant.low_ends;
      high_ends = c.self-2.invariant.high_ends;
    }

pub returns-clause-gives : goal.returns-clause-gives
returns-clause-gives c = rw (← c.self.view_is) (taken c)

pub returns-clause-laid : goal.returns-clause-laid
returns-clause-laid c = (invariant_of-self-2 c).laid
