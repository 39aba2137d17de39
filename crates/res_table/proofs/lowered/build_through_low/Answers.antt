use Rattle.std.proofs.Common.{◌≡◌, ◌+◌, Ok, Err, rules, sym, ap, ◌∙◌}
use Rattle.std.specs.Prelude.{IfOk}
use Rattle.std.proofs.lemmas.Result.{err_from_is_err_and}
use Rattle.mem_model.specs.Answer.{Answers}
use Rattle.mem_model.specs.Hunk.{low_bytes}
use Rattle.mem_model.specs.Images.{HasBytes}
use Rattle.res_table.specs.Kept.{BeginsWith}
use Rattle.res_table.specs.Placed.{lowered}
use Rattle.res_table.specs.Ready.{IsFree, image_in}
use Rattle.res_table.proofs.Loading.{still_free}
use Rattle.res_table.proofs.Lowering.{through_ended}
use Rattle.res_table.proofs.Moving.{IsMoved, begins_moved, has_begun, kept_moved, low_again, moved_err, moved_ok, stands-moved, through_gives, zone_again}
use Rattle.res_table.proofs.lowered.build_through_low.Given.{Over}
use Rattle.res_table.proofs.lowered.build_through_low.Goals as goal
use Rattle.res_table.proofs.lowered.build_through_low.Goals.{After-move_block, After-unwrap, In_err-move_block}

pub returns-in_err-build_lowered-clause-gives : goal.returns-in_err-build_lowered-clause-gives
returns-in_err-build_lowered-clause-gives g c =
    let p = err_from_is_err_and c.from_residual.result c.from_residual.ensures.1 in
    rw (p.1, p.2) (through_ended _ _ c.args.user c.args.name.now g.M.Store.frugal _ c.in_err-build_lowered.field-0.0 c.in_err-build_lowered.ensures.gives)

pub returns-in_err-build_lowered-clause-keeps : goal.returns-in_err-build_lowered-clause-keeps
returns-in_err-build_lowered-clause-keeps g c =
    let p = err_from_is_err_and c.from_residual.result c.from_residual.ensures.1 in
    rw p.1 c.in_err-build_lowered.ensures.keeps

pub move_block-requires-clause-free : goal.move_block-requires-clause-free
move_block-requires-clause-free g c = still_free _ _ c.args.user c.in_ok-build_lowered.ensures.keeps c.requires.free

-- the low block, which stands at the mark
place : (g : Over) (c : After-move_block g) → c.in_ok-build_lowered.field-0.0 ≡ c.low_mark-mark.result + 16
place g c = c.in_ok-build_lowered.ensures.place ∙ ap (λ n. n + 16) (sym c.low_mark-mark.ensures.mark)

begins : (g : Over) (c : After-move_block g) → IfOk (image_in (g.M.Store.state c.args.store.now) c.args.image.now) (BeginsWith (low_bytes (g.M.Store.state c.build_lowered.new.store) (c.low_mark-mark.result + 16)))
begins g c = rw (place g c) at c.in_ok-build_lowered.ensures.built

lowers : (g : Over) (c : After-move_block g) → IfOk (image_in (g.M.Store.state c.args.store.now) c.args.image.now) (λ image. Answers (lowered (g.M.Store.state c.args.store.now) image c.args.name.now) (Ok (c.low_mark-mark.result + 16)) (g.M.Store.state c.build_lowered.new.store))
lowers g c = rw (place g c) at c.in_ok-build_lowered.ensures.gives

has : (g : Over) (c : After-move_block g) → HasBytes (low_bytes (g.M.Store.state c.build_lowered.new.store) (c.low_mark-mark.result + 16)) c.args.image.now.size
has g c = has_begun (image_in (g.M.Store.state c.args.store.now) c.args.image.now) _ c.args.image.now.size c.requires.ready.image (begins g c)

free : (g : Over) (c : After-move_block g) → IsFree (g.M.Store.state c.build_lowered.new.store) c.args.user
free g c = still_free _ _ c.args.user c.in_ok-build_lowered.ensures.keeps c.requires.free

-- what the moving left, where there was no room, and where there was
refused : (g : Over) (c : In_err-move_block g) → IsFree (g.M.Store.state c.build_lowered.new.store) c.args.user → HasBytes (low_bytes (g.M.Store.state c.build_lowered.new.store) (c.low_mark-mark.result + 16)) c.args.image.now.size →
    IsMoved (g.M.Store.state c.build_lowered.new.store) (g.M.Store.state c.move_block.new.store) c.args.user c.args.image.now.size c.low_mark-mark.result c.args.name.now g.M.Store.frugal (Err c.in_err-move_block.field-0.0)
refused g c free has =
    moved_err _ _ c.args.user c.args.image.now.size c.low_mark-mark.result c.args.name.now g.M.Store.frugal c.move_block.ensures.was_laid free c.requires.name c.requires.ready.some has
    c.in_err-move_block.field-0.0 c.in_err-move_block.ensures.gives

pub returns-in_err-move_block-clause-gives : goal.returns-in_err-move_block-clause-gives
returns-in_err-move_block-clause-gives g c =
    let p = err_from_is_err_and c.from_residual-in_err-move_block.result c.from_residual-in_err-move_block.ensures.1 in
    let at = goal.at.returns-in_err-move_block-clause-gives g c in
    let d = at.After-move_block in
    rw (p.1, p.2) (through_gives (g.M.Store.state c.args.store.now) _ _ c.args.user c.args.image.now.size c.low_mark-mark.result c.args.name.now g.M.Store.frugal _ c.low_mark-mark.ensures.laid c.in_ok-build_lowered.ensures.low c.low_mark-mark.ensures.mark
    (refused g at.In_err-move_block (free g d) (has g d)) (image_in (g.M.Store.state c.args.store.now) c.args.image.now) c.requires.ready.image (begins g d) (lowers g d))

pub returns-in_err-move_block-clause-keeps : goal.returns-in_err-move_block-clause-keeps
returns-in_err-move_block-clause-keeps g c =
    let at = goal.at.returns-in_err-move_block-clause-keeps g c in
    let d = at.After-move_block in
    let p = err_from_is_err_and c.from_residual-in_err-move_block.result c.from_residual-in_err-move_block.ensures.1 in
    rw p.1 (kept_moved (g.M.Store.state c.args.store.now) _ _ c.args.user c.args.image.now.size c.low_mark-mark.result c.args.name.now g.M.Store.frugal _ c.low_mark-mark.ensures.laid c.in_ok-build_lowered.ensures.low c.low_mark-mark.ensures.mark
    (refused g at.In_err-move_block (free g d) (has g d)) c.in_ok-build_lowered.ensures.keeps)

pub returns-in_err-move_block-clause-low : goal.returns-in_err-move_block-clause-low
returns-in_err-move_block-clause-low g c =
    let at = goal.at.returns-in_err-move_block-clause-low g c in
    let d = at.After-move_block in
    low_again (g.M.Store.state c.args.store.now) _ _ c.args.user c.args.image.now.size c.low_mark-mark.result c.args.name.now g.M.Store.frugal _ c.low_mark-mark.ensures.laid c.in_ok-build_lowered.ensures.low c.low_mark-mark.ensures.mark
    (refused g at.In_err-move_block (free g d) (has g d))

pub returns-in_err-move_block-clause-zone : goal.returns-in_err-move_block-clause-zone
returns-in_err-move_block-clause-zone g c =
    let at = goal.at.returns-in_err-move_block-clause-zone g c in
    let d = at.After-move_block in
    zone_again (g.M.Store.state c.args.store.now) _ _ c.args.user c.args.image.now.size c.low_mark-mark.result c.args.name.now g.M.Store.frugal _ c.low_mark-mark.ensures.laid c.in_ok-build_lowered.ensures.low c.low_mark-mark.ensures.mark
    (refused g at.In_err-move_block (free g d) (has g d)) c.in_ok-build_lowered.ensures.beside

pub unwrap-requires : goal.unwrap-requires
unwrap-requires g c =
    let d = (goal.at.unwrap-requires g c).After-move_block in
    stands-moved _ _ c.args.user c.args.image.now.size c.low_mark-mark.result c.args.name.now g.M.Store.frugal c.move_block.ensures.was_laid (free g d) c.requires.name c.requires.ready.some (has g d)
    c.in_ok-move_block.ensures.gives c.peek_place.result c.peek_place.ensures.place

moved : (g : Over) (c : After-unwrap g) → IsFree (g.M.Store.state c.build_lowered.new.store) c.args.user → HasBytes (low_bytes (g.M.Store.state c.build_lowered.new.store) (c.low_mark-mark.result + 16)) c.args.image.now.size →
    IsMoved (g.M.Store.state c.build_lowered.new.store) (g.M.Store.state c.move_block.new.store) c.args.user c.args.image.now.size c.low_mark-mark.result c.args.name.now g.M.Store.frugal (Ok c.unwrap.result)
moved g c free has =
    moved_ok _ _ c.args.user c.args.image.now.size c.low_mark-mark.result c.args.name.now g.M.Store.frugal c.move_block.ensures.was_laid free c.requires.name c.requires.ready.some has
    c.in_ok-move_block.ensures.gives c.unwrap.result (search rules)

pub returns-clause-gives : goal.returns-clause-gives
returns-clause-gives g c =
    let at = goal.at.returns-clause-gives g c in
    let d = at.After-move_block in
    through_gives (g.M.Store.state c.args.store.now) _ _ c.args.user c.args.image.now.size c.low_mark-mark.result c.args.name.now g.M.Store.frugal _ c.low_mark-mark.ensures.laid c.in_ok-build_lowered.ensures.low c.low_mark-mark.ensures.mark
    (moved g at.After-unwrap (free g d) (has g d)) (image_in (g.M.Store.state c.args.store.now) c.args.image.now) c.requires.ready.image (begins g d) (lowers g d)

pub returns-clause-built : goal.returns-clause-built
returns-clause-built g c =
    let at = goal.at.returns-clause-built g c in
    let d = at.After-move_block in
    begins_moved (g.M.Store.state c.args.store.now) _ _ c.args.user c.args.image.now.size c.low_mark-mark.result c.args.name.now g.M.Store.frugal _ c.low_mark-mark.ensures.laid c.in_ok-build_lowered.ensures.low c.low_mark-mark.ensures.mark
    (moved g at.After-unwrap (free g d) (has g d)) (image_in (g.M.Store.state c.args.store.now) c.args.image.now) c.requires.ready.image (begins g d)

pub returns-clause-keeps : goal.returns-clause-keeps
returns-clause-keeps g c =
    let at = goal.at.returns-clause-keeps g c in
    let d = at.After-move_block in
    kept_moved (g.M.Store.state c.args.store.now) _ _ c.args.user c.args.image.now.size c.low_mark-mark.result c.args.name.now g.M.Store.frugal _ c.low_mark-mark.ensures.laid c.in_ok-build_lowered.ensures.low c.low_mark-mark.ensures.mark
    (moved g at.After-unwrap (free g d) (has g d)) c.in_ok-build_lowered.ensures.keeps

pub returns-clause-low : goal.returns-clause-low
returns-clause-low g c =
    let at = goal.at.returns-clause-low g c in
    let d = at.After-move_block in
    low_again (g.M.Store.state c.args.store.now) _ _ c.args.user c.args.image.now.size c.low_mark-mark.result c.args.name.now g.M.Store.frugal _ c.low_mark-mark.ensures.laid c.in_ok-build_lowered.ensures.low c.low_mark-mark.ensures.mark
    (moved g at.After-unwrap (free g d) (has g d))

pub returns-clause-zone : goal.returns-clause-zone
returns-clause-zone g c =
    let at = goal.at.returns-clause-zone g c in
    let d = at.After-move_block in
    zone_again (g.M.Store.state c.args.store.now) _ _ c.args.user c.args.image.now.size c.low_mark-mark.result c.args.name.now g.M.Store.frugal _ c.low_mark-mark.ensures.laid c.in_ok-build_lowered.ensures.low c.low_mark-mark.ensures.mark
    (moved g at.After-unwrap (free g d) (has g d)) c.in_ok-build_lowered.ensures.beside
