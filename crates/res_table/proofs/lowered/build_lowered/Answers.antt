use Rattle.std.proofs.Common.{refl}
use Rattle.std.proofs.lemmas.Result.{err_from_is_err_and}
use Rattle.mem_model.proofs.Laws.{low-low_alloc}
use Rattle.res_table.specs.Images.{image_of}
use Rattle.res_table.proofs.Lowering.{beside_ended, beside_lowered, front-lowered, grows_lowered, grows_same, image-lowered, kept_ended, kept_lowered, low_ended, lowered_ended, lowered_for, source-lowered}
use Rattle.res_table.proofs.lowered.build_lowered.Goals as goal

pub returns-in_err-place-clause-gives : goal.returns-in_err-place-clause-gives
returns-in_err-place-clause-gives g c =
    let p = err_from_is_err_and c.from_residual.result c.from_residual.ensures.1 in
    rw (p.1, p.2) (lowered_ended _ _ c.args.image.now.size c.args.name.now g.M.Store.frugal _ c.in_err-place.field-0.0 c.requires.ready.image c.in_err-place.ensures.gives)

pub returns-in_err-place-clause-keeps : goal.returns-in_err-place-clause-keeps
returns-in_err-place-clause-keeps g c =
    kept_ended _ _ c.args.image.now.size c.args.name.now g.M.Store.frugal c.in_err-place.field-0.0 c.low_alloc.ensures.was_laid c.requires.name c.in_err-place.ensures.gives

pub returns-in_err-place-clause-low : goal.returns-in_err-place-clause-low
returns-in_err-place-clause-low g c =
    grows_same (g.M.Store.state c.args.store.now) (g.M.Store.state c.low_alloc.new.self) (low_ended _ _ c.args.image.now.size c.args.name.now g.M.Store.frugal c.in_err-place.field-0.0 c.in_err-place.ensures.gives)

pub returns-in_err-place-clause-refused : goal.returns-in_err-place-clause-refused
returns-in_err-place-clause-refused g c =
    let p = err_from_is_err_and c.from_residual.result c.from_residual.ensures.1 in
    rw p.1 (low_ended _ _ c.args.image.now.size c.args.name.now g.M.Store.frugal c.in_err-place.field-0.0 c.in_err-place.ensures.gives)

pub returns-in_err-place-clause-beside : goal.returns-in_err-place-clause-beside
returns-in_err-place-clause-beside g c =
    beside_ended _ _ c.args.image.now.size c.args.name.now g.M.Store.frugal c.in_err-place.field-0.0 c.in_err-place.ensures.gives

pub build_low-requires-clause-source : goal.build_low-requires-clause-source
build_low-requires-clause-source g c =
    source-lowered _ _ c.args.image.now.size c.in_ok-place.place.0 c.args.name.now c.low_alloc.ensures.was_laid c.in_ok-place.ensures.gives c.args.image.now.length c.requires.ready.source

pub build_low-requires-clause-image : goal.build_low-requires-clause-image
build_low-requires-clause-image g c =
    image-lowered _ _ c.args.image.now.size c.in_ok-place.place.0 c.args.name.now c.low_alloc.ensures.was_laid c.in_ok-place.ensures.gives
    (image_of c.args.image.now.builder.speed c.args.image.now.builder.kind) c.args.image.now.length c.requires.ready.image

pub returns-clause-gives : goal.returns-clause-gives
returns-clause-gives g c =
    lowered_for _ _ c.args.image.now.size c.in_ok-place.place.0 c.args.name.now c.low_alloc.ensures.was_laid c.in_ok-place.ensures.gives _
    (image_of c.args.image.now.builder.speed c.args.image.now.builder.kind) c.args.image.now.length c.build_low.ensures.gives _ refl c.requires.ready.image

pub returns-clause-built : goal.returns-clause-built
returns-clause-built g c =
    front-lowered _ _ c.args.image.now.size c.in_ok-place.place.0 c.args.name.now c.low_alloc.ensures.was_laid c.in_ok-place.ensures.gives _
    (image_of c.args.image.now.builder.speed c.args.image.now.builder.kind) c.args.image.now.length c.build_low.ensures.gives _ refl c.requires.ready.image

pub returns-clause-keeps : goal.returns-clause-keeps
returns-clause-keeps g c =
    kept_lowered _ _ c.args.image.now.size c.in_ok-place.place.0 c.args.name.now c.low_alloc.ensures.was_laid c.in_ok-place.ensures.gives _
    (image_of c.args.image.now.builder.speed c.args.image.now.builder.kind) c.args.image.now.length c.build_low.ensures.gives c.requires.name

pub returns-clause-low : goal.returns-clause-low
returns-clause-low g c =
    grows_lowered _ _ c.args.image.now.size c.in_ok-place.place.0 c.args.name.now c.low_alloc.ensures.was_laid c.in_ok-place.ensures.gives _
    (image_of c.args.image.now.builder.speed c.args.image.now.builder.kind) c.args.image.now.length c.build_low.ensures.gives

pub returns-clause-beside : goal.returns-clause-beside
returns-clause-beside g c =
    beside_lowered _ _ c.args.image.now.size c.in_ok-place.place.0 c.args.name.now c.low_alloc.ensures.was_laid c.in_ok-place.ensures.gives _
    (image_of c.args.image.now.builder.speed c.args.image.now.builder.kind) c.args.image.now.length c.build_low.ensures.gives

pub returns-clause-place : goal.returns-clause-place
returns-clause-place g c = (low-low_alloc _ c.args.image.now.size c.in_ok-place.place.0 c.args.name.now c.in_ok-place.ensures.gives.answer).1
