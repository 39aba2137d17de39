use Rattle.std.proofs.Common.{refl, rules}
use Rattle.std.proofs.lemmas.Result.{err_from_is_err_and}
use Rattle.res_table.specs.Images.{image_of}
use Rattle.res_table.specs.Refusals.{block_answer}
use Rattle.res_table.proofs.Beside.{beside_asked, beside_built}
use Rattle.res_table.proofs.Caching.{built_for, front-cached, image-cached, none_cached_for, source-cached, stands-built}
use Rattle.res_table.proofs.Kept.{kept_built, kept_no_block}
use Rattle.res_table.proofs.cached.build_cached.Goals as goal

pub returns-in_err-take_block-clause-gives : goal.returns-in_err-take_block-clause-gives
returns-in_err-take_block-clause-gives g c =
    let p = err_from_is_err_and c.from_residual.result c.from_residual.ensures.1 in
    rw (p.1, p.2) (none_cached_for _ _ c.args.user c.args.image.now.size c.args.name.now g.M.Store.frugal c.requires.free.absent c.requires.ready.some c.in_err-take_block.field-0.0 _
    c.requires.ready.image c.in_err-take_block.ensures.gives)

pub returns-in_err-take_block-clause-keeps : goal.returns-in_err-take_block-clause-keeps
returns-in_err-take_block-clause-keeps g c =
    let p = err_from_is_err_and c.from_residual.result c.from_residual.ensures.1 in
    rw p.1 (kept_no_block _ _ c.args.user c.args.image.now.size c.args.name.now g.M.Store.frugal c.in_err-take_block.field-0.0 c.in_err-take_block.ensures.gives)

pub returns-in_err-take_block-clause-beside : goal.returns-in_err-take_block-clause-beside
returns-in_err-take_block-clause-beside g c =
    beside_asked _ _ c.args.user c.args.image.now.size c.args.name.now g.M.Store.frugal (block_answer c.take_block.result) c.take_block.ensures.gives

pub build_cache-requires-clause-source : goal.build_cache-requires-clause-source
build_cache-requires-clause-source g c =
    source-cached _ _ c.args.user c.args.image.now.size c.args.name.now c.in_ok-take_block.ensures.gives c.args.image.now.length c.requires.ready.source

pub build_cache-requires-clause-image : goal.build_cache-requires-clause-image
build_cache-requires-clause-image g c =
    image-cached _ _ c.args.user c.args.image.now.size c.args.name.now c.in_ok-take_block.ensures.gives c.take_block.ensures.was_laid c.requires.free.known c.requires.name
    (image_of c.args.image.now.builder.speed c.args.image.now.builder.kind) c.args.image.now.length c.requires.ready.image

pub unwrap-requires : goal.unwrap-requires
unwrap-requires g c =
    stands-built _ _ c.args.user c.args.image.now.size c.args.name.now c.in_ok-take_block.ensures.gives c.take_block.ensures.was_laid c.requires.free.known c.requires.name
    _ (image_of c.args.image.now.builder.speed c.args.image.now.builder.kind) c.args.image.now.length _ c.build_cache.ensures.gives c.peek_place.ensures.place

pub returns-clause-gives : goal.returns-clause-gives
returns-clause-gives g c =
    built_for _ _ _ _ c.args.user c.args.image.now.length c.args.image.now.size c.unwrap.result.0 c.args.name.now (image_of c.args.image.now.builder.speed c.args.image.now.builder.kind) refl c.requires.ready.image
    c.in_ok-take_block.ensures.gives c.build_cache.ensures.gives (search rules)

pub returns-clause-built : goal.returns-clause-built
returns-clause-built g c =
    front-cached _ _ c.args.user c.args.image.now.size c.args.name.now c.in_ok-take_block.ensures.gives c.take_block.ensures.was_laid c.requires.free.known c.requires.name
    _ (image_of c.args.image.now.builder.speed c.args.image.now.builder.kind) c.args.image.now.length _ refl c.requires.ready.image c.build_cache.ensures.gives

pub returns-clause-keeps : goal.returns-clause-keeps
returns-clause-keeps g c =
    kept_built _ _ _ c.args.user c.args.image.now.size c.args.image.now.length c.args.name.now (image_of c.args.image.now.builder.speed c.args.image.now.builder.kind)
    c.take_block.ensures.was_laid c.requires.free.known c.requires.name c.in_ok-take_block.ensures.gives c.build_cache.ensures.gives

pub returns-clause-beside : goal.returns-clause-beside
returns-clause-beside g c =
    beside_built _ _ _ c.args.user c.args.image.now.size c.args.image.now.length c.args.name.now (image_of c.args.image.now.builder.speed c.args.image.now.builder.kind) _ c.in_ok-take_block.ensures.gives
    c.build_cache.ensures.gives
