use Rattle.std.proofs.lemmas.Result.{err_from_is_err_and}
use Rattle.base_fields.specs.Names.{base_of}
use Rattle.search_paths.specs.Path.{told_mounts}
use Rattle.res_table.proofs.Asking.{asked_bad, asked_failed, asked_made, asked_no_block}
use Rattle.res_table.proofs.Beside.{low_beside}
use Rattle.res_table.proofs.Lowering.{grows_more}
use Rattle.res_table.proofs.Loading.{bad_image, built, failed_load, image_loaded, no_block, none_frugal, is_ready, still_free}
use Rattle.res_table.proofs.Kept.{kept_but, kept_more}
use Rattle.res_table.proofs.load.load.Goals as goal

pub returns-in_err-length-clause-makes : goal.returns-in_err-length-clause-makes
returns-in_err-length-clause-makes g c =
    let p = err_from_is_err_and c.from_residual.result c.from_residual.ensures.1 in
    rw (p.1, p.2) (failed_load c.args.speed c.args.table c.args.user (base_of c.args.file.now) _ c.in_err-length.field-0.0 _ c.in_err-length.ensures.told)

pub returns-in_err-image-clause-makes : goal.returns-in_err-image-clause-makes
returns-in_err-image-clause-makes g c =
    let p = err_from_is_err_and c.from_residual-in_err-image.result c.from_residual-in_err-image.ensures.1 in
    rw (p.1, p.2) (bad_image c.args.speed c.args.table c.args.user (base_of c.args.file.now) _ _ c.in_ok-length.length c.in_ok-length.ensures.told
    c.in_err-image.field-0.0 c.in_err-image.ensures)

pub build_image-requires-clause-free : goal.build_image-requires-clause-free
build_image-requires-clause-free g c = still_free _ _ c.args.user (c.load_temp.ensures.keeps c.requires.laid) c.requires.free

pub build_image-requires-clause-ready : goal.build_image-requires-clause-ready
build_image-requires-clause-ready g c =
    is_ready _ c.args.speed c.in_ok-length.length _ c.in_ok-image.image (c.load_temp.ensures.laid c.requires.laid) c.in_ok-length.ensures.there c.in_ok-image.ensures

pub returns-in_err-place-clause-makes : goal.returns-in_err-place-clause-makes
returns-in_err-place-clause-makes g c =
    let p = err_from_is_err_and c.from_residual-in_err-place.result c.from_residual-in_err-place.ensures.1 in
    rw (p.1, p.2) (no_block c.args.speed c.args.table c.args.user (base_of c.args.file.now) _ _ c.in_ok-length.length c.in_ok-length.ensures.told
    c.in_ok-image.image c.in_ok-image.ensures c.in_err-place.field-0.0 g.M.Store.frugal _ (rw c.base.ensures.value at c.in_err-place.ensures.gives))

pub returns-in_err-place-clause-memory : goal.returns-in_err-place-clause-memory
returns-in_err-place-clause-memory g c =
    let p = err_from_is_err_and c.from_residual-in_err-place.result c.from_residual-in_err-place.ensures.1 in
    rw (p.1, p.2) (none_frugal c.args.speed c.args.table c.args.user (base_of c.args.file.now) _ _ c.in_ok-length.length c.in_ok-length.ensures.told
    c.in_ok-image.image c.in_ok-image.ensures c.in_err-place.field-0.0 g.M.Store.frugal _ (rw c.base.ensures.value at c.in_err-place.ensures.gives))

pub returns-clause-makes : goal.returns-clause-makes
returns-clause-makes g c =
    built c.args.speed c.args.table c.args.user (base_of c.args.file.now) _ _ c.in_ok-length.length c.in_ok-length.ensures.told
    c.in_ok-image.image c.in_ok-image.ensures c.in_ok-place.place.0 _ (rw c.base.ensures.value at c.in_ok-place.ensures.gives)

pub returns-in_err-length-clause-keeps : goal.returns-in_err-length-clause-keeps
returns-in_err-length-clause-keeps g c =
    let p = err_from_is_err_and c.from_residual.result c.from_residual.ensures.1 in
    rw p.1 (c.load_temp.ensures.keeps c.requires.laid)

pub returns-in_err-image-clause-keeps : goal.returns-in_err-image-clause-keeps
returns-in_err-image-clause-keeps g c =
    let p = err_from_is_err_and c.from_residual-in_err-image.result c.from_residual-in_err-image.ensures.1 in
    rw p.1 (c.load_temp.ensures.keeps c.requires.laid)

pub returns-in_err-place-clause-keeps : goal.returns-in_err-place-clause-keeps
returns-in_err-place-clause-keeps g c =
    let p = err_from_is_err_and c.from_residual-in_err-place.result c.from_residual-in_err-place.ensures.1 in
    rw p.1 (kept_more (c.load_temp.ensures.keeps c.requires.laid) c.in_err-place.ensures.keeps)

pub returns-clause-keeps : goal.returns-clause-keeps
returns-clause-keeps g c = kept_more (kept_but _ (c.load_temp.ensures.keeps c.requires.laid)) c.in_ok-place.ensures.keeps

pub returns-clause-built : goal.returns-clause-built
returns-clause-built g c =
    image_loaded c.args.speed c.args.table c.args.file.now (told_mounts g.F.Folder.files c.args.paths.now) (g.M.Store.state c.args.store.now) (g.M.Store.state c.load_temp.new.store)
    c.in_ok-length.length c.in_ok-image.image _ _ (c.load_temp.ensures.laid c.requires.laid) c.in_ok-length.ensures.told c.in_ok-image.ensures c.in_ok-place.ensures.built

pub returns-in_err-length-clause-low : goal.returns-in_err-length-clause-low
returns-in_err-length-clause-low g c = low_beside (g.M.Store.state c.args.store.now) (g.M.Store.state c.load_temp.new.store) c.load_temp.ensures.beside

pub returns-in_err-image-clause-low : goal.returns-in_err-image-clause-low
returns-in_err-image-clause-low g c = low_beside (g.M.Store.state c.args.store.now) (g.M.Store.state c.load_temp.new.store) c.load_temp.ensures.beside

pub returns-in_err-length-clause-asked : goal.returns-in_err-length-clause-asked
returns-in_err-length-clause-asked g c =
    let p = err_from_is_err_and c.from_residual.result c.from_residual.ensures.1 in
    rw (p.1, p.2) (asked_failed g.F.Folder.folder_calls c.args.file.now _ _ _ _ c.in_err-length.field-0.0 c.in_err-length.ensures.asked)

pub returns-in_err-image-clause-asked : goal.returns-in_err-image-clause-asked
returns-in_err-image-clause-asked g c =
    let p = err_from_is_err_and c.from_residual-in_err-image.result c.from_residual-in_err-image.ensures.1 in
    rw (p.1, p.2) (asked_bad g.F.Folder.folder_calls c.args.file.now _ _ _ _ c.in_ok-length.ensures.asked c.in_err-image.field-0.0)

pub returns-in_err-place-clause-asked : goal.returns-in_err-place-clause-asked
returns-in_err-place-clause-asked g c =
    let p = err_from_is_err_and c.from_residual-in_err-place.result c.from_residual-in_err-place.ensures.1 in
    rw (p.1, p.2) (asked_no_block g.F.Folder.folder_calls c.args.file.now _ _ _ _ c.in_ok-length.ensures.asked c.in_err-place.field-0.0)

pub returns-clause-asked : goal.returns-clause-asked
returns-clause-asked g c = asked_made g.F.Folder.folder_calls c.args.file.now _ _ _ _ c.in_ok-length.ensures.asked _

pub returns-in_err-place-clause-low : goal.returns-in_err-place-clause-low
returns-in_err-place-clause-low g c =
    grows_more (g.M.Store.state c.args.store.now) (g.M.Store.state c.load_temp.new.store) (g.M.Store.state c.build_image.new.store)
    (low_beside (g.M.Store.state c.args.store.now) (g.M.Store.state c.load_temp.new.store) c.load_temp.ensures.beside) c.in_err-place.ensures.low

pub returns-clause-low : goal.returns-clause-low
returns-clause-low g c =
    grows_more (g.M.Store.state c.args.store.now) (g.M.Store.state c.load_temp.new.store) (g.M.Store.state c.build_image.new.store)
    (low_beside (g.M.Store.state c.args.store.now) (g.M.Store.state c.load_temp.new.store) c.load_temp.ensures.beside) c.in_ok-place.ensures.low
