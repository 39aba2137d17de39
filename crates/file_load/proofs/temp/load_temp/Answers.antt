use Rattle.std.proofs.Common.{◌+◌, refl, ap}
use Rattle.std.proofs.lemmas.Result.{err_from_is_err_and}
use Rattle.mem_model.specs.Told.{room_answer}
use Rattle.mem_model.proofs.Laws.{temp_bytes-written}
use Rattle.mem_model.proofs.Newest.{Laid-with_temp_bytes}
use Rattle.search_paths.specs.Mounts.{find_told}
use Rattle.search_paths.specs.Path.{told_mounts}
use Rattle.file_load.proofs.Asking.{asks_refused, asks_unread, asks_read}
use Rattle.file_load.proofs.Keeping.{kept_same, kept_temp, kept_temp_written}
use Rattle.file_load.proofs.Loading.{zero_behind, room_in}
use Rattle.file_load.proofs.Temps.{fresh, are_zeros, beside_given, beside_written, leaves_early, leaves_refused, leaves_made, leaves_unread, early_temp, refused_temp, unread_temp, loaded_temp}
use Rattle.file_load.proofs.temp.load_temp.Goals as goal

pub returns-in_err-file-clause-leaves : goal.returns-in_err-file-clause-leaves
returns-in_err-file-clause-leaves g c =
    let p = err_from_is_err_and c.from_residual.result c.from_residual.ensures.1 in
    rw (p.1, p.2) (leaves_early _ c.args.name.now c.in_err-file.field-0.0 c.in_err-file.ensures.early)

pub returns-in_err-_place-clause-leaves : goal.returns-in_err-_place-clause-leaves
returns-in_err-_place-clause-leaves g c =
    let p = err_from_is_err_and c.from_residual-in_err-_place.result c.from_residual-in_err-_place.ensures.1 in
    rw (p.1, p.2) (leaves_refused _ c.args.name.now c.in_ok-file.file c.in_err-_place.field-0.0 g.M.Store.frugal _ c.in_err-_place.ensures.gives)

pub returns-in_err-read_whole-clause-leaves : goal.returns-in_err-read_whole-clause-leaves
returns-in_err-read_whole-clause-leaves g c =
    let p = err_from_is_err_and c.from_residual-in_err-read_whole.result c.from_residual-in_err-read_whole.ensures.1 in
    let blank = are_zeros _ _ _ _ _ c.in_ok-_place.ensures.gives c.temp_bytes_mut.ensures.shows in
    rw (p.1, p.2) (leaves_unread _ c.args.name.now c.in_ok-file.file _ _ _ _ _ c.in_ok-_place.ensures.gives c.temp_bytes_mut.ensures.shows blank c.read_whole.auto.into (g.met.M.Store.temp_writes _ _)
    c.in_err-read_whole.field-0.0 c.in_err-read_whole.ensures.late)

pub returns-clause-leaves : goal.returns-clause-leaves
returns-clause-leaves g c =
    let blank = are_zeros _ _ _ _ _ c.in_ok-_place.ensures.gives c.temp_bytes_mut.ensures.shows in
    leaves_made _ c.args.name.now c.in_ok-file.file _ _ _ _ _ c.in_ok-_place.ensures.gives c.temp_bytes_mut.ensures.shows blank c.read_whole.auto.into (g.met.M.Store.temp_writes _ _)

pub returns-in_err-file-clause-told : goal.returns-in_err-file-clause-told
returns-in_err-file-clause-told g c =
    let p = err_from_is_err_and c.from_residual.result c.from_residual.ensures.1 in
    rw (p.1, p.2) (early_temp _ _ (find_told c.args.name.now (told_mounts g.F.Folder.files c.args.paths.now)) c.in_err-file.field-0.0 c.in_err-file.ensures.early c.in_err-file.ensures.told)

pub returns-in_err-_place-clause-told : goal.returns-in_err-_place-clause-told
returns-in_err-_place-clause-told g c =
    let p = err_from_is_err_and c.from_residual-in_err-_place.result c.from_residual-in_err-_place.ensures.1 in
    rw (p.1, p.2) (refused_temp _ _ c.in_ok-file.file (find_told c.args.name.now (told_mounts g.F.Folder.files c.args.paths.now)) c.in_err-_place.field-0.0 g.M.Store.frugal _ c.in_ok-file.ensures.told c.in_err-_place.ensures.gives)

pub returns-in_err-_place-clause-beside : goal.returns-in_err-_place-clause-beside
returns-in_err-_place-clause-beside g c = beside_given _ _ (c.in_ok-file.file.length + 1) g.M.Store.frugal (room_answer c.temp_alloc.result) c.temp_alloc.ensures.gives

pub temp_bytes_mut-requires : goal.temp_bytes_mut-requires
temp_bytes_mut-requires g c = rw (fresh _ _ _ _ c.in_ok-_place.ensures.gives) refl

pub read_whole-requires-clause-fits : goal.read_whole-requires-clause-fits
read_whole-requires-clause-fits g c = room_in _ _ _ (are_zeros _ _ _ _ _ c.in_ok-_place.ensures.gives c.temp_bytes_mut.ensures.shows) refl

pub returns-in_err-read_whole-clause-told : goal.returns-in_err-read_whole-clause-told
returns-in_err-read_whole-clause-told g c =
    let p = err_from_is_err_and c.from_residual-in_err-read_whole.result c.from_residual-in_err-read_whole.ensures.1 in
    let blank = are_zeros _ _ _ _ _ c.in_ok-_place.ensures.gives c.temp_bytes_mut.ensures.shows in
    rw (p.1, p.2) (unread_temp _ _ c.in_ok-file.file _ _ _ _ _ c.in_ok-_place.ensures.gives c.temp_bytes_mut.ensures.shows blank c.read_whole.auto.into (g.met.M.Store.temp_writes _ _)
    (find_told c.args.name.now (told_mounts g.F.Folder.files c.args.paths.now)) c.in_err-read_whole.field-0.0 c.in_err-read_whole.ensures.late c.in_ok-file.ensures.told)

pub returns-in_err-read_whole-clause-laid : goal.returns-in_err-read_whole-clause-laid
returns-in_err-read_whole-clause-laid g c = λ before. rw g.met.M.Store.temp_writes (Laid-with_temp_bytes _ _ c.temp_alloc.ensures.laid)

pub returns-in_err-read_whole-clause-beside : goal.returns-in_err-read_whole-clause-beside
returns-in_err-read_whole-clause-beside g c =
    beside_written _ _ _ (c.in_ok-file.file.length + 1) _ g.M.Store.frugal (room_answer c.temp_alloc.result) c.temp_alloc.ensures.gives (g.met.M.Store.temp_writes _ _)

pub returns-clause-told : goal.returns-clause-told
returns-clause-told g c =
    let blank = are_zeros _ _ _ _ _ c.in_ok-_place.ensures.gives c.temp_bytes_mut.ensures.shows in
    loaded_temp _ _ c.in_ok-file.file _ _ _ _ _ c.in_ok-_place.ensures.gives c.temp_bytes_mut.ensures.shows blank c.read_whole.auto.into (g.met.M.Store.temp_writes _ _)
    (find_told c.args.name.now (told_mounts g.F.Folder.files c.args.paths.now)) _ (ap (find_told c.args.name.now) c.in_ok-file.ensures.same.mounts) c.in_ok-file.ensures.told c.in_ok-file.ensures.first c.in_ok-read_whole.ensures.filled

pub returns-clause-there : goal.returns-clause-there
returns-clause-there g c =
    let blank = are_zeros _ _ _ _ _ c.in_ok-_place.ensures.gives c.temp_bytes_mut.ensures.shows in
    rw (g.met.M.Store.temp_writes, temp_bytes-written _ _ c.read_whole.new.into c.temp_bytes_mut.ensures.shows c.read_whole.auto.into) (room_in _ _ _ blank c.read_whole.auto.into)

pub returns-clause-zero : goal.returns-clause-zero
returns-clause-zero g c =
    let blank = are_zeros _ _ _ _ _ c.in_ok-_place.ensures.gives c.temp_bytes_mut.ensures.shows in
    rw (g.met.M.Store.temp_writes, temp_bytes-written _ _ c.read_whole.new.into c.temp_bytes_mut.ensures.shows c.read_whole.auto.into)
    (zero_behind _ _ _ blank c.read_whole.auto.into c.in_ok-read_whole.ensures.rest)

pub returns-clause-laid : goal.returns-clause-laid
returns-clause-laid g c = λ before. rw g.met.M.Store.temp_writes (Laid-with_temp_bytes _ _ c.temp_alloc.ensures.laid)

pub returns-clause-beside : goal.returns-clause-beside
returns-clause-beside g c =
    beside_written _ _ _ (c.in_ok-file.file.length + 1) _ g.M.Store.frugal (room_answer c.temp_alloc.result) c.temp_alloc.ensures.gives (g.met.M.Store.temp_writes _ _)

pub returns-in_err-_place-clause-asked : goal.returns-in_err-_place-clause-asked
returns-in_err-_place-clause-asked g c =
    let p = err_from_is_err_and c.from_residual-in_err-_place.result c.from_residual-in_err-_place.ensures.1 in
    rw (p.1, p.2) (asks_refused g.F.Folder.folder_calls c.args.name.now _ _ c.args.paths.now.folders _ c.in_ok-file.file c.in_ok-file.ensures.first c.in_ok-file.ensures.asked c.in_err-_place.field-0.0)

pub returns-in_err-read_whole-clause-asked : goal.returns-in_err-read_whole-clause-asked
returns-in_err-read_whole-clause-asked g c =
    let p = err_from_is_err_and c.from_residual-in_err-read_whole.result c.from_residual-in_err-read_whole.ensures.1 in
    rw (p.1, p.2) (asks_unread g.F.Folder.folder_calls c.args.name.now _ _ c.args.paths.now.folders _ c.in_ok-file.file c.in_ok-file.ensures.first c.in_ok-file.ensures.asked _ c.in_ok-file.ensures.sized.mount
    (rw c.in_ok-file.ensures.same.rows at c.in_err-read_whole.ensures.asked) c.in_err-read_whole.field-0.0 c.in_err-read_whole.ensures.late)

pub returns-clause-asked : goal.returns-clause-asked
returns-clause-asked g c =
    asks_read g.F.Folder.folder_calls c.args.name.now _ _ c.args.paths.now.folders _ c.in_ok-file.file c.in_ok-file.ensures.first c.in_ok-file.ensures.asked _ c.in_ok-file.ensures.sized.mount
    (rw c.in_ok-file.ensures.same.rows at c.in_ok-read_whole.ensures.asked)

pub returns-in_err-file-clause-keeps : goal.returns-in_err-file-clause-keeps
returns-in_err-file-clause-keeps g c = λ laid. kept_same _

pub returns-in_err-_place-clause-keeps : goal.returns-in_err-_place-clause-keeps
returns-in_err-_place-clause-keeps g c = λ laid. kept_temp _ _ (c.in_ok-file.file.length + 1) g.M.Store.frugal (room_answer c.temp_alloc.result) laid c.temp_alloc.ensures.gives

pub returns-in_err-read_whole-clause-keeps : goal.returns-in_err-read_whole-clause-keeps
returns-in_err-read_whole-clause-keeps g c = λ laid. kept_temp_written _ _ _ _ _ _ laid c.in_ok-_place.ensures.gives (g.met.M.Store.temp_writes _ _)

pub returns-clause-keeps : goal.returns-clause-keeps
returns-clause-keeps g c = λ laid. kept_temp_written _ _ _ _ _ _ laid c.in_ok-_place.ensures.gives (g.met.M.Store.temp_writes _ _)
