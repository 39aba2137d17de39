use Rattle.std.proofs.lemmas.Result.{err_from_is_err_and}
use Rattle.alias_load.proofs.FileLaws.{skins_fault, skins_done, st_fault, st_done, triangles_fault, triangles_done, frames_fault, file_done}
use Rattle.alias_load.proofs.file.read_file.Goals as goal

pub returns-in_err-pictures-clause-is : goal.returns-in_err-pictures-clause-is
returns-in_err-pictures-clause-is c =
    let p = err_from_is_err_and c.from_residual-in_err-pictures.result c.from_residual-in_err-pictures.ensures.1 in
    rw (p.1, p.2) (skins_fault c.args.source.now c.in_ok-header.header.now c.in_ok-header.skins.now c.skins_of.result c.u32_at.result _ c.in_ok-header.ensures.value c.skins_of.ensures c.u32_at.ensures c.in_err-pictures.ensures.value)

pub returns-in_err-st_vertices-clause-is : goal.returns-in_err-st_vertices-clause-is
returns-in_err-st_vertices-clause-is c =
    let p = err_from_is_err_and c.from_residual-in_err-st_vertices.result c.from_residual-in_err-st_vertices.ensures.1 in
    rw (p.1, p.2) (st_fault c.args.source.now c.in_ok-header.header.now c.in_ok-header.skins.now c.skins_of.result c.u32_at.result c.in_ok-pictures.pictures c.in_ok-pictures.rest.now c.u32_at-vertices.result _
    c.in_ok-header.ensures.value c.skins_of.ensures c.u32_at.ensures c.in_ok-pictures.ensures.value c.u32_at-vertices.ensures c.in_err-st_vertices.ensures.value)

pub returns-in_err-triangles-clause-is : goal.returns-in_err-triangles-clause-is
returns-in_err-triangles-clause-is c =
    let p = err_from_is_err_and c.from_residual-in_err-triangles.result c.from_residual-in_err-triangles.ensures.1 in
    let header = c.in_ok-header.header.now in
    let verts = c.u32_at-vertices in
    let s = skins_done c.args.source.now header c.in_ok-header.skins.now c.skins_of.result c.u32_at.result c.in_ok-pictures.pictures c.in_ok-pictures.rest.now c.in_ok-header.ensures.value c.skins_of.ensures c.u32_at.ensures c.in_ok-pictures.ensures.value in
    let t = st_done c.args.source.now header s.0.are c.in_ok-pictures.rest.now verts.result c.in_ok-st_vertices.st_vertices.now c.in_ok-st_vertices.rest.now s.1 verts.ensures c.in_ok-st_vertices.ensures.value in
    rw (p.1, p.2) (triangles_fault c.args.source.now header s.0.are c.in_ok-st_vertices.st_vertices.now c.in_ok-st_vertices.rest.now verts.result c.u32_at-2.result _ t verts.ensures c.u32_at-2.ensures c.in_err-triangles.ensures.value)

pub returns-in_err-poses-clause-is : goal.returns-in_err-poses-clause-is
returns-in_err-poses-clause-is c =
    let p = err_from_is_err_and c.from_residual-in_err-poses.result c.from_residual-in_err-poses.ensures.1 in
    let header = c.in_ok-header.header.now in
    let verts = c.u32_at-vertices in
    let s = skins_done c.args.source.now header c.in_ok-header.skins.now c.skins_of.result c.u32_at.result c.in_ok-pictures.pictures c.in_ok-pictures.rest.now c.in_ok-header.ensures.value c.skins_of.ensures c.u32_at.ensures c.in_ok-pictures.ensures.value in
    let t = st_done c.args.source.now header s.0.are c.in_ok-pictures.rest.now verts.result c.in_ok-st_vertices.st_vertices.now c.in_ok-st_vertices.rest.now s.1 verts.ensures c.in_ok-st_vertices.ensures.value in
    let u = triangles_done c.args.source.now header s.0.are c.in_ok-st_vertices.st_vertices.now c.in_ok-st_vertices.rest.now verts.result c.u32_at-2.result c.in_ok-triangles.triangles.now c.in_ok-triangles.frames.now t verts.ensures c.u32_at-2.ensures c.in_ok-triangles.ensures.value in
    rw (p.1, p.2) (frames_fault c.args.source.now header s.0.are c.in_ok-st_vertices.st_vertices.now c.in_ok-triangles.triangles.now c.in_ok-triangles.frames.now c.frames_of.result c.u32_at-3.result _ u c.frames_of.ensures c.u32_at-3.ensures c.in_err-poses.ensures.value)

pub returns-clause-is : goal.returns-clause-is
returns-clause-is c =
    let header = c.in_ok-header.header.now in
    let verts = c.u32_at-vertices in
    let s = skins_done c.args.source.now header c.in_ok-header.skins.now c.skins_of.result c.u32_at.result c.in_ok-pictures.pictures c.in_ok-pictures.rest.now c.in_ok-header.ensures.value c.skins_of.ensures c.u32_at.ensures c.in_ok-pictures.ensures.value in
    let t = st_done c.args.source.now header s.0.are c.in_ok-pictures.rest.now verts.result c.in_ok-st_vertices.st_vertices.now c.in_ok-st_vertices.rest.now s.1 verts.ensures c.in_ok-st_vertices.ensures.value in
    let u = triangles_done c.args.source.now header s.0.are c.in_ok-st_vertices.st_vertices.now c.in_ok-st_vertices.rest.now verts.result c.u32_at-2.result c.in_ok-triangles.triangles.now c.in_ok-triangles.frames.now t verts.ensures c.u32_at-2.ensures c.in_ok-triangles.ensures.value in
    file_done c.args.source.now header c.in_ok-header.skins.now c.in_ok-pictures.pictures c.in_ok-pictures.rest.now s.0 c.in_ok-st_vertices.st_vertices.now c.in_ok-triangles.triangles.now c.in_ok-triangles.frames.now c.frames_of.result c.u32_at-3.result c.in_ok-poses.poses _ u c.frames_of.ensures c.u32_at-3.ensures c.in_ok-poses.ensures.value
