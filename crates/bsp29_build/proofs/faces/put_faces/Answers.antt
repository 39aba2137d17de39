use Rattle.std.proofs.Common.{◌≡◌, ◌<◌, ◌+◌, ◌*◌, ◌++◌, ℕ, List, [], length, get_or, ap, sym, ◌∙◌, arith}
use Rattle.std.proofs.lemmas.List.{length-take, length-drop}
use Rattle.std.proofs.lemmas.Option.{slice_get-get_or}
use Rattle.base_fields.specs.Fields.{u32_bytes}
use Rattle.bsp29_tables.specs.Lumps.{rows_in}
use Rattle.bsp29_tables.proofs.Cutting.{length-rows_in, get_or-rows_in}
use Rattle.bsp29_build.specs.Rows.{face_kind}
use Rattle.bsp29_build.proofs.Writing.{more_written, all_written}
use Rattle.bsp29_build.proofs.faces.put_faces.Goals as goal

pub put_face-requires-clause-texinfo : goal.put_face-requires-clause-texinfo
put_face-requires-clause-texinfo c =
    let faces = c.args.faces.now in
    let n = c.loop-n.n in
    let below : n < length (rows_in 20 faces) = rw length-rows_in c.loop-n-test.true in
    rw (get_or-rows_in 20 faces n c.loop-n-test.true) at
    (c.requires.named n (get_or (rows_in 20 faces) n []) (slice_get-get_or (rows_in 20 faces) n [] below))

pub loop-n-preserved : goal.loop-n-preserved
loop-n-preserved c =
    let faces = c.args.faces.now in
    let n = c.loop-n.n in
    let row : List ℕ → List ℕ =
    λ face. face ++ u32_bytes (face_kind c.args.textures.now c.args.texinfos.now face) in
    let below : n < length (rows_in 20 faces) = rw length-rows_in c.loop-n-test.true in
    let long : length c.put_face.new.out ≡ 24 =
    c.put_face.auto.out ∙ simp (length-take, length-drop) (omega (arith, c.loop-n.auto.out)) in
    let is : c.put_face.new.out ≡ row (get_or (rows_in 20 faces) n []) =
    c.put_face.ensures ∙ ap row (sym (get_or-rows_in 20 faces n c.loop-n-test.true)) in
    more_written row (rows_in 20 faces) [] c.loop-n.out c.put_face.new.out _ n (n * 24) _ ((n + 1) * 24) below
    c.loop-n.invariant is (omega (arith, long)) (omega (arith, c.loop-n.auto.out))

pub returns : goal.returns
returns c =
    let faces = c.args.faces.now in
    all_written (λ face. face ++ u32_bytes (face_kind c.args.textures.now c.args.texinfos.now face)) (rows_in 20 faces)
    c.loop-n.out _ c.loop-n.n (c.loop-n.n * 24) (rw length-rows_in c.loop-n-test.false)
    (omega (arith, c.loop-n.auto.out)) c.loop-n.invariant
