use Rattle.std.proofs.Common.{◌≡◌, ◌<◌, ◌+◌, ◌*◌, ◌++◌, ℕ, List, [], length, get_or, ap, sym, ◌∙◌, arith}
use Rattle.std.proofs.lemmas.List.{length-take, length-drop}
use Rattle.base_fields.specs.Fields.{u32_bytes}
use Rattle.bsp29_tables.specs.Lumps.{rows_in}
use Rattle.bsp29_tables.proofs.Cutting.{length-rows_in, get_or-rows_in}
use Rattle.bsp29_build.specs.Rows.{sign_bits}
use Rattle.bsp29_build.proofs.Writing.{more_written, all_written}
use Rattle.bsp29_build.proofs.planes.put_planes.Goals as goal

pub loop-n-preserved : goal.loop-n-preserved
loop-n-preserved c =
    let planes = c.args.planes.now in
    let n = c.loop-n.n in
    let row : List ℕ → List ℕ = λ plane. plane ++ u32_bytes (sign_bits plane) in
    let below : n < length (rows_in 20 planes) = rw length-rows_in c.loop-n-test.true in
    let long : length c.put_plane.new.out ≡ 24 =
    c.put_plane.auto.out ∙ simp (length-take, length-drop) (omega (arith, c.loop-n.auto.out)) in
    let is : c.put_plane.new.out ≡ row (get_or (rows_in 20 planes) n []) =
    c.put_plane.ensures ∙ ap row (sym (get_or-rows_in 20 planes n c.loop-n-test.true)) in
    more_written row (rows_in 20 planes) [] c.loop-n.out c.put_plane.new.out _ n (n * 24) _ ((n + 1) * 24) below
    c.loop-n.invariant is (omega (arith, long)) (omega (arith, c.loop-n.auto.out))

pub returns : goal.returns
returns c =
    let planes = c.args.planes.now in
    all_written (λ plane. plane ++ u32_bytes (sign_bits plane)) (rows_in 20 planes) c.loop-n.out _ c.loop-n.n
    (c.loop-n.n * 24) (rw length-rows_in c.loop-n-test.false) (omega (arith, c.loop-n.auto.out)) c.loop-n.invariant
