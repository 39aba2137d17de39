use Rattle.std.proofs.Common.{◌≡◌, ◌*◌, drop}
use Rattle.bsp29_tables.specs.Lumps.{rows_in}
use Rattle.bsp29_build.specs.Rows.{face_kind, with_words}
use Rattle.bsp29_build.proofs.Writing.{with_left}
use Rattle.bsp29_build.proofs.faces.put_faces.Given as goal

abbrev pub invariant-loop-n : goal.invariant-loop-n
invariant-loop-n l =
    with_left l.out (l.n * 24) (with_words (face_kind l.textures l.texinfos) (drop l.n (rows_in 20 l.faces)))
    ≡ with_words (face_kind l.textures l.texinfos) (rows_in 20 l.faces)
