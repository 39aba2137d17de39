use Rattle.std.proofs.Common.{◌≡◌, ◌*◌, drop}
use Rattle.bsp29_tables.specs.Lumps.{rows_in}
use Rattle.bsp29_build.specs.Rows.{sign_bits, with_words}
use Rattle.bsp29_build.proofs.Writing.{with_left}
use Rattle.bsp29_build.proofs.planes.put_planes.Given as goal

abbrev pub invariant-loop-n : goal.invariant-loop-n
invariant-loop-n l =
    with_left l.out (l.n * 24) (with_words sign_bits (drop l.n (rows_in 20 l.planes)))
    ≡ with_words sign_bits (rows_in 20 l.planes)
