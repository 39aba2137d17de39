-- Counts of calls that are made one after another.
use Rattle.std.proofs.Common.{◌≡◌, ℕ, ◌+◌, arith}
use Rattle.outside_io.specs.Causes.{many_more}

pub many_more-none : (count : ℕ) → many_more 0 count ≡ count
many_more-none count = omega arith

pub many_more-twice : (first second count : ℕ) → many_more second (many_more first count) ≡ many_more (first + second) count
many_more-twice first second count = omega arith
