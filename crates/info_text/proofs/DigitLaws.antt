-- The digits by arithmetic.
use Rattle.std.proofs.Common.{◌≡◌, ℕ, ◌+◌, ◌<◌, nat_lt, if◌then◌else◌, slice_index, arith}
use Rattle.std.proofs.lemmas.List.FromFn.{get_or-map-range_with_len}
use Rattle.hex.specs.Hex.{lower_digits}

abbrev computed : ℕ → ℕ
computed half = if nat_lt half 10 then 48 + half else 87 + half

-- the table is what is computed of the numbers below 16
pub digit_of_half : (half : ℕ) → half < 16 → slice_index lower_digits half ≡ computed half
digit_of_half half small = get_or-map-range_with_len computed 0 16 half half 0 small (omega arith)
