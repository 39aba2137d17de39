-- Tests that several formats share.
use Rattle.std.specs.Prelude.{ℕ, zero, suc, ◌+◌, ◌*◌, ◌^◌, Bool, not, ◌&&◌, nat_lt, nat_le, List, [], ◌∷◌}
use Rattle.std.specs.List.{list_any, range_with_len}
use Rattle.base_fields.specs.Fields.{u32_in}

-- both ends are taken
abbrev pub is_between : ℕ → ℕ → ℕ → Bool
is_between low high n = nat_le low n && nat_le n high

-- above 0, as a signed number of four bytes
abbrev pub is_positive : ℕ → Bool
is_positive n = nat_lt 0 n && nat_lt n (2 ^ 31)

-- interval i isn't above 0
abbrev pub is_wrong : List ℕ → ℕ → Bool
is_wrong intervals i = not (is_positive (u32_in intervals (4 * i)))

-- one of the first n intervals isn't
abbrev pub has_wrong : ℕ → List ℕ → Bool
has_wrong n intervals = list_any (is_wrong intervals) (range_with_len 0 n)

-- a test for each of n rows, the first one with this number
abbrev pub each_row : {F : Type 0} → (ℕ → Bool) → (ℕ → F) → ℕ → ℕ → List (Bool × F)
each_row is_bad fault row zero = []
each_row is_bad fault row (suc n) = (is_bad row, fault row) ∷ each_row is_bad fault (row + 1) n
