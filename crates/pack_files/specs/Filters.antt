-- Filters of packs.
use Rattle.std.specs.Prelude.{◌≡◌, ℕ, ◌%◌, List, slice_get, slice_index, Some}
use Rattle.std.specs.Int.{bit_at}
use Rattle.pack_files.specs.Hashes.{hash_of}
use Rattle.pack_files.specs.Packs.{Row}

-- 1 where a pack may have a name of this hash, else 0
abbrev pub may_have : List ℕ → ℕ → ℕ → ℕ
may_have masks pack hash = bit_at (slice_index masks (hash % 65536)) pack

-- a pack may have each name of these rows
abbrev pub HasRows : List ℕ → ℕ → List Row → Type 0
HasRows masks pack rows = (j : ℕ) (row : Row) → slice_get rows j ≡ Some row → may_have masks pack (hash_of row.name) ≡ 1
