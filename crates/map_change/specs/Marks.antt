-- The marks that the low hunk can be freed to.
use Rattle.std.specs.Prelude.{◌≡◌, ℕ, ◌<◌, ◌≤◌, List, length, take}
use Rattle.mem_model.specs.Blocks.{HunkBlock}
use Rattle.mem_model.specs.Memory.{size_of}

-- The mark is one of the low hunk: the end of the zone's block, or of one above it.
pub record IsLowMark (low : List HunkBlock) (mark : ℕ) : Type 0 where
  pub count : ℕ
  pub some : 0 < count
  pub inside : count ≤ length low
  pub ends : size_of (take count low) ≡ mark
