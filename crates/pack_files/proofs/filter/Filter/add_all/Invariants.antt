use Rattle.std.proofs.Common.{◌≡◌, ◌<◌, ℕ, Some}
use Rattle.std.specs.Prelude.{slice_get}
use Rattle.pack_files.specs.Hashes.{hash_of}
use Rattle.pack_files.specs.Filters.{may_have}
use Rattle.pack_files.specs.Packs.{Row}
use Rattle.pack_files.proofs.filter.Filter.add_all.Given as goal

abbrev pub invariant-loop-row : goal.invariant-loop-row
invariant-loop-row l = record {
  added : (j : ℕ) (row : Row) → j < l.row → slice_get l.directory.rows j ≡ Some row → may_have l.self.masks.items l.pack (hash_of row.name) ≡ 1;
  kept : (other name : ℕ) → may_have l.initial.self.masks.items other name ≡ 1 → may_have l.self.masks.items other name ≡ 1;
}
