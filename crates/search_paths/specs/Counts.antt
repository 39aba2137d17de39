-- The counts of folders, each at its number.
use Rattle.std.specs.Prelude.{◌≡◌, ◌≢◌, ◌<◌, ◌≤◌, ℕ, List, [], ◌∷◌, All, length, map, slice_get, slice_index}
use Rattle.std.specs.Prelude.{slice_set, Result, IfErr}
use Rattle.outside_io.specs.Causes.{Rose, one_more}
use Rattle.search_paths.specs.declared.answers.FolderFault.{FolderFault}

-- no count is less than before
abbrev pub NoneFalls : List ℕ → List ℕ → Type 0
NoneFalls before after = (folder : ℕ) → slice_index before folder ≤ slice_index after folder

-- the count at this number rose
abbrev pub RoseAt : ℕ → List ℕ → List ℕ → Type 0
RoseAt folder before after = Rose (slice_index before folder) (slice_index after folder)

-- No folder's count of faults falls. Where the call failed, the number that is told is a folder's, and its count rose.
pub record HasFolderCause {T : Type 0} (before after : List ℕ) (result : Result T FolderFault) : Type 0 where
  pub none_falls : NoneFalls before after
  pub failed : IfErr result (λ fault. (fault.folder < length before) × RoseAt fault.folder before after)

-- the counts with one call more of each of these folders
abbrev pub calls_more : List ℕ → List ℕ → List ℕ
calls_more [] counts = counts
calls_more (folder ∷ folders) counts = calls_more folders (slice_set counts folder (one_more (slice_index counts folder)))

-- Each of these folders was called once, and no other has changed.
pub record CallsOnce {F : Type 0} (calls : F → ℕ) (folders : List ℕ) (before after : List F) : Type 0 where
  pub counted : map calls after ≡ calls_more folders (map calls before)
  pub others : (number : ℕ) → All (λ folder. folder ≢ number) folders → slice_get after number ≡ slice_get before number
