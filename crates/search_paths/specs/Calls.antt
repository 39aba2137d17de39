-- The calls of a folder that its mounting makes.
use Rattle.std.specs.Prelude.{◌≡◌, ◌==◌, ◌<◌, ◌≤◌, ℕ, ◌+◌, ◌*◌, if◌then◌else◌, List, Option, Some, None, IfSome}
use Rattle.std.specs.Prelude.{IsSomeAnd, IsOk, IfErr, Result, Ok, Err}
use Rattle.outside_io.specs.Causes.{many_more}
use Rattle.outside_io.specs.Files.{File, bytes_of}
use Rattle.pack_files.specs.Packs.{pack_of}
use Rattle.pack_files.specs.Reads.{reads_of}
use Rattle.search_paths.specs.declared.answers.MountError.{MountError}
use Rattle.search_paths.specs.declared.answers.MountError.TheVariants as error
use Rattle.search_paths.specs.Mounts.{pack_name}

-- each of the first packs, so many, is there and is a pack that is taken
abbrev pub AreTaken : ℕ → List File → Type 0
AreTaken taken files =
    (pack : ℕ) → pack < taken → IsSomeAnd (bytes_of (pack_name pack) files) (λ bytes. IsOk (pack_of bytes))

-- how many calls a pack takes that is missing, or has these bytes: one for its length, and those that read it
abbrev pub calls_for : Option (List ℕ) → ℕ
calls_for None = 1
calls_for (Some bytes) = 1 + reads_of bytes

-- How many packs were taken, and how many calls were made for the next one, by what was answered where so many are mounted.
abbrev pub Stops : ℕ → ℕ → ℕ → Result (Unit {0}) MountError → Type 0
Stops mounted taken next (Ok done) = (taken ≡ mounted) × (next ≡ (if mounted == 32 then 0 else 1))
Stops mounted taken next (Err (error.BadPack folder pack fault)) = (taken ≡ pack) × (1 ≤ next) × (next ≤ 2)
Stops mounted taken next (Err (error.FolderFault folder)) = (taken < 32) × (1 ≤ next) × (next ≤ 3)
Stops mounted taken next (Err error.OutOfMemory) = (taken ≤ 32) × (next ≤ 3)

-- The calls that were made for the next pack are those that it takes, or the first of them up to one that failed.
abbrev pub AreNeeded : ℕ → ℕ → Result (Unit {0}) MountError → Type 0
AreNeeded next all (Ok done) = next ≤ all
AreNeeded next all (Err (error.BadPack folder pack fault)) = next ≡ all
AreNeeded next all (Err (error.FolderFault folder)) = next ≤ all
AreNeeded next all (Err error.OutOfMemory) = next ≤ all

-- The calls that a mounting made: three for each pack that was taken, of its length, its header and its directory, and then
-- those for the next pack. Where the folder tells its files, no pack before that one is bad.
pub record Asks {F : Type 0} (files : F → Option (List File)) (calls : F → ℕ) (mounted : ℕ) (before after : F)
    (result : Result (Unit {0}) MountError) : Type 0 where
  pub taken : ℕ
  pub next : ℕ
  pub called : calls after ≡ many_more (3 * taken + next) (calls before)
  pub stops : Stops mounted taken next result
  pub good : IfSome (files before) (AreTaken taken)
  pub needed : IfSome (files before) (λ all. AreNeeded next (calls_for (bytes_of (pack_name taken) all)) result)

-- How many calls were made for one pack, by what was answered for it.
abbrev pub StopsAt : {T : Type 0} → ℕ → ℕ → Result (Option T) MountError → Type 0
StopsAt pack next (Ok None) = next ≡ 1
StopsAt pack next (Ok (Some directory)) = next ≡ 3
StopsAt pack next (Err fault) = Stops 0 pack next (Err fault)

-- The calls that were made for one pack. Where the folder tells its files, a fault came at one that the pack takes.
pub record AsksPack {F T : Type 0} (files : F → Option (List File)) (calls : F → ℕ) (pack : ℕ) (before after : F)
    (result : Result (Option T) MountError) : Type 0 where
  pub next : ℕ
  pub called : calls after ≡ many_more next (calls before)
  pub stops : StopsAt pack next result
  pub needed : IfErr result (λ fault.
      IfSome (files before) (λ all. AreNeeded next (calls_for (bytes_of (pack_name pack) all)) (Err fault)))
