-- The calls of folders that the loading of a resource makes.
use Rattle.std.specs.Prelude.{◌≡◌, ℕ, List, Option, Some, None, Result, Ok, Err}
use Rattle.search_paths.specs.declared.answers.MountRow.{MountRow}
use Rattle.search_paths.specs.Mounts.{Mount}
use Rattle.file_load.specs.declared.errors.LoadError.{LoadError}
use Rattle.file_load.specs.Calls.{AsksFor}
use Rattle.res_table.specs.declared.answers.AcquireError.{AcquireError}
use Rattle.res_table.specs.declared.answers.AcquireError.TheVariants as error
use Rattle.res_table.specs.declared.answers.Res.{Res}
use Rattle.res_table.specs.Refusals.{load_refused}

-- How the load of the file ended, by what was answered: with an error that is told so, or with none.
abbrev pub IsLoadEnd : Option LoadError → Result Res AcquireError → Type 0
IsLoadEnd (Some e) result = result ≡ Err (load_refused e)
IsLoadEnd None (Ok res) = Unit {0}
IsLoadEnd None (Err error.TableFull) = ⊥
IsLoadEnd None (Err error.NotFound) = ⊥
IsLoadEnd None (Err (error.BeyondPack end whole)) = ⊥
IsLoadEnd None (Err (error.Bad fault)) = Unit {0}
IsLoadEnd None (Err (error.NoRoom asked room)) = Unit {0}
IsLoadEnd None (Err (error.FolderFault folder)) = ⊥
IsLoadEnd None (Err error.OutOfMemory) = Unit {0}

-- The folders are asked for the file as one load asks them.
pub record AsksOnce {F : Type 0} (calls : F → ℕ) (file : List ℕ) (mounts : List (Option Mount)) (rows : List MountRow)
    (before after : List F) (result : Result Res AcquireError) : Type 0 where
  pub end : Option LoadError
  pub ended : IsLoadEnd end result
  pub asks : AsksFor calls file mounts rows before after end
