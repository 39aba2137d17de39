-- What finding and reading the file of a load tell.
use Rattle.std.specs.Prelude.{◌≡◌, ℕ, List, length, Result, Ok, Err}
use Rattle.search_paths.specs.declared.answers.FileRef.{FileRef}
use Rattle.file_load.specs.declared.errors.LoadError.{LoadError}
use Rattle.file_load.specs.declared.errors.LoadError.TheVariants as error
use Rattle.file_load.specs.declared.errors.Stage.TheVariants as stage
use Rattle.file_load.specs.Loads.{Load, Missing, Beyond}

-- a file that was found has as many bytes, or the refusal is the load's
abbrev pub Finds : Result (List ℕ) Load → Result FileRef LoadError → Type 0
Finds given (Ok file) = (bytes : List ℕ) × (given ≡ Ok bytes) × (file.length ≡ length bytes)
Finds given (Err error.NotFound) = given ≡ Err Missing
Finds given (Err (error.BeyondPack end whole)) = given ≡ Err (Beyond end whole)
Finds given (Err (error.NoRoom asked room)) = ⊥
Finds given (Err (error.FolderFault folder at)) = Unit {0}
Finds given (Err error.OutOfMemory) = ⊥

-- an error of the search
abbrev pub IsSought : LoadError → Type 0
IsSought error.NotFound = Unit {0}
IsSought (error.BeyondPack end whole) = Unit {0}
IsSought (error.NoRoom asked room) = ⊥
IsSought (error.FolderFault folder at) = at ≡ stage.Find
IsSought error.OutOfMemory = ⊥

-- an error of the reading
abbrev pub IsUnreadable : LoadError → Type 0
IsUnreadable error.NotFound = ⊥
IsUnreadable (error.BeyondPack end whole) = ⊥
IsUnreadable (error.NoRoom asked room) = ⊥
IsUnreadable (error.FolderFault folder at) = at ≡ stage.Read
IsUnreadable error.OutOfMemory = ⊥
