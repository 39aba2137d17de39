-- A fault of a folder when a resource is acquired.
use Rattle.std.specs.Prelude.{ℕ, ◌<◌, List, length}
use Rattle.search_paths.specs.Counts.{RoseAt}
use Rattle.res_table.specs.declared.answers.AcquireError.{AcquireError}
use Rattle.res_table.specs.declared.answers.AcquireError.TheVariants as error

-- a folder's fault comes only where there is a folder of the number, and its count rose
abbrev pub IsAcquireFault : List ℕ → List ℕ → AcquireError → Type 0
IsAcquireFault before after error.TableFull = Unit {0}
IsAcquireFault before after error.NotFound = Unit {0}
IsAcquireFault before after (error.BeyondPack end whole) = Unit {0}
IsAcquireFault before after (error.Bad fault) = Unit {0}
IsAcquireFault before after (error.NoRoom asked room) = Unit {0}
IsAcquireFault before after (error.FolderFault folder) = (folder < length before) × RoseAt folder before after
IsAcquireFault before after error.OutOfMemory = Unit {0}
