-- How a refusal is told of a resource.
use Rattle.std.specs.Prelude.{Option, Some, None, Result, Ok, Err}
use Rattle.file_load.specs.declared.errors.LoadError.{LoadError}
use Rattle.file_load.specs.declared.errors.LoadError.TheVariants as load
use Rattle.mem_model.specs.Event.{CacheRefusal, CacheRefusal.NoRoom}
use Rattle.mem_model.specs.declared.answers.CacheError.{CacheError}
use Rattle.mem_model.specs.declared.answers.CacheError.TheVariants as cache
use Rattle.mem_model.specs.declared.answers.RoomError.{RoomError}
use Rattle.mem_model.specs.declared.answers.RoomError.TheVariants as room
use Rattle.res_table.specs.declared.answers.AcquireError.{AcquireError}
use Rattle.res_table.specs.declared.answers.AcquireError.TheVariants as error

abbrev pub load_refused : LoadError → AcquireError
load_refused load.NotFound = error.NotFound
load_refused (load.BeyondPack end whole) = error.BeyondPack end whole
load_refused (load.NoRoom asked room) = error.NoRoom asked room
load_refused (load.FolderFault folder stage) = error.FolderFault folder
load_refused load.OutOfMemory = error.OutOfMemory

abbrev pub room_refused : RoomError → AcquireError
room_refused (room.NoRoom asked left) = error.NoRoom asked left
room_refused room.OutOfMemory = error.OutOfMemory

-- A block was given, there was no room for it, or memory ran out.
abbrev pub IsOfRoom : Result (Unit {0}) CacheError → Type 0
IsOfRoom (Ok done) = Unit {0}
IsOfRoom (Err (cache.NoRoom asked room)) = Unit {0}
IsOfRoom (Err (cache.Occupied user)) = ⊥
IsOfRoom (Err cache.BadSize) = ⊥
IsOfRoom (Err cache.OutOfMemory) = Unit {0}

-- what is told of a user's new block, whose refusal is of room alone
abbrev pub block_answer : Result (Unit {0}) RoomError → Option (Result (Unit {0}) CacheRefusal)
block_answer (Ok done) = Some (Ok done)
block_answer (Err (room.NoRoom asked left)) = Some (Err (NoRoom (record { asked = asked; room = left })))
block_answer (Err room.OutOfMemory) = None
