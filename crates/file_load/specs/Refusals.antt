-- How a refusal of a block is told of a load.
use Rattle.mem_model.specs.declared.answers.RoomError.{RoomError}
use Rattle.mem_model.specs.declared.answers.RoomError.TheVariants as room_error
use Rattle.file_load.specs.declared.errors.LoadError.{LoadError}
use Rattle.file_load.specs.declared.errors.LoadError.TheVariants as load_error

abbrev pub refused : RoomError → LoadError
refused (room_error.NoRoom asked room) = load_error.NoRoom asked room
refused room_error.OutOfMemory = load_error.OutOfMemory
