-- What a call's result tells of the operation's answer: none where the call ran out of memory.
use Rattle.std.specs.Prelude.{ℕ, Option, Some, None, Result, Ok, Err}
use Rattle.mem_model.specs.Event.{Shortage, FreeRefusal, FreeRefusal.NotZone, FreeRefusal.AlreadyFree, CacheRefusal, CacheRefusal.Occupied, CacheRefusal.BadSize, CacheRefusal.NoRoom}
use Rattle.std.specs.Option.{option_map}
use Rattle.mem_model.specs.Rows.{Row}
use Rattle.mem_model.specs.declared.answers.BlockRow.{BlockRow}
use Rattle.mem_model.specs.declared.answers.Place.{Place}
use Rattle.mem_model.specs.declared.answers.BadMark.{BadMark}
use Rattle.mem_model.specs.declared.answers.RoomError.{RoomError}
use Rattle.mem_model.specs.declared.answers.RoomError.TheVariants as room_error
use Rattle.mem_model.specs.declared.answers.ZoneError.{ZoneError}
use Rattle.mem_model.specs.declared.answers.ZoneError.TheVariants as zone_error
use Rattle.mem_model.specs.declared.answers.CacheError.{CacheError}
use Rattle.mem_model.specs.declared.answers.CacheError.TheVariants as cache_error
use Rattle.mem_model.specs.declared.answers.FreeError.{FreeError}
use Rattle.mem_model.specs.declared.answers.FreeError.TheVariants as free_error

abbrev pub room_answer : Result Place RoomError → Option (Result ℕ Shortage)
room_answer (Ok place) = Some (Ok place.0)
room_answer (Err (room_error.NoRoom asked room)) = Some (Err (record { asked = asked; room = room }))
room_answer (Err room_error.OutOfMemory) = None

abbrev pub zone_answer : Result Place ZoneError → Option (Result ℕ ℕ)
zone_answer (Ok place) = Some (Ok place.0)
zone_answer (Err (zone_error.Full asked)) = Some (Err asked)
zone_answer (Err zone_error.OutOfMemory) = None

abbrev pub cache_answer : Result (Unit {0}) CacheError → Option (Result (Unit {0}) CacheRefusal)
cache_answer (Ok done) = Some (Ok done)
cache_answer (Err (cache_error.NoRoom asked room)) = Some (Err (NoRoom (record { asked = asked; room = room })))
cache_answer (Err (cache_error.Occupied user)) = Some (Err (Occupied user))
cache_answer (Err cache_error.BadSize) = Some (Err BadSize)
cache_answer (Err cache_error.OutOfMemory) = None

abbrev pub place_answer : Option Place → Option ℕ
place_answer place = option_map (λ p. p.0) place

abbrev pub free_answer : Result (Unit {0}) FreeError → Result (Unit {0}) FreeRefusal
free_answer (Ok done) = Ok done
free_answer (Err (free_error.NotZone place)) = Err (NotZone place)
free_answer (Err (free_error.AlreadyFree place)) = Err (AlreadyFree place)

abbrev pub mark_answer : Result (Unit {0}) BadMark → Result (Unit {0}) ℕ
mark_answer (Ok done) = Ok done
mark_answer (Err bad) = Err bad.mark

abbrev pub row_of : BlockRow → Row
row_of row = record { place = row.place; size = row.size; name = row.name; user = row.user; used = row.used }

abbrev pub row_answer : Option BlockRow → Option Row
row_answer row = option_map row_of row
