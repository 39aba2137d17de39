-- The folders are asked as one load asks them.
use Rattle.std.proofs.Common.{ℕ, List, Option, Some, None, Ok, Err, refl}
use Rattle.mem_model.specs.declared.answers.RoomError.{RoomError}
use Rattle.mem_model.specs.declared.answers.RoomError.TheVariants as room
use Rattle.search_paths.specs.declared.answers.MountRow.{MountRow}
use Rattle.search_paths.specs.Mounts.{Mount}
use Rattle.file_load.specs.declared.errors.LoadError.{LoadError}
use Rattle.file_load.specs.Calls.{AsksFor}
use Rattle.res_table.specs.declared.answers.AcquireError.TheVariants as why
use Rattle.res_table.specs.declared.answers.Fault.{Fault}
use Rattle.res_table.specs.declared.answers.Res.{Res}
use Rattle.res_table.specs.Calls.{AsksOnce}
use Rattle.res_table.specs.Refusals.{load_refused, room_refused}

module _ {F : Type 0} (calls : F → ℕ) (file : List ℕ) (mounts : List (Option Mount)) (rows : List MountRow) (before after : List F) where
  pub asked_failed : (e : LoadError) → AsksFor calls file mounts rows before after (Some e) → AsksOnce calls file mounts rows before after (Err (load_refused e))
  asked_failed e asks = record { end = Some e; ended = refl; asks = asks }

  -- the file was loaded
  module _ (asks : AsksFor calls file mounts rows before after None) where
    pub asked_bad : (fault : Fault) → AsksOnce calls file mounts rows before after (Err (why.Bad fault))
    asked_bad fault = record { end = None; ended = tt; asks = asks }

    pub asked_no_block : (e : RoomError) → AsksOnce calls file mounts rows before after (Err (room_refused e))
    asked_no_block (room.NoRoom need left) = record { end = None; ended = tt; asks = asks }
    asked_no_block room.OutOfMemory = record { end = None; ended = tt; asks = asks }

    pub asked_made : (res : Res) → AsksOnce calls file mounts rows before after (Ok res)
    asked_made res = record { end = None; ended = tt; asks = asks }
